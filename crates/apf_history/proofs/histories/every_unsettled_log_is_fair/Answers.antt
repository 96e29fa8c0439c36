-- Each clause is a lemma.
use Rattle.apf_history.proofs.Settled.{same_events, same_numbers, fair, settled}
use Rattle.apf_history.proofs.histories.every_unsettled_log_is_fair.Goals as goal

pub returns-clause-same : goal.returns-clause-same
returns-clause-same c = same_events

pub returns-clause-numbers : goal.returns-clause-numbers
returns-clause-numbers c = same_numbers

pub returns-clause-fair : goal.returns-clause-fair
returns-clause-fair c = fair

pub returns-clause-settled : goal.returns-clause-settled
returns-clause-settled c = settled
