-- Each clause is a lemma.
use Rattle.apf_history.proofs.Balance.{IsFair-append, balanced}
use Rattle.apf_history.proofs.histories.every_fair_history_is_balanced.Goals as goal

pub returns-clause-beginnings : goal.returns-clause-beginnings
returns-clause-beginnings c = IsFair-append

pub returns-clause-balanced : goal.returns-clause-balanced
returns-clause-balanced c = balanced
