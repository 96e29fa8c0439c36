-- Each clause is a lemma.
use Rattle.apf_history.proofs.Charges.{same_charges}
use Rattle.apf_history.proofs.SettledStanding.{settled_stands, same_charged, same_runs}
use Rattle.apf_history.proofs.histories.every_settled_log_stands.Goals as goal

pub returns-clause-stands : goal.returns-clause-stands
returns-clause-stands c = settled_stands

pub returns-clause-numbers : goal.returns-clause-numbers
returns-clause-numbers c = same_charged

pub returns-clause-running : goal.returns-clause-running
returns-clause-running c = same_runs

pub returns-clause-charges : goal.returns-clause-charges
returns-clause-charges c = same_charges
