-- Each clause is a lemma.
use Rattle.apf_history.proofs.Settled.{isolated, balanced, isolated_by_seats}
use Rattle.apf_history.proofs.histories.every_settled_log_isolates.Goals as goal

pub returns : goal.returns
returns c = record { isolated = isolated; balanced = balanced; by_seats = isolated_by_seats }
