-- The clause is a lemma.
use Rattle.apf_history.proofs.Balance.{isolated}
use Rattle.apf_history.proofs.histories.every_fair_history_isolates.Goals as goal

pub returns : goal.returns
returns c = record { isolated = isolated }
