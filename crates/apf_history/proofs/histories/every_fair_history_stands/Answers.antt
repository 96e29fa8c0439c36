-- The clause is a lemma.
use Rattle.apf_history.proofs.Standing.{fair_stands}
use Rattle.apf_history.proofs.histories.every_fair_history_stands.Goals as goal

pub returns : goal.returns
returns c = fair_stands
