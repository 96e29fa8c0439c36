use Rattle.apf_gate.proofs.LifeEnding.{life_agrees}
use Rattle.apf_gate.proofs.laws.every_end_for_life_agrees.Goals as goal

pub returns : goal.returns
returns c = life_agrees
