use Rattle.apf_gate.proofs.Between.{nobody_came}
use Rattle.apf_gate.proofs.laws.nobody_came_between.Goals as goal

pub returns : goal.returns
returns c = nobody_came
