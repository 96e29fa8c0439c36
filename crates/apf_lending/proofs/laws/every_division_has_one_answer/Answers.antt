use Rattle.apf_lending.proofs.Divided.{same_division}
use Rattle.apf_lending.proofs.laws.every_division_has_one_answer.Goals as goal

pub returns : goal.returns
returns c seats claims some other are is same = same_division seats claims some other are is same
