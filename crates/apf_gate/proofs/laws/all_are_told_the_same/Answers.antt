use Rattle.apf_gate.proofs.Same.{all_are_told_the_same}
use Rattle.apf_gate.proofs.laws.all_are_told_the_same.Goals as goal

pub returns : goal.returns
returns c = all_are_told_the_same
