use Rattle.std.proofs.Common.{arith}
use Rattle.std.proofs.lemmas.Grind.{common_steps}
use Rattle.apf_bound.specs.Pairs.{cell}
use Rattle.apf_bound.proofs.pairs.Pairs.get.Goals as goal

pub returns : goal.returns
unfolding cell
returns c = grind (arith, common_steps)
