use Rattle.std.proofs.Common.{arith}
use Rattle.std.proofs.lemmas.Grind.{common_steps}
use Rattle.apf_lending.specs.Shares.{share_of}
use Rattle.apf_lending.proofs.shares.share_of.Goals as goal

pub returns-clause-value : goal.returns-clause-value
unfolding share_of
returns-clause-value c = grind (arith, common_steps)
