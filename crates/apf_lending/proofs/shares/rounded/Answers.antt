use Rattle.std.proofs.Common.{refl}
use Rattle.apf_lending.specs.Shares.{rounded}
use Rattle.apf_lending.proofs.shares.rounded.Goals as goal

pub returns : goal.returns
unfolding rounded
returns c = refl
