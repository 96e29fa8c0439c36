use Rattle.std.proofs.Common.{arith}
use Rattle.apf_lending.specs.Claims.{max_limit}
use Rattle.apf_lending.proofs.Rounding.{rounded_to}
use Rattle.apf_lending.proofs.shares.limit_by.Goals as goal

pub overflow_cast-result : goal.overflow_cast-result
overflow_cast-result c =
    let few = rounded_to c.share_of.result c.args.factor.under max_limit c.requires.some c.share_of.ensures.most in
    let is = c.rounded.ensures in
    omega (arith, few, is)
