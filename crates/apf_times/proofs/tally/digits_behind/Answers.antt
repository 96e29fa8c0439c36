-- The digits behind the first eight.
use Rattle.std.proofs.Common.{arith}
use Rattle.apf_times.specs.Waits.{digits_behind}
use Rattle.apf_times.proofs.tally.digits_behind.Goals as goal

pub returns : goal.returns
unfolding digits_behind
returns c = omega arith
