-- The place of a wait.
use Rattle.std.proofs.Common.{◌^◌, ◌+◌, ◌*◌, ◌/◌, ap, arith}
use Rattle.apf_times.specs.Waits.{place_of}
use Rattle.apf_times.proofs.Digits.{digits_behind_small, place_early}
use Rattle.apf_times.proofs.tally.place.Goals as goal

pub overflow_shr-result : goal.overflow_shr-result
overflow_shr-result c = let few = digits_behind_small c.args.wait in let is = c.digits_behind-behind.ensures in omega arith

pub returns-clause-is : goal.returns-clause-is
unfolding place_of
returns-clause-is c = ap (λ b. 128 * b + c.args.wait / 2 ^ b) c.digits_behind-behind.ensures

pub returns-clause-inside : goal.returns-clause-inside
returns-clause-inside c = let is = returns-clause-is c in let early = place_early c.args.wait c.requires in omega arith
