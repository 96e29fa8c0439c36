use Rattle.std.proofs.Common.{arith, ℕ, ◌*◌, ◌-◌, ◌≤◌}
use Rattle.std.proofs.Math.Nat.{mul-le-mul_left}
use Rattle.apf_lending.specs.Shares.{rounded}
use Rattle.apf_lending.proofs.Rounding.{rounded_to}
use Rattle.apf_lending.proofs.division.limit_of_part.Goals as goal

few : (above over under : ℕ) → 1 ≤ under → over ≤ under → rounded (above * over) under ≤ above
few above over under some part = rounded_to (above * over) under above some (mul-le-mul_left above part)

pub overflow_cast-result : goal.overflow_cast-result
overflow_cast-result c =
    let small = few (c.args.claim.now.current - c.args.claim.now.min) c.args.over c.args.under c.requires.some c.requires.within in
    let is = c.rounded.ensures in
    rw is (rw (c.from.ensures, c.from-2.ensures, c.from-3.ensures) (omega (arith, small, c.requires.claim.borrows, c.requires.claim.few)))

pub overflow_add-result : goal.overflow_add-result
overflow_add-result c =
    let small = few (c.args.claim.now.current - c.args.claim.now.min) c.args.over c.args.under c.requires.some c.requires.within in
    let is = c.rounded.ensures in
    rw is (rw (c.from.ensures, c.from-2.ensures, c.from-3.ensures) (omega (arith, small, c.requires.claim.lends, c.requires.claim.borrows, c.requires.claim.few)))
