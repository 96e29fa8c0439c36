use Rattle.std.proofs.Common.{arith, ap, length}
use Rattle.std.proofs.lemmas.List.Elements.{All-rest}
use Rattle.apf_lending.specs.Claims.{IsClaim}
use Rattle.apf_lending.specs.Breaks.{sum_of_fixed, sum_of_free}
use Rattle.apf_lending.proofs.factor.pieces_of.Goals as goal

pub loop-claim-preserved-in-Fixed : goal.loop-claim-preserved-in-Fixed
loop-claim-preserved-in-Fixed c =
    let fixed = ap (sum_of_fixed c.args.below c.args.from) c.in-Some.ensures.cases.0 in
    let free = ap (sum_of_free c.args.below c.args.from) c.in-Some.ensures.cases.0 in
    let long = ap length c.in-Some.ensures.cases.0 in
    let now = c.in-Fixed.ensures.fixed in
    let none = c.in-Fixed.ensures.free in
    let few = c.in-Fixed.ensures.few in
    record {
      fixed = omega (arith, fixed, now);
      free = omega (arith, free, none);
      most_fixed = omega (arith, long, few);
      most_free = omega (arith, long);
      claims = All-rest IsClaim _ _ _ c.in-Some.ensures.cases.0 c.loop-claim.invariant.claims;
    }

pub loop-claim-preserved : goal.loop-claim-preserved
loop-claim-preserved c =
    let fixed = ap (sum_of_fixed c.args.below c.args.from) c.in-Some.ensures.cases.0 in
    let free = ap (sum_of_free c.args.below c.args.from) c.in-Some.ensures.cases.0 in
    let long = ap length c.in-Some.ensures.cases.0 in
    let none = c.in-Free.ensures.fixed in
    let now = c.in-Free.ensures.free in
    let small = c.in-Free.ensures.small in
    record {
      fixed = omega (arith, fixed, none);
      free = omega (arith, free, now, c.from-free.ensures);
      most_fixed = omega (arith, long);
      most_free = omega (arith, long, small, c.from-free.ensures);
      claims = All-rest IsClaim _ _ _ c.in-Some.ensures.cases.0 c.loop-claim.invariant.claims;
    }
