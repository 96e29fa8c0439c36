use Rattle.std.proofs.Common.{arith, ap, length, ◌≤◌}
use Rattle.std.proofs.Math.Nat.{mul-le-mul_left}
use Rattle.std.proofs.lemmas.List.Elements.{All-rest}
use Rattle.apf_lending.specs.Claims.{IsClaim, max_limit}
use Rattle.apf_lending.specs.Shares.{sum_of_shares}
use Rattle.apf_lending.proofs.shares.sum_of_shares.Goals as goal

pub loop-claim-preserved : goal.loop-claim-preserved
loop-claim-preserved c =
    let split = ap (sum_of_shares c.args.factor) c.in-Some.ensures.cases.0 in
    let long = ap length c.in-Some.ensures.cases.0 in
    let small : c.args.factor.under ≤ 18446744073709551616 = omega (arith, c.requires.under) in
    let few = mul-le-mul_left max_limit small in
    record {
      value = omega (arith, split);
      most = omega (arith, long, few);
      claims = All-rest IsClaim _ _ _ c.in-Some.ensures.cases.0 c.loop-claim.invariant.claims;
    }
