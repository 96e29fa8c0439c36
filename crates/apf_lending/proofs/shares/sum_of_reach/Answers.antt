use Rattle.std.proofs.Common.{arith, ap, length}
use Rattle.std.proofs.lemmas.List.Elements.{All-rest}
use Rattle.apf_lending.specs.Claims.{IsClaim}
use Rattle.apf_lending.specs.Shares.{sum_of_reach}
use Rattle.apf_lending.proofs.shares.sum_of_reach.Goals as goal

pub loop-claim-preserved : goal.loop-claim-preserved
loop-claim-preserved c =
    let split = ap sum_of_reach c.in-Some.ensures.cases.0 in
    let long = ap length c.in-Some.ensures.cases.0 in
    record {
      value = omega (arith, split);
      most = omega (arith, long);
      claims = All-rest IsClaim _ _ _ c.in-Some.ensures.cases.0 c.loop-claim.invariant.claims;
    }
