use Rattle.std.proofs.Common.{arith, ap, length}
use Rattle.std.proofs.lemmas.List.Elements.{All-head, All-rest}
use Rattle.apf_lending.specs.Claims.{IsClaim, sum_of_current}
use Rattle.apf_lending.proofs.division.sum_of_current.Goals as goal

pub loop-claim-preserved : goal.loop-claim-preserved
loop-claim-preserved c =
    let is = c.in-Some.ensures.cases.0 in
    let split = ap sum_of_current is in
    let long = ap length is in
    let claim = All-head IsClaim c.in-Some.claim.now c.in-Some.others.now (rw is at c.loop-claim.invariant.claims) in
    record {
      value = omega (arith, split);
      most = omega (arith, long, claim.lends, claim.borrows, claim.few);
      claims = All-rest IsClaim _ _ _ is c.loop-claim.invariant.claims;
    }
