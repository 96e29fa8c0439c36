use Rattle.std.proofs.Common.{arith, ◌≡◌, ◌<◌, ◌≤◌, map}
use Rattle.std.proofs.lemmas.Result.{IfOk-weaker}
use Rattle.apf_lending.specs.Claims.{sum_of_current}
use Rattle.apf_lending.specs.Shares.{limit_by, sum_of_reach}
use Rattle.apf_lending.specs.Divisions.{IsDivision}
use Rattle.apf_lending.proofs.division.divide.Goals as goal

pub returns-in_ok-factor : goal.returns-in_ok-factor
returns-in_ok-factor c =
    let f = c.in_ok-factor.factor in
    let more : sum_of_current c.args.claims.now < c.args.seats = omega (arith, c.sum_of_current-current.ensures.sum, c.if-seats-current.false) in
    let reach : c.args.seats ≤ sum_of_reach c.args.claims.now = omega (arith, c.sum_of_reach.ensures, c.if-sum_of_reach-seats.false) in
    IfOk-weaker c.scaled.result (λ limits. limits.items ≡ map (limit_by f) c.args.claims.now) (λ limits. IsDivision c.args.seats c.args.claims.now limits.items)
    (λ limits is. IsDivision.scaled f more reach c.in_ok-factor.ensures.factor is) c.scaled.ensures
