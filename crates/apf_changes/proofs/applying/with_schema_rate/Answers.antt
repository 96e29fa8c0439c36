use Rattle.std.proofs.Common.{◌≡◌, ◌∙◌, Err, map, sym, ap, rules}
use Rattle.apf_objects.specs.Schemas.{schema_view}
use Rattle.apf_changes.specs.Schemas.{absent}
use Rattle.apf_changes.specs.Scenarios.{assigned_view}
use Rattle.apf_changes.proofs.Rated.{rate_gone, rate_refused, rate_changed}
use Rattle.apf_changes.proofs.Rescheduling.{IsAt, IsNowhere}
use Rattle.apf_changes.proofs.applying.with_schema_rate.Goals as goal

pub returns-in_default-clause-err : goal.returns-in_default-clause-err
returns-in_default-clause-err c memory =
    let nowhere : IsNowhere c.args.name.now c.args.scenario.cluster.schemas.items = cc (c.schema_place.ensures.value, c.as_slice.ensures.value, c.in_default.is) in
    let why : c.absent.result ≡ absent c.args.name.now (map schema_view c.args.scenario.cluster.dangling.items) = cc (c.absent.ensures, c.as_slice-in_default.ensures.value) in
    rate_gone c.args.name.now c.args.amount c.args.scenario nowhere ∙ ap Err (sym why)

pub returns-in_err-add_rate-clause-err : goal.returns-in_err-add_rate-clause-err
returns-in_err-add_rate-clause-err c =
    let failed : c.from_residual.result ≡ Err c.in_err-add_rate.field-0.0 = search (c.from_residual.ensures, rules) in
    let at : IsAt c.args.name.now c.args.scenario.cluster.schemas.items c.in-Some.field-0 = cc (c.schema_place.ensures.value, c.as_slice.ensures.value, c.in-Some.is) in
    let refused = c.in_err-add_rate.ensures.err in
    rw failed (λ memory. rate_refused c.args.name.now c.args.amount c.args.scenario c.in-Some.field-0 c.in_err-add_rate.field-0.0 at (refused memory))

pub returns-clause-ok : goal.returns-clause-ok
returns-clause-ok c =
    let at : IsAt c.args.name.now c.args.scenario.cluster.schemas.items c.in-Some.field-0 = cc (c.schema_place.ensures.value, c.as_slice.ensures.value, c.in-Some.is) in
    rate_changed c.args.name.now c.args.amount c.args.scenario c.in-Some.field-0 (map assigned_view c.add_rate.new.rates.items) at c.in_ok-add_rate.ensures.ok
