use Rattle.std.proofs.Common.{◌≡◌, ◌∙◌, Err, map, ap, rules}
use Rattle.apf_objects.specs.Order.{insert}
use Rattle.apf_objects.specs.Schemas.{schema_view}
use Rattle.apf_objects.specs.declared.schema.Schema.{Schema}
use Rattle.apf_changes.proofs.Rescheduling.{IsAt, IsNowhere, level_unknown, level_moved, no_schema, dangling_unknown, level_placed}
use Rattle.apf_changes.proofs.schemas.with_schema_level.Goals as goal

pub returns-in_err-level-clause-err : goal.returns-in_err-level-clause-err
returns-in_err-level-clause-err c =
    let failed : c.from_residual.result ≡ Err c.in_err-level.field-0.0 = search (c.from_residual.ensures, rules) in
    let at : IsAt c.args.name.now c.args.cluster.schemas.items c.in-Some.place = cc (c.schema_place.ensures.value, c.as_slice.ensures.value, c.in-Some.is) in
    let refused = c.in_err-level.ensures.err in
    rw failed (λ memory. level_unknown c.args.name.now c.args.level.now c.args.cluster c.in-Some.place c.in_err-level.field-0.0 at (rw c.as_slice-in-Some.ensures.value at (refused memory)))

pub returns-in-Some-clause-ok : goal.returns-in-Some-clause-ok
returns-in-Some-clause-ok c =
    let at : IsAt c.args.name.now c.args.cluster.schemas.items c.in-Some.place = cc (c.schema_place.ensures.value, c.as_slice.ensures.value, c.in-Some.is) in
    let known = c.in_ok-level.ensures.ok in
    rw c.index_mut.ensures.value
    (level_moved c.args.name.now c.args.level.now c.args.cluster c.in-Some.place c.index_mut.result.now c.in_ok-level.level at (rw c.as_slice-in-Some.ensures.value at known))

pub returns-in_default-schema_place-clause-err : goal.returns-in_default-schema_place-clause-err
returns-in_default-schema_place-clause-err c memory =
    let nowhere : IsNowhere c.args.name.now c.args.cluster.schemas.items = cc (c.schema_place.ensures.value, c.as_slice.ensures.value, c.in_default.is) in
    let neither : IsNowhere c.args.name.now c.args.cluster.dangling.items = cc (c.schema_place-2.ensures.value, c.as_slice-2.ensures.value, c.in_default-schema_place.is) in
    no_schema c.args.name.now c.args.level.now c.args.cluster nowhere neither

pub returns-in_err-level-2-clause-err : goal.returns-in_err-level-2-clause-err
returns-in_err-level-2-clause-err c =
    let failed : c.from_residual-in_err-level-2.result ≡ Err c.in_err-level-2.field-0.0 = search (c.from_residual-in_err-level-2.ensures, rules) in
    let nowhere : IsNowhere c.args.name.now c.args.cluster.schemas.items = cc (c.schema_place.ensures.value, c.as_slice.ensures.value, c.in_default.is) in
    let at : IsAt c.args.name.now c.args.cluster.dangling.items c.in-Some-schema_place.place =
    cc (c.schema_place-2.ensures.value, c.as_slice-2.ensures.value, c.in-Some-schema_place.is) in
    let refused = c.in_err-level-2.ensures.err in
    rw failed (λ memory. dangling_unknown c.args.name.now c.args.level.now c.args.cluster c.in-Some-schema_place.place c.in_err-level-2.field-0.0 nowhere at
    (rw c.as_slice-3.ensures.value at (refused memory)))

pub returns-clause-ok : goal.returns-clause-ok
returns-clause-ok c =
    let nowhere : IsNowhere c.args.name.now c.args.cluster.schemas.items = cc (c.schema_place.ensures.value, c.as_slice.ensures.value, c.in_default.is) in
    let at : IsAt c.args.name.now c.args.cluster.dangling.items c.in-Some-schema_place.place =
    cc (c.schema_place-2.ensures.value, c.as_slice-2.ensures.value, c.in-Some-schema_place.is) in
    let known = c.in_ok-level-2.ensures.ok in
    let put : map schema_view c.insert.new.schemas.items ≡ insert (schema_view (record c.remove-schema.result { level = c.in_ok-level-2.level })) (map schema_view c.args.cluster.schemas.items) = search rules in
    let of_place = ap (λ (schema : Schema). insert (schema_view (record schema { level = c.in_ok-level-2.level })) (map schema_view c.args.cluster.schemas.items)) c.remove-schema.ensures.value in
    rw c.remove-schema.ensures.items
    (level_placed c.args.name.now c.args.level.now c.args.cluster c.in-Some-schema_place.place c.remove-schema.result c.in_ok-level-2.level (map schema_view c.insert.new.schemas.items)
    nowhere at (rw c.as_slice-3.ensures.value at known) (put ∙ of_place))
