use Rattle.std.proofs.Common.{◌∙◌, Err, map, sym, ap}
use Rattle.apf_objects.specs.Schemas.{schema_view}
use Rattle.apf_changes.proofs.Rescheduling.{IsAt, IsNowhere, distinguisher_gone, distinguisher_changed}
use Rattle.apf_changes.proofs.schemas.with_distinguisher.Goals as goal

pub returns-in_default-clause-err : goal.returns-in_default-clause-err
returns-in_default-clause-err c =
    let nowhere : IsNowhere c.args.name.now c.args.schemas.items = cc (c.schema_place.ensures.value, c.as_slice.ensures.value, c.in_default.is) in
    distinguisher_gone c.args.distinguisher c.args.name.now (map schema_view c.args.dangling.now) c.args.schemas.items nowhere ∙ ap Err (sym c.absent.ensures)

pub returns-clause-ok : goal.returns-clause-ok
returns-clause-ok c =
    let at : IsAt c.args.name.now c.args.schemas.items c.in-Some.place = cc (c.schema_place.ensures.value, c.as_slice.ensures.value, c.in-Some.is) in
    rw c.index_mut.ensures.value
    (distinguisher_changed c.args.distinguisher c.args.name.now (map schema_view c.args.dangling.now) c.args.schemas.items c.in-Some.place c.index_mut.result.now at)
