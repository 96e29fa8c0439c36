use Rattle.std.proofs.Common.{◌≡◌, ◌∙◌, Some, Ok, Err, get_or, map, sym, ap, rules}
use Rattle.apf_objects.specs.Schemas.{schema_view, max_precedence}
use Rattle.apf_objects.specs.declared.schema.Schema.{Schema}
use Rattle.apf_changes.specs.Amounts.{judged}
use Rattle.apf_changes.proofs.Rescheduling.{IsAt, IsNowhere, precedence_gone, precedence_refused, precedence_changed}
use Rattle.apf_changes.proofs.schemas.with_precedence.Goals as goal

pub returns-in_default-clause-err : goal.returns-in_default-clause-err
returns-in_default-clause-err c memory =
    let nowhere : IsNowhere c.args.name.now c.args.schemas.items = cc (c.schema_place.ensures.value, c.as_slice.ensures.value, c.in_default.is) in
    precedence_gone c.args.amount c.args.name.now (map schema_view c.args.dangling.now) c.args.schemas.items nowhere ∙ ap Err (sym c.absent.ensures)

pub returns-in_err-precedence-clause-err : goal.returns-in_err-precedence-clause-err
returns-in_err-precedence-clause-err c =
    let failed : c.from_residual.result ≡ Err c.in_err-precedence.field-0.0 = search (c.from_residual.ensures, rules) in
    let at : IsAt c.args.name.now c.args.schemas.items c.in-Some.place = cc (c.schema_place.ensures.value, c.as_slice.ensures.value, c.in-Some.is) in
    let refused : judged c.args.amount (Some (get_or c.args.schemas.items c.in-Some.place c.index.result.now).precedence) (record { low = 1; high = max_precedence }) ≡ Err c.in_err-precedence.field-0.0 =
    ap (λ (schema : Schema). judged c.args.amount (Some schema.precedence) (record { low = 1; high = max_precedence })) (sym c.index.ensures) ∙ sym c.judged.ensures.value ∙ c.in_err-precedence.was in
    rw failed (λ memory. precedence_refused c.args.amount c.args.name.now (map schema_view c.args.dangling.now) c.args.schemas.items c.in-Some.place c.index.result.now c.in_err-precedence.field-0.0 at refused)

pub returns-in-Ok-clause-ok : goal.returns-in-Ok-clause-ok
returns-in-Ok-clause-ok c =
    let at : IsAt c.args.name.now c.args.schemas.items c.in-Some.place = cc (c.schema_place.ensures.value, c.as_slice.ensures.value, c.in-Some.is) in
    let changed : judged c.args.amount (Some (get_or c.args.schemas.items c.in-Some.place c.index.result.now).precedence) (record { low = 1; high = max_precedence }) ≡ Ok c.in_ok-precedence.precedence =
    ap (λ (schema : Schema). judged c.args.amount (Some schema.precedence) (record { low = 1; high = max_precedence })) (sym c.index.ensures) ∙ sym c.judged.ensures.value ∙ c.in_ok-precedence.was in
    let put = c.in-Ok.ensures in
    precedence_changed c.args.amount c.args.name.now (map schema_view c.args.dangling.now) (map schema_view c.in-Ok.ordered.items) c.args.schemas.items c.in-Some.place
    c.index.result.now c.index_mut.result.now c.in_ok-precedence.precedence at changed (rw c.index_mut.ensures.value at put)
