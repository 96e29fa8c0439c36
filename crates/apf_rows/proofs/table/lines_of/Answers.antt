-- One row more, and then all of them.
use Rattle.std.proofs.Common.{◌≡◌, List, [], ◌∷◌, ◌++◌, map, refl, sym, ap, ◌∙◌, subst}
use Rattle.std.specs.List.{AllZip}
use Rattle.std.proofs.lemmas.Iterator.Adapters.{YieldsList-from_vec}
use Rattle.std.proofs.lemmas.Iterator.Consumers.{YieldsList-end}
use Rattle.apf_rows.specs.declared.row.Row.{Row}
use Rattle.apf_rows.specs.declared.table.Line.{Line}
use Rattle.apf_rows.specs.Tables.{IsLineOf}
use Rattle.apf_rows.proofs.table.lines_of.Goals as goal

zip_push : (rows : List Row) (lines : List Line) (r : Row) (l : Line) → AllZip IsLineOf rows lines → IsLineOf r l → AllZip IsLineOf (rows ++ r ∷ []) (lines ++ l ∷ [])
zip_push [] [] r l all is = (is, tt)
zip_push [] (y ∷ lines) r l all is = absurd all
zip_push (x ∷ rows) [] r l all is = absurd all
zip_push (x ∷ rows) (y ∷ lines) r l all is = (all.0, zip_push rows lines r l all.1 is)

pub loop-row-preserved : goal.loop-row-preserved
loop-row-preserved c =
    subst (AllZip IsLineOf (c.loop-row.yielded ++ c.in-Some.row ∷ [])) (sym c.in_ok-push.ensures.items)
    (zip_push c.loop-row.yielded c.loop-row.lines.items c.in-Some.row c.of.result c.loop-row.invariant c.of.ensures)

map_same : (rows : List Row) → map (λ (r : Row). r) rows ≡ rows
map_same [] = refl
map_same (r ∷ rows) = ap (λ (l : List Row). r ∷ l) (map_same rows)

pub returns : goal.returns
returns c =
    let gives = c.into_iter-row-iterator.ensures.into_iter_gives in
    let t = YieldsList-end (YieldsList-from_vec {s = c.into_iter-row-iterator.result} c.args.rows.items gives.0 (gives.1 ∙ c.args.rows.ok.0)) c.loop-row.yielded c.loop-row.row-iterator c.loop-row.yielded_by c.next.result c.next.new.self c.in-None.is c.next.ensures.steps in
    subst (λ (l : List Row). AllZip IsLineOf l c.loop-row.lines.items) (sym (map_same c.loop-row.yielded) ∙ t.0) c.loop-row.invariant
