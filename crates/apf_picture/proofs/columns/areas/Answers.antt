-- One area more, of the row before.
use Rattle.std.proofs.Common.{◌≡◌, ℕ, ◌+◌, ◌-◌, ◌++◌, ◌∷◌, [], List, map, reverse, sym, ◌∙◌, ap, subst, arith}
use Rattle.std.specs.Prelude.{All}
use Rattle.std.specs.List.{range_with_len}
use Rattle.std.proofs.lemmas.List.{map_push}
use Rattle.std.proofs.lemmas.List.Elements.{All-push}
use Rattle.apf_picture.specs.declared.columns.Area.{Area}
use Rattle.apf_picture.specs.Columns.{IsArea, row_in, tops_of}
use Rattle.apf_picture.proofs.Ranges.{down_more}
use Rattle.apf_picture.proofs.columns.areas.Goals as goal

pub loop-place-preserved : goal.loop-place-preserved
loop-place-preserved c =
    let old = c.loop-place.areas.items in
    let area = c.in_ok-row_area.field-0 in
    let n = c.args.rows - 1 - c.loop-place.place in
    let left = c.args.rows - c.loop-place.place in
    let is : IsArea c.args.lives.now c.args.end area = c.in_ok-row_area.ensures.tops ∙ ap (tops_of c.args.lives.now c.args.end) (sym c.in_ok-row_area.ensures.row) in
    let more : map row_in c.push.new.self.items ≡ map row_in old ++ n ∷ [] =
    ap (map row_in) c.in_ok-push.ensures.items ∙ map_push row_in old area ∙ ap (λ (row : ℕ). map row_in old ++ row ∷ []) c.in_ok-row_area.ensures.row in
    let next : n ≡ c.args.rows - (c.loop-place.place + 1) = omega arith in
    record {
      areas = subst (λ (areas : List Area). All (IsArea c.args.lives.now c.args.end) areas) (sym c.in_ok-push.ensures.items) (All-push (IsArea c.args.lives.now c.args.end) old area c.loop-place.invariant.areas is);
      rows = ap (λ (ns : List ℕ). ns ++ reverse (range_with_len 0 (c.args.rows - (c.loop-place.place + 1)))) more ∙ ap (λ (m : ℕ). (map row_in old ++ n ∷ []) ++ reverse (range_with_len 0 m)) (sym next)
          ∙ down_more (map row_in old) (reverse (range_with_len 0 c.args.rows)) left n (omega (arith, c.loop-place-test.true)) c.loop-place.invariant.rows;
    }
