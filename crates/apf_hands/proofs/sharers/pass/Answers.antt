-- One more passed the place.
use Rattle.std.proofs.Common.{◌≡◌, ◌+◌, ◌<◌, ℕ, List, ◌∷◌, [], ◌++◌, Bor, get_or, get_or-drop, take, drop, length, map, sym, ◌∙◌, ap, ap₂, arith}
use Rattle.std.proofs.lemmas.List.{drop-drop, drop-set-lt, map_more, map_push, take_more_set}
use Rattle.apf_hands.specs.Holders.{behind, lists_of}
use Rattle.apf_hands.proofs.sharers.pass.Goals as goal

abbrev Rest : Type 0
Rest = Bor (List ℕ)

same_at : (xs ys : List Rest) (i : ℕ) (d : Rest) → drop i xs ≡ drop i ys → get_or xs i d ≡ get_or ys i d
same_at xs ys i d same =
    let at : i + 0 ≡ i = omega arith in
    ap (λ (k : ℕ). get_or xs k d) (sym at) ∙ sym (get_or-drop i xs 0 d) ∙ ap (λ (l : List Rest). get_or l 0 d) same ∙ get_or-drop i ys 0 d ∙ ap (λ (k : ℕ). get_or ys k d) at

pub loop-rest-preserved : goal.loop-rest-preserved
loop-rest-preserved c =
    let place = c.args.place in
    let now : List Rest = c.loop-rest.rests in
    let was : List Rest = c.args.rests.now in
    let i = c.loop-rest.rest-index in
    let made : Rest = c.rest_behind.result in
    let none : Rest = record { ref_ptr = (0, 0); now = [] } in
    let long = c.loop-rest.auto.rests in
    let low = c.loop-rest-test.true in
    let within : i < length now = omega (arith, long, low) in
    let after : i < i + 1 = omega arith in (
      ap (λ (rs : List Rest). lists_of rs) (take_more_set now i made within) ∙ map_push (λ (rest : Rest). rest.now) (take i now) made
          ∙ ap₂ (λ (ps : List (List ℕ)) (p : List ℕ). ps ++ p ∷ []) c.loop-rest.invariant.0 (c.rest_behind.ensures ∙ ap (λ (rest : Rest). behind place rest.now) (same_at now was i none c.loop-rest.invariant.1))
          ∙ sym (ap (λ (ls : List (List ℕ)). map (behind place) ls) (map_more (λ (rest : Rest). rest.now) was i none low) ∙ map_push (behind place) (lists_of (take i was)) (get_or was i none).now),
      drop-set-lt (i + 1) now i made after ∙ sym (drop-drop 1 i now) ∙ ap (λ (rs : List Rest). drop 1 rs) c.loop-rest.invariant.1 ∙ drop-drop 1 i was,
    )
