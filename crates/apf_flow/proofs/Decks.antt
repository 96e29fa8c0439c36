-- A whole deck, and a list of which one element was taken out.
use Rattle.std.proofs.Common.{◌≡◌, ◌≢◌, ℕ, ◌+◌, ◌<◌, List, length, get_or, sym, ◌∙◌, subst, arith, zero-add, inl, inr}
use Rattle.std.specs.Prelude.{remove, All, AllPairs}
use Rattle.std.proofs.lemmas.List.FromFn.{length-range_with_len, get_or-range_with_len}
use Rattle.std.proofs.lemmas.List.Edits.{length-remove, get_or-remove_below, get_or-remove_above}
use Rattle.std.proofs.lemmas.Bool.Decides.{leb_tells}
use Rattle.std.proofs.lemmas.Grind.{get_or_default_zero}
use Rattle.apf_flow.specs.Deal.{deck_of}

pub length-deck_of : (size : ℕ) → length (deck_of size) ≡ size
length-deck_of size = length-range_with_len 0 size

-- the card at a place of a whole deck is that place
pub get_or-deck_of : (size k d : ℕ) → k < length (deck_of size) → get_or (deck_of size) k d ≡ k
get_or-deck_of size k d within =
    get_or-range_with_len 0 size k d (omega (arith, length-range_with_len 0 size)) ∙ zero-add k

-- each card of a deck is below its size
pub All-deck_of : (size : ℕ) → All (λ card. card < size) (deck_of size)
All-deck_of size k d within =
    let below : k < size = omega (arith, length-deck_of size) in
    rw (get_or-deck_of size k d within) below

-- no two cards of a deck are equal
pub AllPairs-deck_of : (size : ℕ) → AllPairs (λ card later. card ≢ later) (deck_of size)
AllPairs-deck_of size i j d before within same =
    let at_i = get_or-deck_of size i d (omega arith) in
    let at_j = get_or-deck_of size j d within in
    let equal : i ≡ j = sym at_i ∙ same ∙ at_j in
    absurd (omega (arith, equal))

-- what holds of each element still does after one was taken out
pub All-remove : (P : ℕ → Type 0) (xs : List ℕ) (p : ℕ) → p < length xs → All P xs → All P (remove xs p)
All-remove P xs p within all k d inside =
    let gone = length-remove xs p within in
    elim (leb_tells p k) [
      | inl above ↦
          let next : k + 1 < length xs = omega (arith, gone) in
          subst P (sym (get_or-remove_above xs p d k above.1 within)) (all (k + 1) d next)
      | inr below ↦
          let here : k < length xs = omega (arith, gone) in
          subst P (sym (get_or-remove_below xs p d k (omega (arith, below.1)) within)) (all k d here)
    ]

-- of a list without repeats, the element taken out differs from each of the others
pub taken_apart : (xs : List ℕ) (p : ℕ) → p < length xs → AllPairs (λ x y. x ≢ y) xs
    → All (λ y. get_or xs p 0 ≢ y) (remove xs p)
taken_apart xs p within apart k d inside same =
    let gone = length-remove xs p within in
    elim (leb_tells p k) [
      | inl above ↦
          let next : k + 1 < length xs = omega (arith, gone) in
          apart p (k + 1) 0 (omega (arith, above.1)) next
          (same ∙ get_or-remove_above xs p d k above.1 within ∙ get_or_default_zero xs (k + 1) d next)
      | inr below ↦
          let before : k < p = omega (arith, below.1) in
          apart k p 0 before within
          (sym (same ∙ get_or-remove_below xs p d k before within ∙ get_or_default_zero xs k d (omega arith)))
    ]
