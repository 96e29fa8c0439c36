-- Texts of one place after another.
use Rattle.std.proofs.Common.{◌≡◌, ℕ, zero, suc, ◌+◌, List, ◌++◌, sym, ap, ◌∙◌, arith, append_assoc, add-one}
use Rattle.std.specs.List.{flat_map, range_with_len}
use Rattle.std.proofs.lemmas.List.{append-nil}

-- one place more
pub place_more : {A : Type 0} (f : ℕ → List A) (a n j : ℕ) → a + n ≡ j → flat_map f (range_with_len a (suc n)) ≡ flat_map f (range_with_len a n) ++ f j
place_more f a zero j e = let same : a ≡ j = omega (arith, e) in append-nil (f a) ∙ ap f same
place_more {A} f a (suc n) j e =
    let rest = place_more f (a + 1) n j (omega (arith, e)) in
    ap (λ (l : List A). f a ++ l) rest ∙ sym (append_assoc (f a) (flat_map f (range_with_len (a + 1) n)) (f j))

pub place_next : {A : Type 0} (f : ℕ → List A) (n : ℕ) → flat_map f (range_with_len 0 (n + 1)) ≡ flat_map f (range_with_len 0 n) ++ f n
place_next {A} f n = ap (λ (m : ℕ). flat_map f (range_with_len 0 m)) (add-one n) ∙ place_more f 0 n n (omega arith)
