-- Of this many numbers, no two of them one, each stands in a list: then the list is as long at least.
use Rattle.std.proofs.Common.{◌≡◌, ◌≢◌, ◌⊎◌, ℕ, zero, suc, ◌+◌, ◌<◌, ◌≤◌, List, [], ◌∷◌, length, sym, ap, ◌∙◌, inl, inr, arith}
use Rattle.std.specs.Prelude.{slice_index_or, Contains}
use Rattle.apf_words.specs.declared.decision.Decision.{Decision}

-- the number stands in the list
abbrev pub Stands : ℕ → List (ℕ × Decision) → Type 0
Stands x [] = ⊥
Stands x (y ∷ ys) = (y.0 ≡ x) ⊎ Stands x ys

-- the list without it
without : (x : ℕ) (ys : List (ℕ × Decision)) → Stands x ys → List (ℕ × Decision)
without x [] has = absurd has
without x (y ∷ ys) (inl is) = ys
without x (y ∷ ys) (inr has) = y ∷ without x ys has

shorter : (x : ℕ) (ys : List (ℕ × Decision)) (has : Stands x ys) → length (without x ys has) + 1 ≡ length ys
unfolding without
shorter x [] has = absurd has
shorter x (y ∷ ys) (inl is) = omega arith
shorter x (y ∷ ys) (inr has) = let rest = shorter x ys has in omega (arith, rest)

still_stands : (x z : ℕ) (ys : List (ℕ × Decision)) (has : Stands x ys) → Stands z ys → z ≢ x → Stands z (without x ys has)
unfolding without
still_stands x z [] has there differs = absurd has
still_stands x z (y ∷ ys) (inl is) (inl at) differs = absurd (differs (sym at ∙ is))
still_stands x z (y ∷ ys) (inl is) (inr there) differs = there
still_stands x z (y ∷ ys) (inr has) (inl at) differs = inl at
still_stands x z (y ∷ ys) (inr has) (inr there) differs = inr (still_stands x z ys has there differs)

pub as_many : (f : ℕ → ℕ) (m : ℕ) (ys : List (ℕ × Decision)) → ((i j : ℕ) → i < m → j < m → f i ≡ f j → i ≡ j) → ((i : ℕ) → i < m → Stands (f i) ys) → m ≤ length ys
as_many f zero ys apart all = omega arith
as_many f (suc m) ys apart all =
    let last : Stands (f m) ys = all m (omega arith) in
    let rest = as_many f m (without (f m) ys last) (λ i j low below same. apart i j (omega (arith, low)) (omega (arith, below)) same)
    (λ i low. still_stands (f m) (f i) ys last (all i (omega (arith, low))) (λ same. let e = apart i m (omega (arith, low)) (omega arith) same in omega (arith, e, low))) in
    let one = shorter (f m) ys last in
    omega (arith, rest, one)

-- a number that a list contains with some decision stands in it
contained_at : (r : ℕ) (decision : Decision) (ys : List (ℕ × Decision)) (k : ℕ) → k < length ys → slice_index_or ys k (r, decision) ≡ (r, decision) → Stands r ys
contained_at r decision [] k low is = absurd (omega arith)
contained_at r decision (y ∷ ys) zero low is = inl (ap (λ (p : ℕ × Decision). p.0) is)
contained_at r decision (y ∷ ys) (suc k) low is = inr (contained_at r decision ys k (omega (arith, low)) is)

pub contained : (r : ℕ) (decision : Decision) (ys : List (ℕ × Decision)) → Contains ys (r, decision) → Stands r ys
contained r decision ys has = contained_at r decision ys has.0 has.1 has.2
