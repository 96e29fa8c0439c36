-- One place of a list that is set.
use Rattle.std.proofs.Common.{◌≡◌, ◌≢◌, ℕ, zero, suc, ◌<◌, List, [], ◌∷◌, length, set, Option, Some, None, refl, ap, arith}
use Rattle.std.specs.Prelude.{slice_get}

some_is : {A : Type 0} (a b : A) → ◌≡◌ {A = Option A} (Some a) (Some b) → a ≡ b
some_is a b is = cc

none_is : {A : Type 0} (b : A) → ◌≡◌ {A = Option A} None (Some b) → ⊥
none_is b is = cc

pub get_set : {A : Type 0} (xs : List A) (i : ℕ) (x : A) → i < length xs → slice_get (set xs i x) i ≡ Some x
get_set [] i x low = absurd (omega arith)
get_set (z ∷ zs) zero x low = refl
get_set (z ∷ zs) (suc i) x low = get_set zs i x (omega arith)

pub get_other : {A : Type 0} (xs : List A) (j i : ℕ) (x : A) → i ≢ j → slice_get (set xs j x) i ≡ slice_get xs i
get_other [] j i x ne = refl
get_other (z ∷ zs) zero zero x ne = absurd (ne refl)
get_other (z ∷ zs) zero (suc i) x ne = refl
get_other (z ∷ zs) (suc j) zero x ne = refl
get_other (z ∷ zs) (suc j) (suc i) x ne = get_other zs j i x (λ e. ne (ap suc e))
