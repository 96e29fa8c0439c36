-- Lists of tokens that are taken from their end, and what was found in a closed table.
use Rattle.std.proofs.Common.{◌≡◌, ℕ, zero, suc, ◌<◌, List, [], ◌∷◌, ◌++◌, get_or, sym, refl, ap, arith}
use Rattle.std.specs.Prelude.{length, slice_get, Some}
use mathlib.Core.Option.{some, some-injective, some-ne-none}
use lib.ListN.{get_elem?}
use Rattle.apf_gate.specs.Rule.{Every}

pub every_front : {A : Type 0} (P : A → Type 0) (xs : List A) (x : A) → Every P (xs ++ x ∷ []) → Every P xs
every_front P [] x e = tt
every_front P (y ∷ xs) x e = (e.0, every_front P xs x e.1)

pub every_last : {A : Type 0} (P : A → Type 0) (xs : List A) (x : A) → Every P (xs ++ x ∷ []) → P x
every_last P [] x e = e.0
every_last P (y ∷ xs) x e = every_last P xs x e.1

pub regrouped : {A : Type 0} (xs : List A) (x : A) (ys : List A) → xs ++ x ∷ ys ≡ (xs ++ x ∷ []) ++ ys
regrouped [] x ys = refl
regrouped (y ∷ xs) x ys = ap (λ l. y ∷ l) (regrouped xs x ys)

-- the item at a place is what a search finds there
pub found_at : {A : Type 0} (xs : List A) (k : ℕ) (x d : A) → get_elem? xs k ≡ some x → get_or xs k d ≡ x
found_at [] k x d e = absurd (some-ne-none x (sym e))
found_at (y ∷ xs) zero x d e = some-injective y x e
found_at (y ∷ xs) (suc k) x d e = found_at xs k x d e

pub snoc_front : {A : Type 0} (xs : List A) (x : A) (k : ℕ) → k < length xs → slice_get (xs ++ x ∷ []) k ≡ slice_get xs k
snoc_front [] x k l = absurd (omega arith)
snoc_front (y ∷ xs) x zero l = refl
snoc_front (y ∷ xs) x (suc k) l = snoc_front xs x k (omega arith)

pub snoc_last : {A : Type 0} (xs : List A) (x : A) → slice_get (xs ++ x ∷ []) (length xs) ≡ Some x
snoc_last [] x = refl
snoc_last (y ∷ xs) x = snoc_last xs x
