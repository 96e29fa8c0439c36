-- Members of a list, and lists of nothing.
use Rattle.std.proofs.Common.{◌≡◌, ◌≢◌, ℕ, zero, suc, ◌<◌, Bool, false, List, [], ◌∷◌, drop, replicate, Option, Some, None, refl, subst, arith}
use Rattle.std.specs.Prelude.{Contains, slice_get, slice_index, slice_index_or, filter}
use Rattle.std.proofs.lemmas.List.Elements.{All-contains, All-contains_itself, All-filter}

pub Contains-head : (x : ℕ) (xs : List ℕ) → Contains (x ∷ xs) x
Contains-head x xs = (0, omega arith, refl)

pub Contains-tail : (x : ℕ) (xs : List ℕ) (y : ℕ) → Contains xs y → Contains (x ∷ xs) y
Contains-tail x xs y c = (suc c.0, omega arith, c.2)

pub Contains-none : (y : ℕ) → Contains [] y → ⊥
Contains-none y c = let l : c.0 < 0 = c.1 in absurd (omega arith)

-- who stands behind the first stands there
pub Contains-rest : (xs : List ℕ) (y : ℕ) → Contains (drop 1 xs) y → Contains xs y
Contains-rest [] y c = c
Contains-rest (x ∷ xs) y c = Contains-tail x xs y c

pub Contains-filter : (p : ℕ → Bool) (xs : List ℕ) (y : ℕ) → Contains (filter p xs) y → Contains xs y
Contains-filter p xs y c = All-contains (Contains xs) (filter p xs) y (All-filter p (Contains xs) xs (All-contains_itself xs)) c

-- the first of a list
pub first_none : {r : ℕ} → ◌≡◌ {A = Option ℕ} None (Some r) → ⊥
first_none e = cc

pub first_contains : (xs : List ℕ) (r : ℕ) → slice_get xs 0 ≡ Some r → Contains xs r
first_contains [] r e = absurd (first_none e)
first_contains (x ∷ xs) r e = let same : x ≡ r = cc in subst (λ (y : ℕ). Contains (x ∷ xs) y) same (Contains-head x xs)

pub some_first : (xs : List ℕ) → xs ≢ [] → Contains xs (slice_index xs 0)
some_first [] ne = absurd (ne refl)
some_first (x ∷ xs) ne = Contains-head x xs

-- lists of nothing
pub no_queue : (n q : ℕ) → slice_index_or (replicate {A = List ℕ} n []) q [] ≡ []
no_queue zero q = refl
no_queue (suc n) zero = refl
no_queue (suc n) (suc q) = no_queue n q

pub no_mark : (n r : ℕ) → slice_index_or (replicate n false) r false ≡ false
no_mark zero r = refl
no_mark (suc n) zero = refl
no_mark (suc n) (suc r) = no_mark n r
