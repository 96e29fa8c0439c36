-- Things with numbers below n, as many as n and no two of one number, have all the numbers below n.
use Rattle.std.proofs.Common.{◌≡◌, ◌≢◌, ◌⊎◌, ℕ, ◌<◌, true, false, List, [], ◌∷◌, length, map, sym, refl, subst, inl, inr, ⊎_elim, arith, eqb, ne_eqb}
use Rattle.std.specs.List.{IsDistinct, AllByRecursion, list_any}
use Rattle.std.proofs.lemmas.Bool.{eqb-true, or_cases}
use Rattle.std.proofs.lemmas.Map.Steps.{length-le_from_distinct_below}
use mathlib.Core.Logic.{dite}
use native.Mathlib.Decide.{ℕ_discrete}
use Rattle.apf_gate.specs.Rule.{Every}
use Rattle.apf_gate.proofs.Lists.{AnyOf}

-- no two are equal
abbrev AreDistinct : List ℕ → Type 0
AreDistinct [] = Unit {0}
AreDistinct (x ∷ xs) = Every (λ y. y ≢ x) xs × AreDistinct xs

none_equal : (x : ℕ) (xs : List ℕ) → Every (λ y. y ≢ x) xs → AllByRecursion (λ y. eqb x y ≡ false) xs
none_equal x [] k = tt
none_equal x (y ∷ ys) k = (ne_eqb x y (λ e. k.0 (sym e)), none_equal x ys k.1)

distinct : (xs : List ℕ) → AreDistinct xs → IsDistinct eqb xs
unfolding IsDistinct
distinct [] k = tt
distinct (x ∷ xs) k = (none_equal x xs k.0, distinct xs k.1)

below : (n : ℕ) (xs : List ℕ) → Every (λ x. x < n) xs → (q : ℕ) → list_any (eqb q) xs ≡ true → q < n
below n [] k q e = absurd (cc)
below n (x ∷ xs) k q e = ⊎_elim (λ (t : eqb q x ≡ true). subst (λ z. z < n) (sym (eqb-true q x t)) k.0) (λ (t : list_any (eqb q) xs ≡ true). below n xs k.1 q t) (or_cases (eqb q x) (list_any (eqb q) xs) e)

module _ {A : Type 0} (f : A → ℕ) where
  -- no two have one number
  abbrev pub AreNumbered : List A → Type 0
  AreNumbered [] = Unit {0}
  AreNumbered (x ∷ xs) = Every (λ y. f y ≢ f x) xs × AreNumbered xs

  find : (xs : List A) (r : ℕ) → AnyOf (λ x. f x ≡ r) xs ⊎ Every (λ x. f x ≢ r) xs
  find [] r = inr tt
  find (x ∷ xs) r = dite (ℕ_discrete (f x) r) (λ e. inl (inl e)) (λ ne. ⊎_elim (λ (t : AnyOf (λ x. f x ≡ r) xs). inl (inr t)) (λ (t : Every (λ x. f x ≢ r) xs). inr (ne, t)) (find xs r))

  every_mapped : (P : ℕ → Type 0) (xs : List A) → Every (λ x. P (f x)) xs → Every P (map f xs)
  every_mapped P [] k = tt
  every_mapped P (x ∷ xs) k = (k.0, every_mapped P xs k.1)

  distinct_mapped : (xs : List A) → AreNumbered xs → AreDistinct (map f xs)
  distinct_mapped [] k = tt
  distinct_mapped (x ∷ xs) k = (every_mapped (λ y. y ≢ f x) xs k.0, distinct_mapped xs k.1)

  length_mapped : (xs : List A) → length (map f xs) ≡ length xs
  length_mapped [] = refl
  length_mapped (x ∷ xs) = let h = length_mapped xs in omega arith

  pub all_there : (n : ℕ) (xs : List A) → length xs ≡ n → Every (λ x. f x < n) xs → AreNumbered xs → (r : ℕ) → r < n → AnyOf (λ x. f x ≡ r) xs
  all_there n xs many small apart r l = ⊎_elim (λ t. t)
      (λ (t : Every (λ x. f x ≢ r) xs). absurd (let z = length-le_from_distinct_below (r ∷ map f xs) n (distinct (r ∷ map f xs) (every_mapped (λ y. y ≢ r) xs t, distinct_mapped xs apart)) (below n (r ∷ map f xs) (l, every_mapped (λ y. y < n) xs small)) in let y = length_mapped xs in omega arith))
      (find xs r)
