-- The first that passes a test, by its place.
use Rattle.std.proofs.Common.{◌≡◌, ℕ, suc, ◌+◌, List, [], ◌∷◌, get_or, set, map, Bool, true, false, Option, Some, None, refl, ap, subst, arith}
use Rattle.std.specs.Prelude.{if◌then◌else◌, find, remove}
use Rattle.apf_matching.specs.First.{place_from}
use Rattle.apf_changes.specs.Lists.{replaced, without}

-- the first of what the code holds is this item, at this place
pub record IsFirstAt {A X : Type 0} (test : A → Bool) (f : X → A) (xs : List X) (place : ℕ) : Type 0 where
  pub item : X
  pub stands : (d : X) → get_or xs place d ≡ item
  pub passes : test (f item) ≡ true
  pub found : find test (map f xs) ≡ Some (f item)
  pub put : (new : X) → replaced test (f new) (map f xs) ≡ map f (set xs place new)
  pub left : without test (map f xs) ≡ map f (remove xs place)

here : {A X : Type 0} (test : A → Bool) (f : X → A) (x : X) (xs : List X) → test (f x) ≡ true → IsFirstAt test f (x ∷ xs) 0
here test f x xs is = record {
  item = x;
  stands = λ d. refl;
  passes = is;
  found = rw is refl;
  put = λ new. rw is refl;
  left = rw is refl;
}

later : {A X : Type 0} (test : A → Bool) (f : X → A) (x : X) (xs : List X) (place : ℕ) → test (f x) ≡ false → IsFirstAt test f xs place
    → IsFirstAt test f (x ∷ xs) (suc place)
later test f x xs place other first = record {
  item = first.item;
  stands = first.stands;
  passes = first.passes;
  found = rw other first.found;
  put = λ new. rw other (ap (λ ys. f x ∷ ys) (first.put new));
  left = rw other (ap (λ ys. f x ∷ ys) first.left);
}

place_by : {A X : Type 0} (test : A → Bool) (f : X → A) (x : X) (xs : List X) (k i : ℕ) (b : Bool) → test (f x) ≡ b
    → (place_from test (suc k) (map f xs) ≡ Some i → (j : ℕ) × (i ≡ suc k + j) × IsFirstAt test f xs j)
    → (if b then Some k else place_from test (suc k) (map f xs)) ≡ Some i
    → (j : ℕ) × (i ≡ k + j) × IsFirstAt test f (x ∷ xs) j
place_by test f x xs k i true is on at = (0, (let same : k ≡ i = cc in omega (arith, same)), here test f x xs is)
place_by test f x xs k i false other on at =
    let found = on at in
    (suc found.0, omega (arith, found.1), later test f x xs found.0 other found.2)

place_from_is : {A X : Type 0} (test : A → Bool) (f : X → A) (xs : List X) (k i : ℕ) → place_from test k (map f xs) ≡ Some i
    → (j : ℕ) × (i ≡ k + j) × IsFirstAt test f xs j
place_from_is test f [] k i at = cc
place_from_is test f (x ∷ xs) k i at =
    place_by test f x xs k i (test (f x)) refl (place_from_is test f xs (suc k) i) at

-- what stands at the place
pub first_at : {A X : Type 0} (test : A → Bool) (f : X → A) (xs : List X) (i : ℕ) → place_from test 0 (map f xs) ≡ Some i → IsFirstAt test f xs i
first_at test f xs i at =
    let found = place_from_is test f xs 0 i at in
    let same : found.0 ≡ i = omega (arith, found.1) in
    subst (λ (j : ℕ). IsFirstAt test f xs j) same found.2

none_by : {A : Type 0} (b : Bool) (x : A) (k : ℕ) (at : Option ℕ) (found : Option A) → (at ≡ None → found ≡ None)
    → (if b then Some k else at) ≡ None → (if b then Some x else found) ≡ None
none_by true x k at found on nowhere = cc
none_by false x k at found on nowhere = on nowhere

-- nothing passes where no place is
pub nothing : {A : Type 0} (test : A → Bool) (k : ℕ) (xs : List A) → place_from test k xs ≡ None → find test xs ≡ None
nothing test k [] nowhere = refl
nothing test k (x ∷ xs) nowhere = none_by (test x) x k (place_from test (suc k) xs) (find test xs) (nothing test (suc k) xs) nowhere
