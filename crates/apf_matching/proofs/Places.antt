-- The place of the first that passes a test.
use Rattle.std.proofs.Common.{◌≡◌, ℕ, suc, List, [], ◌∷◌, Bool, true, false, Option, Some, None}
use Rattle.std.specs.Prelude.{◌||◌, if◌then◌else◌}
use Rattle.std.specs.List.{list_any}
use Rattle.apf_matching.specs.First.{place_from}

there_by : (b : Bool) (i : ℕ) (later : Option ℕ) (others : Bool) → (later ≡ None → others ≡ true → ⊥)
    → (if b then Some i else later) ≡ None → (b || others) ≡ true → ⊥
there_by true i later others go nowhere some = cc
there_by false i later others go nowhere some = go nowhere some

-- where one passes there is a first one
pub is_somewhere : {A : Type 0} (test : A → Bool) (i : ℕ) (xs : List A) → place_from test i xs ≡ None → list_any test xs ≡ true → ⊥
is_somewhere test i [] nowhere some = cc
is_somewhere test i (x ∷ xs) nowhere some = there_by (test x) i (place_from test (suc i) xs) (list_any test xs) (is_somewhere test (suc i) xs) nowhere some
