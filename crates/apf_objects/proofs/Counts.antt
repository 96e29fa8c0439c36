-- How many items there are.
use Rattle.std.proofs.Common.{◌≡◌, ℕ, ◌<◌, ◌≤◌, List, [], ◌∷◌, length, refl, true, false, arith}
use Rattle.std.specs.Prelude.{nat_lt}
use Rattle.std.proofs.lemmas.Bool.Decides.{nat_tests}
use Rattle.serde_json.specs.View.{items_view}
use Rattle.serde_json.specs.declared.value.Value.{Value}
use Rattle.apf_files.specs.RequestsFile.{items_count}

pub items_count-items_view : (vs : List Value) → items_count (items_view vs) ≡ length vs
items_count-items_view [] = refl
items_count-items_view (v ∷ vs) = omega (arith, items_count-items_view vs)

pub few : (most : ℕ) (vs : List Value) → length vs ≤ most → nat_lt most (items_count (items_view vs)) ≡ false
few most vs h = rw (items_count-items_view vs) (grind (arith, nat_tests))

pub many : (most : ℕ) (vs : List Value) → most < length vs → nat_lt most (items_count (items_view vs)) ≡ true
many most vs h = rw (items_count-items_view vs) (grind (arith, nat_tests))
