-- The requests of an array, as its list has the members.
use Rattle.std.proofs.Common.{◌≡◌, ℕ, ◌<◌, ◌≤◌, Some, Err, List, [], ◌∷◌, length, refl, sym, true, false, arith}
use Rattle.std.specs.Prelude.{nat_le}
use Rattle.std.proofs.lemmas.Bool.Decides.{nat_tests}
use Rattle.serde_json.specs.Data.{Data}
use Rattle.serde_json.specs.Find.{as_array}
use Rattle.serde_json.specs.View.{items_view}
use Rattle.serde_json.specs.declared.value.Value.{Value}
use Rattle.apf_words.specs.Limits.{max_requests}
use Rattle.apf_files.specs.RequestsFile.{items_count, requests_from, requests_of}
use Rattle.apf_files.specs.declared.requests.RequestFault.TheVariants.{TooMany}

pub items_count-items_view : (vs : List Value) → items_count (items_view vs) ≡ length vs
items_count-items_view [] = refl
items_count-items_view (v ∷ vs) = omega (arith, items_count-items_view vs)

few : (n : ℕ) → n ≤ max_requests → nat_le n max_requests ≡ true
few n h = grind (arith, nat_tests)

many : (n : ℕ) → max_requests < n → nat_le n max_requests ≡ false
many n h = grind (arith, nat_tests)

-- an array of too many members
pub requests_of-many : (d : Data) (vs : List Value) → Some (items_view vs) ≡ as_array d → max_requests < length vs
    → requests_of d ≡ Err TooMany
unfolding requests_of
requests_of-many d vs is_array h = rw (sym is_array, items_count-items_view vs, many (length vs) h) refl

-- an array of few enough members
pub requests_of-few : (d : Data) (vs : List Value) → Some (items_view vs) ≡ as_array d → length vs ≤ max_requests
    → requests_of d ≡ requests_from (length vs) 0 (items_view vs)
unfolding requests_of
requests_of-few d vs is_array h = rw (sym is_array, items_count-items_view vs, few (length vs) h) refl
