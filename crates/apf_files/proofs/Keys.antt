-- The keys of an object, as its map has them.
use Rattle.std.proofs.Common.{◌≡◌, ℕ, List, [], ◌∷◌, Bool, refl, ap, String, Global, string_bytes}
use Rattle.std.specs.List.{list_all}
use Rattle.std.specs.Map.{keys_of}
use Rattle.std.specs.Prelude.{◌&&◌}
use Rattle.serde_json.specs.View.{members_view}
use Rattle.serde_json.specs.declared.value.Value.{Value}
use Rattle.apf_files.specs.JsonFile.{all_known}

-- a test of each key of a map is the test of each member
pub list_all-keys_of : (is_known : List ℕ → Bool) (es : List (String Global × Value))
    → list_all (λ name. is_known (string_bytes name)) (keys_of es) ≡ all_known is_known (members_view es)
list_all-keys_of is_known [] = refl
list_all-keys_of is_known (e ∷ es) = ap (λ b. is_known (string_bytes e.0) && b) (list_all-keys_of is_known es)
