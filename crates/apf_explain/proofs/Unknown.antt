-- The first unknown key of an object.
use Rattle.std.proofs.Common.{inl, inr, ◌≡◌, ℕ, List, [], ◌∷◌, Bool, true, false, Option, Some, None, Ok, Err, refl, String, Global, string_bytes}
use Rattle.std.specs.List.{find}
use Rattle.std.specs.Map.{keys_of}
use Rattle.std.specs.Prelude.{if◌then◌else◌, not, option_map}
use Rattle.serde_json.specs.Data.{Data, Members, no_members, member}
use Rattle.serde_json.specs.Find.{as_object}
use Rattle.serde_json.specs.View.{members_view}
use Rattle.serde_json.specs.declared.value.Value.{Value}
use Rattle.apf_files.specs.JsonFile.{all_known, known_object}
use Rattle.apf_explain.specs.declared.keys.Keys.{Keys}
use Rattle.apf_explain.specs.Keys.{is_key_of, unknown_in}
use Rattle.apf_explain.specs.Shown.{IsKeyIn, NamesUnknown}

find_by : (b : Bool) (is_known : List ℕ → Bool) (e : String Global × Value) (es : List (String Global × Value)) → is_known (string_bytes e.0) ≡ b
    → option_map string_bytes (find (λ name. not (is_known (string_bytes name))) (keys_of es)) ≡ unknown_in is_known (members_view es)
    → option_map string_bytes (find (λ name. not (is_known (string_bytes name))) (keys_of (e ∷ es))) ≡ unknown_in is_known (members_view (e ∷ es))
find_by true is_known e es is later = rw is later
find_by false is_known e es is later = rw is refl

-- the first key of a map that is unknown is that of the first member
pub find-keys_of : (is_known : List ℕ → Bool) (es : List (String Global × Value))
    → option_map string_bytes (find (λ name. not (is_known (string_bytes name))) (keys_of es)) ≡ unknown_in is_known (members_view es)
find-keys_of is_known [] = refl
find-keys_of is_known (e ∷ es) = find_by (is_known (string_bytes e.0)) is_known e es refl (find-keys_of is_known es)

-- an unknown key of these members, the one that is named
abbrev pub IsNamed : (List ℕ → Bool) → Members → Type 0
IsNamed is_known ms = (k : List ℕ) × (unknown_in is_known ms ≡ Some k) × (is_known k ≡ false) × IsKeyIn k ms

named_by : (b : Bool) (is_known : List ℕ → Bool) (k : List ℕ) (d : Data) (ms : Members) → is_known k ≡ b
    → all_known is_known (member k d ms) ≡ false → (all_known is_known ms ≡ false → IsNamed is_known ms) → IsNamed is_known (member k d ms)
named_by true is_known k d ms is h later =
    let rest = later (rw is at h) in
    (rest.0, rw is rest.1, rest.2, inr rest.3)
named_by false is_known k d ms is h later = (k, rw is refl, is, inl refl)

pub named : (is_known : List ℕ → Bool) (ms : Members) → all_known is_known ms ≡ false → IsNamed is_known ms
named is_known no_members h = absurd cc
named is_known (member k d ms) h = named_by (is_known k) is_known k d ms refl h (named is_known ms)

pub unknown_named : (keys : Keys) (d : Data) (ms : Members) → as_object d ≡ Some ms → all_known (is_key_of keys) ms ≡ false → NamesUnknown keys d
unknown_named keys d ms is all = (ms, is, named (is_key_of keys) ms all)

known_some : {F C : Type 0} (keys : Keys) (d : Data) (unknown_key fault : F) (ms : Members) (b : Bool) → as_object d ≡ Some ms
    → all_known (is_key_of keys) ms ≡ b → (if b then Ok ms else Err unknown_key) ≡ Err fault → (NamesUnknown keys d → unknown_key ≡ fault → C) → C
known_some keys d unknown_key fault ms true is all h unknown = absurd cc
known_some keys d unknown_key fault ms false is all h unknown = unknown (unknown_named keys d ms is all) cc

-- what is wrong where a value is no object of known keys
pub known_by : {F C : Type 0} (keys : Keys) (d : Data) (not_object unknown_key fault : F) (o : Option Members) → as_object d ≡ o
    → known_object (is_key_of keys) not_object unknown_key o ≡ Err fault
    → (as_object d ≡ None → not_object ≡ fault → C) → (NamesUnknown keys d → unknown_key ≡ fault → C) → C
known_by keys d not_object unknown_key fault None is h nothing unknown = nothing is cc
known_by keys d not_object unknown_key fault (Some ms) is h nothing unknown =
    known_some keys d unknown_key fault ms (all_known (is_key_of keys) ms) is refl h unknown
