-- The value that bytes are, by what was read of them.
use Rattle.std.proofs.Common.{◌≡◌, ◌<◌, ℕ, List, [], ◌∷◌, length, None, Some, refl, arith}
use Rattle.std.specs.Str.{IsUtf8}
use Rattle.std.proofs.lemmas.Str.{is_utf8-from_IsUtf8}
use Rattle.serde_json.specs.Data.{Data}
use Rattle.serde_json.specs.Read.{read}
use Rattle.serde_json.proofs.OnLiterals.{serde_json_on_literals}
use Rattle.apf_files.specs.JsonFile.{value_of}

-- a text that was read
pub value_of-text : (bytes text : List ℕ) (d : Data) → text ≡ bytes → IsUtf8 bytes → read text ≡ Some d → value_of bytes ≡ Some d
value_of-text bytes text d same is is_read = rw (is_utf8-from_IsUtf8 bytes is, ← same) is_read

none_of_nothing : read [] ≡ None
unfolding serde_json_on_literals
none_of_nothing = refl

-- no value is read from no bytes
pub some_bytes : (bytes text : List ℕ) (d : Data) → text ≡ bytes → read text ≡ Some d → 0 < length bytes
some_bytes [] text d same is_read = let none = none_of_nothing in absurd cc
some_bytes (b ∷ bytes) text d same is_read = omega arith
