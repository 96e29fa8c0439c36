-- The value that bytes are, by what was read of them.
use Rattle.std.proofs.Common.{◌≡◌, ◌<◌, ℕ, List, [], ◌∷◌, length, Bool, true, false, None, Some, refl, arith}
use Rattle.std.specs.Str.{IsUtf8, is_utf8}
use Rattle.std.proofs.lemmas.Str.{IsUtf8-from_is_utf8, is_utf8-from_IsUtf8}
use Rattle.serde_json.specs.Data.{Data}
use Rattle.serde_json.specs.Read.{read}
use Rattle.serde_json.proofs.OnLiterals.{serde_json_on_literals}
use Rattle.apf_files.specs.JsonFile.{value_of}

-- a text that was read
pub value_of-read : (bytes : List ℕ) (d : Data) → IsUtf8 bytes → read bytes ≡ Some d → value_of bytes ≡ Some d
value_of-read bytes d text is_read = rw (is_utf8-from_IsUtf8 bytes text) is_read

none_by : (bytes : List ℕ) (b : Bool) → is_utf8 bytes ≡ b → (IsUtf8 bytes → read bytes ≡ None) → value_of bytes ≡ None
none_by bytes true text unread = rw text (unread (IsUtf8-from_is_utf8 bytes text))
none_by bytes false text unread = rw text refl

-- bytes that were refused
pub value_of-none : (bytes : List ℕ) → (IsUtf8 bytes → read bytes ≡ None) → value_of bytes ≡ None
value_of-none bytes unread = none_by bytes (is_utf8 bytes) refl unread

none_of_nothing : read [] ≡ None
unfolding serde_json_on_literals
none_of_nothing = refl

-- no value is read from no bytes
pub some_bytes : (bytes : List ℕ) (d : Data) → read bytes ≡ Some d → 0 < length bytes
some_bytes [] d is_read = let none = none_of_nothing in cc
some_bytes (b ∷ bytes) d is_read = omega arith
