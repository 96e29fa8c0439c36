-- What stands in a file, as a person reads it.
use Rattle.std.specs.Prelude.{ℕ, List, ◌++◌, true, false, nat_le, if◌then◌else◌, length, Option, Some, None, option_map, codes, decimal}
use Rattle.std.specs.Fmt.{debug_str, signed_decimal}
use Rattle.serde_json.specs.Data.{Data, Num, null, boolean, number, string, array, object}
use Rattle.serde_json.specs.Find.{as_integer}

-- a text between quotes, as Rust's `{:?}` has it, which is stated of ASCII alone; of a longer one its length
unfoldable pub quoted_text : (what text : List ℕ) → Option (List ℕ)
quoted_text what text =
    if nat_le (length text) 64 then debug_str text else Some (what ++ codes " of " ++ decimal (length text) ++ codes " bytes")

-- a number: of one that is no integer nothing is stated
abbrev pub number_text : Num → Option (List ℕ)
number_text n = option_map signed_decimal (as_integer n)

-- a value
abbrev pub found_text : Option Data → Option (List ℕ)
found_text None = Some (codes "something else")
found_text (Some null) = Some (codes "null")
found_text (Some (boolean true)) = Some (codes "true")
found_text (Some (boolean false)) = Some (codes "false")
found_text (Some (number n)) = number_text n
found_text (Some (string text)) = quoted_text (codes "a text") text
found_text (Some (array ds)) = Some (codes "an array")
found_text (Some (object ms)) = Some (codes "an object")
