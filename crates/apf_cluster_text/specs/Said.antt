-- A text that the server of a log wrote, as it is shown.
use Rattle.std.specs.Prelude.{ℕ, List, ◌++◌, nat_le, if◌then◌else◌, length, Option, Some, None, codes, decimal}
use Rattle.std.specs.Str.{is_utf8}
use Rattle.apf_flows.specs.Json.{json_text}

-- itself, if it is short and UTF-8
unfoldable pub shown_of : List ℕ → Option (List ℕ)
shown_of bytes = if nat_le (length bytes) 256 then (if is_utf8 bytes then Some bytes else None) else None

-- how long it is
abbrev pub length_text : List ℕ → List ℕ
length_text bytes = codes "a text of " ++ (decimal (length bytes) ++ codes " bytes")

-- between quotes, if it is shown
abbrev pub said_by : Option (List ℕ) → List ℕ → List ℕ
said_by (Some text) bytes = json_text text
said_by None bytes = length_text bytes

unfoldable pub said_text : List ℕ → List ℕ
said_text bytes = said_by (shown_of bytes) bytes
