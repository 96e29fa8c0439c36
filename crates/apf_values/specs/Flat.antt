-- The value that a list of tokens begins with.
use Rattle.std.specs.Prelude.{ℕ, List, length, Option, Some, None, option_map, option_and_then}
use Rattle.json.specs.Token.{Token}
use Rattle.json.specs.Json.{Json, value}
use Rattle.serde_json.specs.Data.{Data, null}
use Rattle.serde_json.specs.Read.{of_json}

-- the value that tokens begin with. It nests no deeper than there are tokens
unfoldable pub json_at : List Token → Option Json
json_at ts = option_map (λ p. p.0) (value (length ts) ts)

-- the same value, as `serde_json` has it
unfoldable pub data_at : List Token → Option Data
data_at ts = option_and_then of_json (json_at ts)

abbrev pub or_null : Option Data → Data
or_null None = null
or_null (Some d) = d
