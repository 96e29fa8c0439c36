-- The value of a line.
use Rattle.std.specs.Prelude.{Bool, true, is_some}
use Rattle.serde_json.specs.Data.{Data}
use Rattle.serde_json.specs.View.{view}
use Rattle.apf_values.specs.Flat.{data_at, or_null}
use Rattle.apf_values.specs.declared.line.Read.{Read}
use Rattle.apf_values.specs.declared.line.Read.TheVariants.{Tree, Tape}

abbrev pub read_data : Read → Data
read_data (Tree value) = view value
read_data (Tape tokens) = or_null (data_at tokens)

-- there is one
abbrev pub is_read : Read → Bool
is_read (Tree value) = true
is_read (Tape tokens) = is_some (data_at tokens)
