-- The value that is held.
use Rattle.std.specs.Prelude.{Bool, true, is_some}
use Rattle.serde_json.specs.Data.{Data}
use Rattle.serde_json.specs.View.{view}
use Rattle.apf_values.specs.Flat.{data_at, or_null}
use Rattle.apf_values.specs.declared.node.Held.{Held}
use Rattle.apf_values.specs.declared.node.Held.TheVariants.{Tree, Tape}

abbrev pub held_data : Held → Data
held_data (Tree value) = view value.now
held_data (Tape tokens) = or_null (data_at tokens)

-- there is one
abbrev pub is_held : Held → Bool
is_held (Tree value) = true
is_held (Tape tokens) = is_some (data_at tokens)
