-- Which file the bytes are that stand in the place of another one.
use Rattle.std.specs.Prelude.{ℕ, List, Bool, option_and_then, codes}
use Rattle.apf_files.specs.JsonFile.{value_of}
use Rattle.apf_explain.specs.Kinds.{has_key}
use Rattle.apf_explain.specs.TraceLines.{numbered_line}

-- the first line is an object that has `arrivesAt`
abbrev pub begins_as_trace : List ℕ → Bool
begins_as_trace bytes = has_key (codes "arrivesAt") (option_and_then value_of (numbered_line 1 bytes))
