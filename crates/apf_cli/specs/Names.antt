-- The names of files.
use Rattle.std.specs.Prelude.{ℕ, List, bytes_eq, if◌then◌else◌, codes}
use Rattle.apf_flows.specs.Json.{escapes_of}

-- the name of a file as a person is told it, where `-` stands for standard input
abbrev pub shown_name : List ℕ → List ℕ
shown_name name = if bytes_eq name (codes "-") then codes "standard input" else escapes_of name
