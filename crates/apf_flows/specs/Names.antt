-- How a flow is named.
use Rattle.std.specs.Prelude.{ℕ, ◌-◌, ◌^◌, List, [], ◌++◌, false, Option, Some, None, codes, string_bytes}
use Rattle.std.specs.Fmt.{digits, padded_integral, format_spec}
use Rattle.apf_traces.specs.declared.request.FlowNames.{FlowNames}
use Rattle.apf_flows.specs.Json.{json_text}

-- a hash as 16 hexadecimal digits
unfoldable pub hash_text : ℕ → List ℕ
hash_text hash = padded_integral (format_spec 32 0 4 16 (2 ^ 64 - 1)) false [] (digits 16 false hash)

-- the two names of a flow, each with a space before it
abbrev pub names_text : Option FlowNames → List ℕ
names_text None = []
names_text (Some names) = codes " " ++ json_text (string_bytes names.schema) ++ codes " " ++ json_text (string_bytes names.distinguisher)

-- the two names of a flow, with the word before them
abbrev pub of_names_text : Option FlowNames → List ℕ
of_names_text None = []
of_names_text (Some names) = codes " of" ++ names_text (Some names)
