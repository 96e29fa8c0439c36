-- The requests file of a trace.
use Rattle.std.specs.Prelude.{ℕ, List, [], ◌∷◌, ◌++◌, ◌==◌, if◌then◌else◌, Option, Some, None, codes, decimal, string_bytes}
use Rattle.std.specs.List.{flat_map}
use Rattle.apf_traces.specs.declared.request.FlowNames.{FlowNames}
use Rattle.apf_traces.specs.declared.request.TraceRequest.{TraceRequest}
use Rattle.apf_flows.specs.Json.{json_text}

-- the member of an object whose value is a text
unfoldable pub member_text : (key text : List ℕ) → List ℕ
member_text key text = json_text key ++ codes ":" ++ json_text text

-- a flow by its two names, and by its hash where it has none
abbrev pub flow_text : Option FlowNames → ℕ → List ℕ
flow_text (Some names) hash =
    member_text (codes "schema") (string_bytes names.schema) ++ codes "," ++ member_text (codes "distinguisher") (string_bytes names.distinguisher)
flow_text None hash = codes "\"hash\":" ++ decimal hash

-- a width that is not 1
abbrev pub width_text : ℕ → List ℕ
width_text width = if width == 1 then [] else codes ",\"width\":" ++ decimal width

-- the object that a request is
abbrev pub request_text : TraceRequest → List ℕ
request_text request = codes "{" ++ flow_text request.names request.hash ++ width_text request.width ++ codes "}"

-- the requests that come after the first, each behind a comma and on a line of its own
abbrev pub further_text : List TraceRequest → List ℕ
further_text requests = flat_map (λ request. codes ",\n" ++ request_text request) requests

-- one request a line
abbrev pub lines_text : List TraceRequest → List ℕ
lines_text [] = []
lines_text (first ∷ further) = request_text first ++ further_text further ++ codes "\n"

-- the requests file
abbrev pub requests_text : List TraceRequest → List ℕ
requests_text trace = codes "[\n" ++ lines_text trace ++ codes "]\n"
