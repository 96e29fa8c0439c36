-- The trace of requests of an audit log.
use Rattle.std.specs.Prelude.{ℕ, List, [], ◌++◌, codes, decimal, nat_lt, if◌then◌else◌}
use Rattle.apf_flows.specs.Json.{json_text}
use Rattle.apf_audit.specs.AuditEvent.{Event}

-- what stands in front of a text, and the text
unfoldable pub member_text : (front text : List ℕ) → List ℕ
member_text front text = front ++ json_text text

-- the two times of a request
unfoldable pub times_text : (arrives_at runs_for : ℕ) → List ℕ
times_text arrives_at runs_for = codes ",\"arrivesAt\":" ++ (decimal arrives_at ++ (codes ",\"runsFor\":" ++ decimal runs_for))

-- the width of a request that takes more than one seat
unfoldable pub width_text : ℕ → List ℕ
width_text width = if nat_lt 1 width then codes ",\"width\":" ++ decimal width else []

-- the line of a request of this flow schema, which arrives at this time
unfoldable pub line_text : List ℕ → Event → (arrives_at : ℕ) → List ℕ
line_text schema e arrives_at =
    member_text (codes "{\"schema\":") schema ++ member_text (codes ",\"distinguisher\":") e.flow
    ++ times_text arrives_at e.runs_for ++ width_text e.width ++ codes "}\n"
