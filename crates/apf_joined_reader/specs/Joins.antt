-- A request of an audit log, and what the server's own line says of it.
use Rattle.std.specs.Prelude.{ℕ, List, map, min, max, Option, Some, None, option_and_then, option_map}
use Rattle.std.specs.List.{flat_map}
use Rattle.std.specs.Option.{option_to_list}
use Rattle.apf_times.specs.Limits.{max_run}
use Rattle.apf_words.specs.Limits.{max_width}
use Rattle.apf_request_lines.specs.Lines.{Request}
use Rattle.apf_request_halves.specs.Reading.{Asked}
use Rattle.apf_audit.specs.AuditEvent.{Event}
use Rattle.apf_audit.specs.Joining.{joined}

-- a request as the audit log has it, and the id that a line was asked for by, with what was answered; none where no line was asked for
pub record Join : Type 0 where
  pub event : Event
  pub asked : Option Asked

-- the line that was answered, if one was
abbrev pub line_by : Option Asked → Option Request
line_by asked = option_and_then (λ a. option_map (λ p. p.request) a.found) asked

-- so many seats, within what a request takes
abbrev pub as_width : ℕ → ℕ
as_width seats = min (max seats 1) max_width

-- so long, within what a request runs
abbrev pub as_run : Option ℕ → Option ℕ
as_run said = option_map (λ run. min run max_run) said

-- the request with what its line says, and as the audit log has it where there is none
abbrev pub joined_by : Event → Option Request → Event
joined_by e None = e
joined_by e (Some r) = joined e (as_width r.seats) (as_run r.runs_for)

abbrev pub joined_of : Join → Event
joined_of j = joined_by j.event (line_by j.asked)

-- the requests as the audit log has them
abbrev pub events_of : List Join → List Event
events_of joins = map (λ j. j.event) joins

-- the requests with what their lines say
abbrev pub all_joined : List Join → List Event
all_joined joins = map joined_of joins

-- what was asked for, in this order
abbrev pub asked_of : List Join → List Asked
asked_of joins = flat_map (λ j. option_to_list j.asked) joins
