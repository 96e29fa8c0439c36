-- The places of requests of an audit log.
use Rattle.std.specs.Prelude.{ℕ, List, count_by}
use Rattle.apf_times.specs.declared.window.Arrival.{Arrival}
use Rattle.apf_times.specs.declared.window.Place.{Place}
use Rattle.apf_times.specs.Windows.{precedes}
use Rattle.apf_audit.specs.AuditEvent.{Event, event}
use Rattle.apf_audit.specs.declared.event.Taken.{Taken}

-- when a request was received, and its line
abbrev pub place_of : Event → Place
place_of e = record { arrives_at = e.received; line = e.line }

-- a request with its place
abbrev pub placed : Taken → Arrival Taken
placed taken = record { place = place_of (event taken); item = taken }

-- how many of these requests a place is before
abbrev pub number_after : Place → List Event → ℕ
number_after place events = count_by (λ other. precedes place (place_of other)) events
