-- How long a request ran, and what stands for that where it was turned away.
use Rattle.std.specs.Prelude.{ℕ, ◌*◌, List, length, map, filter, count_by, Bool, true, ◌&&◌, not, nat_le, nat_lt, if◌then◌else◌, Option, Some, None, unwrap_or, bytes_eq}
use Rattle.std.specs.List.{find}
use Rattle.apf_audit.specs.AuditEvent.{Event}

-- the event is of this flow, where one is named
abbrev pub is_of : Option (List ℕ) → Event → Bool
is_of None event = true
is_of (Some flow) event = bytes_eq event.flow flow

-- the request was not turned away, and is of this flow
abbrev pub ran : Option (List ℕ) → Event → Bool
ran flow event = not event.turned_away && is_of flow event

-- how long those ran that were not turned away, of this flow or of all
abbrev pub runs_of : Option (List ℕ) → List Event → List ℕ
runs_of flow events = map (λ event. event.runs_for) (filter (ran flow) events)

-- at least half of the runs are not above this one, and less than half are below it
abbrev pub is_median : List ℕ → ℕ → Bool
is_median runs run =
    nat_le (50 * length runs) (100 * count_by (λ r. nat_le r run) runs) && nat_lt (100 * count_by (λ r. nat_lt r run) runs) (50 * length runs)

-- the median of runs by the nearest rank, and 0 where there are none
unfoldable pub median_of : List ℕ → ℕ
median_of runs = unwrap_or (find (is_median runs) runs) 0

-- the median of the runs of a flow, or of all where none of its requests ran
unfoldable pub estimate_of : List Event → List ℕ → ℕ
estimate_of events flow =
    if nat_lt 0 (length (runs_of (Some flow) events)) then median_of (runs_of (Some flow) events) else median_of (runs_of None events)

-- how long the request of an event is to run, among these events
abbrev pub run_in : List Event → Event → ℕ
run_in events event = if event.turned_away then estimate_of events event.flow else event.runs_for
