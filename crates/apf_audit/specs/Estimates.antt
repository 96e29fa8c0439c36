-- How long a request that was turned away is to run, by those that were read, in bounded memory.
use Rattle.std.specs.Prelude.{◌≡◌, ℕ, ◌+◌, ◌-◌, ◌^◌, ◌<◌, List, [], ◌∷◌, ◌++◌, length, Bool, true, false, ◌||◌, nat_le, if◌then◌else◌, Option, Some, None, MatchOption, String, string_bytes, bytes_eq}
use Rattle.std.specs.declared.alloc.Global.{Global}
use Rattle.std.specs.BTreeMap.{is_at}
use Rattle.std.specs.Cmp.Lexicographic.{slice_cmp}
use Rattle.std.specs.Map.{lookup}
use Rattle.std.specs.Ordering.{nat_cmp}
use Rattle.std.specs.List.{list_any}
use Rattle.apf_times.specs.Waits.{AreKept, WaitsView, as_kept, max_exact}
use Rattle.apf_audit.specs.AuditEvent.{Event}
use Rattle.apf_audit.specs.Runs.{median_of, runs_of}

-- this many flows have runs of their own
abbrev pub max_flows : ℕ
max_flows = 100000

-- the flow is one of these
abbrev pub is_among : List ℕ → List (List ℕ) → Bool
is_among flow flows = list_any (λ other. bytes_eq flow other) flows

-- one request more was read: its flow is one of those with runs of their own if it ran, and there is room
abbrev pub own_with : List (List ℕ) → Event → List (List ℕ)
own_with flows event = if event.turned_away || is_among event.flow flows || nat_le max_flows (length flows) then flows else flows ++ event.flow ∷ []

-- the flows with runs of their own, where these are some before the requests were read
abbrev pub own_from : List (List ℕ) → List Event → List (List ℕ)
own_from flows [] = flows
own_from flows (event ∷ events) = own_from (own_with flows event) events

-- the flow is one of the first 100,000 of which one of these requests ran
abbrev pub is_own : List Event → List ℕ → Bool
is_own events flow = is_among flow (own_from [] events)

-- the median of runs, as it is, or with zeros behind its first eight binary digits where they are more than 10,000
unfoldable pub kept_median : List ℕ → ℕ
kept_median runs = as_kept (nat_le (length runs) max_exact) (median_of runs)

abbrev pub IsKeptMedian : List ℕ → ℕ → Type 0
IsKeptMedian runs run = run ≡ kept_median runs

-- the median of the runs of a flow, or of all if it has none of its own
unfoldable pub estimate_read : List Event → List ℕ → ℕ
estimate_read events flow = if is_own events flow then kept_median (runs_of (Some flow) events) else kept_median (runs_of None events)

-- how long the request of an event is to run, where these were read
abbrev pub run_read : List Event → Event → ℕ
run_read events event = if event.turned_away then estimate_read events event.flow else event.runs_for

-- What contracts see of estimates.
pub record EstimatesView : Type 0 where
  -- the runs of the flows that have runs of their own
  pub of_flow : List (String Global × WaitsView)
  -- the runs of all
  pub all : WaitsView

-- the runs of a flow that has runs of its own, by its name
abbrev pub runs_in : List (String Global × WaitsView) → List ℕ → Option WaitsView
runs_in of_flow flow = lookup (is_at (λ name. slice_cmp nat_cmp flow (string_bytes name))) of_flow

-- a flow has runs of its own if it is one of those, and these are all of its runs
abbrev pub IsOwn : List Event → List ℕ → Option WaitsView → Type 0
IsOwn events flow own = MatchOption own (is_own events flow ≡ false) (λ runs. (is_own events flow ≡ true) × AreKept (runs_of (Some flow) events) runs)

-- these requests were read
pub record AreEstimates (events : List Event) (v : EstimatesView) : Type 0 where
  pub all : AreKept (runs_of None events) v.all
  pub flows : length v.of_flow ≡ length (own_from [] events)
  pub own : (flow : List ℕ) → IsOwn events flow (runs_in v.of_flow flow)

-- one run more is kept
abbrev pub KeepsMore : ℕ → WaitsView → WaitsView → Type 0
KeepsMore run old new = (those : List ℕ) → length those < 2 ^ 64 - 1 → AreKept those old → AreKept (those ++ run ∷ []) new

-- the first run of a flow is kept, if there is room
abbrev pub KeepsFirst : (full : Bool) → ℕ → ℕ → Option WaitsView → ℕ → Type 0
KeepsFirst true run flows new flows' = (flows' ≡ flows) × (new ≡ None)
KeepsFirst false run flows new flows' = (flows' ≡ flows + 1) × (runs : WaitsView) × (new ≡ Some runs) × AreKept (run ∷ []) runs

-- one run more is kept of a flow, by whether it has runs of its own
abbrev pub KeepsHere : ℕ → Option WaitsView → ℕ → Option WaitsView → ℕ → Type 0
KeepsHere run (Some old) flows new flows' = (flows' ≡ flows) × (runs : WaitsView) × (new ≡ Some runs) × KeepsMore run old runs
KeepsHere run None flows new flows' = KeepsFirst (nat_le max_flows flows) run flows new flows'

-- one run more is kept of this flow, and those of the others stay
pub record KeepsOwn (flow : List ℕ) (run : ℕ) (old new : List (String Global × WaitsView)) : Type 0 where
  pub here : KeepsHere run (runs_in old flow) (length old) (runs_in new flow) (length new)
  pub others : (other : List ℕ) → bytes_eq flow other ≡ false → runs_in new other ≡ runs_in old other
