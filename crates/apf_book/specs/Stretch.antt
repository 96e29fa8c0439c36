-- Stretches of a log, which has its oldest event first. Place k of a log is after its first k events. The list of widths has what the dispatch of each request is charged: its width, or its cost.
use Rattle.std.specs.Prelude.{◌≡◌, ◌≢◌, ℕ, ◌+◌, ◌-◌, ◌*◌, ◌<◌, ◌≤◌, List, [], length, take, drop, reverse, slice_get, Contains, Some}
use Rattle.apf_history.specs.declared.events.Event.{Event}
use Rattle.apf_history.specs.declared.events.Event.TheVariants.{Enter}
use Rattle.apf_model.specs.History.{waiting}
use Rattle.apf_model.specs.Fair.{service, widest}
use Rattle.apf_model.specs.Waits.{total_width, granted}

-- the history of a log at a place: what came before it, the newest event first
abbrev pub history_at : List Event → ℕ → List Event
history_at log k = reverse (take k log)

-- q is empty at a place of the stretch, both ends included
abbrev pub IsEmptyIn : List Event → ℕ → ℕ → ℕ → Type 0
IsEmptyIn log from to q = (k : ℕ) × (from ≤ k) × (k ≤ to) × (waiting (history_at log k) q ≡ [])

-- someone waits in q at each place of the stretch, both ends included
abbrev pub IsBacklogged : List Event → ℕ → ℕ → ℕ → Type 0
IsBacklogged log from to q = (k : ℕ) → from ≤ k → k ≤ to → waiting (history_at log k) q ≢ []

-- the service of q in the stretch: the sum of what was charged for the requests dispatched from it there
abbrev pub service_in : List ℕ → List Event → ℕ → ℕ → ℕ → ℕ
service_in widths log from to q = service widths (reverse (drop from (take to log))) q

-- in each stretch of the log in which q is never empty, no other queue is served more than q and twice the largest charge. Closed: no search looks into it
unfoldable pub IsIsolated : ℕ → List ℕ → List Event → Type 0
IsIsolated queues widths log = (from to q other : ℕ) → from ≤ to → to ≤ length log → q < queues → other < queues → IsBacklogged log from to q
    → service_in widths log from to other ≤ service_in widths log from to q + 2 * widest widths

-- the event after this place is r's Enter into q, where r waits still at the later place
abbrev pub WaitsFrom : List Event → ℕ → ℕ → ℕ → ℕ → Type 0
WaitsFrom log from to r q = (from < to) × (to ≤ length log) × (slice_get log from ≡ Some (Enter r q)) × Contains (waiting (history_at log to) q) r

-- the charges of those that waited in q at this place, together: what stands before a request that enters it there
abbrev pub seats_before : List ℕ → List Event → ℕ → ℕ → ℕ
seats_before widths log from q = total_width widths (waiting (history_at log from) q)

-- the services of this many queues in the stretch, together
abbrev pub granted_in : ℕ → List ℕ → List Event → ℕ → ℕ → ℕ
granted_in queues widths log from to = granted queues widths (reverse (drop from (take to log)))

-- what is served while a request of q waits, before which so much stood
pub record IsBounded (queues : ℕ) (widths : List ℕ) (log : List Event) (from to q before : ℕ) : Type 0 where
  pub own : service_in widths log from to q ≤ before
  pub others : (other : ℕ) → other < queues → service_in widths log from to other ≤ before + 2 * widest widths
  pub all : granted_in queues widths log from to ≤ before + (queues - 1) * (before + 2 * widest widths)

-- while a request waits, its own queue is served at most what stood before it, and each other at most that and twice the largest charge. Closed: no search looks into it
unfoldable pub AreWaitsBounded : ℕ → List ℕ → List Event → Type 0
AreWaitsBounded queues widths log = (from to r q : ℕ) → WaitsFrom log from to r q → q < queues → IsBounded queues widths log (from + 1) to q (seats_before widths log from q)
