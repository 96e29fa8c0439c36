-- What is reported: decisions, their sums, and the numbers of a history.
use Rattle.std.specs.Prelude.{◌≡◌, ℕ, ◌↔◌, Bool, true, false, List, length, count_by, Contains, Option, Some}
use Rattle.apf_words.specs.declared.decision.Decision.{Decision}
use Rattle.apf_words.specs.declared.decision.Decision.TheVariants.{Execute, QueueFull, Closed, Cancelled, ConcurrencyLimit}
use Rattle.apf_history.specs.declared.events.Event.{Event}
use Rattle.apf_history.specs.declared.events.Event.TheVariants.{Enter, Full, Dispatch, Strike}
use Rattle.apf_history.specs.Tally.{tally}
use Rattle.apf_history.specs.History.{waiting}

-- a history agrees with a map of decisions
pub record Agrees (h : List Event) (decision : ℕ → Option Decision) : Type 0 where
  -- each dispatched request is decided execute
  pub dispatched : (r q : ℕ) → Contains h (Dispatch r q) → decision r ≡ Some Execute
  -- each struck request is decided cancelled
  pub struck : (r q : ℕ) → Contains h (Strike r q) → decision r ≡ Some Cancelled
  -- the requests with a Full event are those decided queue-full
  pub full : (r : ℕ) → ((q : ℕ) × Contains h (Full r q)) ↔ (decision r ≡ Some QueueFull)

-- each request decided execute was dispatched, or its Pass took its seats on arrival
abbrev pub ExecutesArrivals : List Event → (ℕ → Option Decision) → (ℕ → Bool) → Type 0
ExecutesArrivals h decision took = (r : ℕ) → decision r ≡ Some Execute → took r ≡ false → (q : ℕ) × Contains h (Dispatch r q)

-- 1 where a request is decided so
abbrev pub decided_at : Decision → Option Decision → ℕ
decided_at Execute (Some Execute) = 1
decided_at QueueFull (Some QueueFull) = 1
decided_at Closed (Some Closed) = 1
decided_at Cancelled (Some Cancelled) = 1
decided_at ConcurrencyLimit (Some ConcurrencyLimit) = 1
decided_at _ _ = 0

-- how many of the first n requests are decided so
abbrev pub decided : Decision → (ℕ → Option Decision) → ℕ → ℕ
decided d decision n = tally (λ r. decided_at d (decision r)) n

-- the kinds of event
abbrev pub is_enter : Event → Bool
is_enter (Enter _ _) = true
is_enter _ = false

abbrev pub is_full : Event → Bool
is_full (Full _ _) = true
is_full _ = false

abbrev pub is_dispatch : Event → Bool
is_dispatch (Dispatch _ _) = true
is_dispatch _ = false

abbrev pub is_strike : Event → Bool
is_strike (Strike _ _) = true
is_strike _ = false

-- the numbers of a history
pub record Stats : Type 0 where
  pub entered : ℕ
  pub dispatched : ℕ
  pub struck : ℕ
  pub full : ℕ
  -- of all queues together
  pub waiting : ℕ

-- the stats of a history over this many queues
abbrev pub stats_of : ℕ → List Event → Stats
stats_of queues h =
    record {
      entered = count_by is_enter h;
      dispatched = count_by is_dispatch h;
      struck = count_by is_strike h;
      full = count_by is_full h;
      waiting = tally (λ q. length (waiting h q)) queues;
    }
