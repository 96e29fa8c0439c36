-- What the end of a level tells.
use Rattle.std.specs.Prelude.{◌≡◌, ◌≢◌, ◌⊎◌, ℕ, ◌+◌, ◌<◌, true, List, [], length, All, Any, Option, Some, None}
use Rattle.apf_words.specs.Level.{Level}
use Rattle.apf_words.specs.declared.decision.Decision.{Decision}
use Rattle.apf_words.specs.declared.decision.Decision.TheVariants.{Execute, QueueFull, Closed, Cancelled, ConcurrencyLimit}
use Rattle.apf_history.specs.declared.events.Event.{Event}
use Rattle.apf_model.specs.Outcome.{decided, Agrees, ExecutesArrivals}
use Rattle.apf_gate.specs.Records.{told_of, told_own}
use Rattle.apf_gate.specs.Traces.{world_of}
use Rattle.apf_gate.specs.Tokens.{PassToken, StationToken}
use Rattle.apf_gate.specs.Ends.{WroteCancelled, ClosedFirst}
use Rattle.apf_book.specs.LedgerView.{IsLogOf, NothingWaits}
use Rattle.apf_book.specs.Laws.{took_in, EnteredBy, IsMade}
use Rattle.apf_model.specs.declared.response.Response.TheVariants.{Reject}
use Rattle.apf_level.specs.declared.report.Counts.{Counts}
use Rattle.apf_level.specs.Levels.{LevelId, logged_as}

-- one decision more
abbrev pub counted : Counts → Decision → Counts
counted c Execute = record c { executed = c.executed + 1 }
counted c QueueFull = record c { queue_full = c.queue_full + 1 }
counted c Closed = record c { closed = c.closed + 1 }
counted c Cancelled = record c { cancelled = c.cancelled + 1 }
counted c ConcurrencyLimit = record c { concurrency_limit = c.concurrency_limit + 1 }

-- the numbers of the decisions of the first n requests, which sum to n
pub record AreSums (c : Counts) (decision : ℕ → Option Decision) (n : ℕ) : Type 0 where
  pub executed : c.executed ≡ decided Execute decision n
  pub queue_full : c.queue_full ≡ decided QueueFull decision n
  pub closed : c.closed ≡ decided Closed decision n
  pub concurrency_limit : c.concurrency_limit ≡ decided ConcurrencyLimit decision n
  pub cancelled : c.cancelled ≡ decided Cancelled decision n
  pub all : c.executed + c.queue_full + c.closed + c.concurrency_limit + c.cancelled ≡ n

-- the request's Pass, or a Station, was told this decision of it
abbrev pub WasToldBy : List PassToken → List StationToken → ℕ → Decision → Type 0
WasToldBy passes stations r decision = Any (λ (t : PassToken). (t.pass.number ≡ r) × (told_own t.pass ≡ Some decision)) passes ⊎ Any (λ (t : StationToken). told_of t.station.knows.told r ≡ Some decision) stations

-- what the words and the log of a level said when it ended, of the Passes and Stations that were handed in. The log's newest event stands first
pub record Ended (k : LevelId) (level : Level) (decision : ℕ → Option Decision) (h : List Event) (passes : List PassToken) (stations : List StationToken) : Type 0 where
  -- no seat is taken, and nobody is counted as waiting
  pub drained : (level.seats ≡ 0) × (level.waiters ≡ 0)
  -- the log is legal and fair, and nobody waits
  pub of_log : IsLogOf (logged_as k h)
  pub nobody_waits : NothingWaits (logged_as k h)
  -- log and decisions agree: each dispatched request is executed, each struck one cancelled, those with a Full event are those decided queue-full
  pub agrees : Agrees h decision
  -- each executed request was dispatched, or its Pass took its seats on arrival
  pub arrivals : ExecutesArrivals h decision (took_in passes)
  -- one trace of the level's steps, which is a schedule, explains the level word, and goes on from what each Pass and each Station saw; with queues it says the log, and without them the log is empty
  pub made : IsMade k.gate h level passes stations
  pub logs_nothing : k.gate.shape.response ≡ Reject → h ≡ []
  -- each decision is the one that these steps wrote, and whoever was told one of a request was told that
  pub decides : (r : ℕ) → r < length k.gate.shape.widths → decision r ≡ (world_of k.gate.shape made.trace).decision r
  pub told_one : (r : ℕ) (d : Decision) → r < length k.gate.shape.widths → WasToldBy passes stations r d → decision r ≡ Some d
  -- each Pass has that its request entered exactly if the log has its Enter
  pub entered : All (EnteredBy h) passes
  -- each request's Pass was handed in, and was told its decision
  pub each : (r : ℕ) → r < length k.gate.shape.widths → Any (λ (t : PassToken). t.pass.number ≡ r) passes
  -- each Station was handed in
  pub each_station : (j : ℕ) → j < k.gate.shape.stations → Any (λ (t : StationToken). t.station.number ≡ j) stations
  pub told : All (λ (t : PassToken). decision t.pass.number ≡ told_own t.pass) passes
  pub all_decided : (r : ℕ) → r < length k.gate.shape.widths → decision r ≢ None
  -- a request is cancelled exactly if a Station that was handed in wrote that
  pub cancelled_by : (r : ℕ) → r < length k.gate.shape.widths → decision r ≡ Some Cancelled → Any (WroteCancelled r) stations
  pub cancelled_is_written : (r : ℕ) → r < length k.gate.shape.widths → All (λ (t : StationToken). WroteCancelled r t → decision r ≡ Some Cancelled) stations
  -- the level is closed exactly if the close of a Station that was handed in was the first, which is so wherever one saw it closed
  pub closed_by : level.closed ≡ true → Any ClosedFirst stations
  pub closed_is_first : All (λ (t : StationToken). ClosedFirst t → level.closed ≡ true) stations
  pub closed_is_seen : All (λ (t : StationToken). t.station.knows.saw_closed ≡ true → level.closed ≡ true) stations
