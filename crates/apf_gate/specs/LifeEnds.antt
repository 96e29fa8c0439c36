-- How a gate ends whose slots are used again, and what its end tells of all requests that ever held one.
use Rattle.std.specs.Prelude.{◌≡◌, ◌≢◌, ◌⊎◌, ℕ, ◌+◌, ◌<◌, true, List, [], ◌∷◌, ◌++◌, length, slice_get, All, Any, Contains, Option, Some, None}
use Rattle.apf_words.specs.Level.{Level}
use Rattle.apf_words.specs.declared.decision.Decision.{Decision}
use Rattle.apf_words.specs.declared.decision.Decision.TheVariants.{Execute, QueueFull, Closed, Cancelled, ConcurrencyLimit}
use Rattle.apf_model.specs.declared.moves.Stage.TheVariants.{Away}
use Rattle.apf_model.specs.declared.response.Response.TheVariants.{Reject}
use Rattle.apf_model.specs.Schedule.{IsSchedule}
use Rattle.apf_gate.specs.declared.counts.Counts.{Counts}
use Rattle.apf_gate.specs.declared.record.Entry.{Entry}
use Rattle.apf_gate.specs.declared.record.State.TheVariants.{Fresh}
use Rattle.apf_gate.specs.declared.record.Service.TheVariants.{RefusedFull, RefusedClosed, Waiting, Settled}
use Rattle.apf_gate.specs.declared.record.PassRecord.{PassRecord}
use Rattle.apf_gate.specs.declared.record.DeskRecord.{DeskRecord}
use Rattle.apf_gate.specs.Slots.{slot_of}
use Rattle.apf_gate.specs.Records.{level_of, told_own, service}
use Rattle.apf_gate.specs.Gauges.{IsShape}
use Rattle.apf_gate.specs.Traces.{opening_of, moves, world_of}
use Rattle.apf_gate.specs.Counted.{AreCounts}
use Rattle.apf_gate.specs.Tokens.{GateId, PassToken, StationToken}
use Rattle.apf_gate.specs.Ends.{IsEnded, WasTold, IsLongest, IsBack, WroteCancelled, ClosedFirst, AtMostOne}

-- what the words of such a gate say that ended: for each slot the decision of the request that holds it, and how many of all that ever held one were decided so
pub record LifeView : Type 0 where
  pub level : Level
  pub decisions : List (Option Decision)
  pub counts : Counts

-- the decided requests that held the slots of these Passes before, each with its decision
abbrev pub pasts : List PassToken → List (ℕ × Decision)
pasts [] = []
pasts (token ∷ tokens) = token.pass.past ++ pasts tokens

-- the decided requests that hold the slots from i on, whose words say this
abbrev pub presents : (ℕ → ℕ) → ℕ → List (Option Decision) → List (ℕ × Decision)
presents current i [] = []
presents current i (None ∷ decisions) = presents current (i + 1) decisions
presents current i (Some decision ∷ decisions) = (current i, decision) ∷ presents current (i + 1) decisions

-- the words are those of a state under the rule, and the numbers are those of all requests that were ever decided
pub record LifeEndsWith (gate : GateId) (desk : DeskRecord) (passes : List PassToken) (stations : List StationToken) (words : LifeView) : Type 0 where
  pub ended : IsEnded gate desk passes stations words.level
  pub count : length words.decisions ≡ gate.shape.slots
  pub decided : (i : ℕ) → i < gate.shape.slots → slice_get words.decisions i ≡ Some ((world_of gate.shape ended.account.trace).decision (ended.account.current i))
  pub counts : AreCounts words.counts (pasts passes ++ presents ended.account.current 0 words.decisions)

-- no request stands twice among these
abbrev pub NoneTwice : List (ℕ × Decision) → Type 0
NoneTwice [] = Unit {0}
NoneTwice (one ∷ others) = All (λ (other : ℕ × Decision). other.0 ≢ one.0) others × NoneTwice others

-- these are all requests that were decided by then, each once, with its decision
pub record AreAllDecided (gate : GateId) (trace : List Entry) (decisions : List (ℕ × Decision)) : Type 0 where
  pub once : NoneTwice decisions
  pub each : (r : ℕ) (decision : Decision) → r < length gate.shape.widths → (world_of gate.shape trace).decision r ≡ Some decision → Contains decisions (r, decision)
  pub no_others : All (λ (one : ℕ × Decision). (one.0 < length gate.shape.widths) × ((world_of gate.shape trace).decision one.0 ≡ Some one.1)) decisions

-- the Pass is back: its request never began, or it was told its decision and holds no seats
abbrev pub IsBackForLife : PassToken → Type 0
IsBackForLife token = (token.pass.state ≡ Fresh) ⊎ ((told_own token.pass ≢ None) × IsBack token)

-- what the end of such a gate tells, of each request that ever held a slot
pub record LifeAgrees (gate : GateId) (desk : DeskRecord) (passes : List PassToken) (stations : List StationToken) (words : LifeView) : Type 0 where
  -- the Pass of each slot was handed in, and each Station
  pub each_slot : (i : ℕ) → i < gate.shape.slots → Any (λ (t : PassToken). slot_of t.pass.number ≡ i) passes
  pub each_station : (k : ℕ) → k < gate.shape.stations → Any (λ (t : StationToken). t.station.number ≡ k) stations
  -- the words are those of the longest trace that a token saw: of the token that stepped last
  pub trace : List Entry
  pub longest : IsLongest gate desk passes stations trace
  -- its moves are a schedule, and the gate is of a shape that a gate may have
  pub schedule : IsSchedule (opening_of gate.shape) (moves trace)
  pub shape : IsShape gate.shape
  pub level : words.level ≡ level_of gate.shape.widths (world_of gate.shape trace)
  pub present : All (λ (t : PassToken). slice_get words.decisions (slot_of t.pass.number) ≡ Some ((world_of gate.shape trace).decision t.pass.number)) passes
  -- the numbers are those of all requests that were ever decided: the executed, the rejected and the cancelled sum up
  pub ever : List (ℕ × Decision)
  pub are_all : AreAllDecided gate trace ever
  pub sums : AreCounts words.counts ever
  -- each record of a Pass is that with which it left its request, or which was handed in
  pub pass : ℕ → PassRecord
  pub handed_in : All (λ (t : PassToken). pass t.pass.number ≡ t.pass) passes
  -- when all Passes are back, who is undecided never began
  pub undecided : All IsBackForLife passes → (r : ℕ) → r < length gate.shape.widths → (world_of gate.shape trace).decision r ≡ None → ((world_of gate.shape trace).stage r ≡ Away) × ((pass r).state ≡ Fresh)
  -- a decision that any token was told is the request's, so two that were told one of the same request were told the same
  pub told : (r : ℕ) (decision : Decision) → WasTold desk passes stations r decision → (world_of gate.shape trace).decision r ≡ Some decision
  -- a request is cancelled exactly if one Station wrote that, and no other
  pub cancelled_by_one : (r : ℕ) → (world_of gate.shape trace).decision r ≡ Some Cancelled → Any (WroteCancelled r) stations
  pub cancelled_is_written : (r : ℕ) → All (λ (t : StationToken). WroteCancelled r t → (world_of gate.shape trace).decision r ≡ Some Cancelled) stations
  pub cancelled_by_no_other : (r : ℕ) → AtMostOne (WroteCancelled r) stations
  -- the level is closed exactly if one Station's close was the first, and no other's; and it is closed wherever one saw it closed
  pub closed_by_one : words.level.closed ≡ true → Any ClosedFirst stations
  pub closed_is_first : All (λ (t : StationToken). ClosedFirst t → words.level.closed ≡ true) stations
  pub closed_by_no_other : AtMostOne ClosedFirst stations
  pub closed_is_seen : All (λ (t : StationToken). t.station.knows.saw_closed ≡ true → words.level.closed ≡ true) stations
  -- a request is executed exactly if its Pass took its seats and wrote that, or the Desk settled it
  pub executed : (r : ℕ) → r < length gate.shape.widths → (world_of gate.shape trace).decision r ≡ Some Execute → (service desk r ≡ Settled) ⊎ (((pass r).took ≡ true) × ((pass r).wrote ≡ Some Execute))
  pub settled : (r : ℕ) → r < length gate.shape.widths → service desk r ≡ Settled → (world_of gate.shape trace).decision r ≡ Some Execute
  -- it is queue-full exactly if the Desk refused it so
  pub full_was_refused : (r : ℕ) → r < length gate.shape.widths → (world_of gate.shape trace).decision r ≡ Some QueueFull → service desk r ≡ RefusedFull
  pub refused_as_full : (r : ℕ) → r < length gate.shape.widths → service desk r ≡ RefusedFull → (world_of gate.shape trace).decision r ≡ Some QueueFull
  -- it is closed exactly if its Pass or the Desk wrote that, on a closed level
  pub closed_was_written : (r : ℕ) → r < length gate.shape.widths → (world_of gate.shape trace).decision r ≡ Some Closed → ((service desk r ≡ RefusedClosed) ⊎ ((pass r).wrote ≡ Some Closed)) × (words.level.closed ≡ true)
  pub refused_as_closed : (r : ℕ) → r < length gate.shape.widths → service desk r ≡ RefusedClosed → (world_of gate.shape trace).decision r ≡ Some Closed
  -- it is concurrency-limit exactly if its Pass wrote that, on a Reject gate and after a load that found no room
  pub limit_was_written : (r : ℕ) → r < length gate.shape.widths → (world_of gate.shape trace).decision r ≡ Some ConcurrencyLimit → ((pass r).saw_no_room ≡ true) × ((pass r).wrote ≡ Some ConcurrencyLimit) × (gate.shape.response ≡ Reject)
  -- what a Pass wrote is its request's decision
  pub written : (r : ℕ) (decision : Decision) → r < length gate.shape.widths → (pass r).wrote ≡ Some decision → (world_of gate.shape trace).decision r ≡ Some decision
  -- if no Pass holds seats and the Desk holds and has waiting nothing, no seat is taken and nobody waits
  pub drained : All IsBackForLife passes → desk.held ≡ None → ((r : ℕ) → r < length gate.shape.widths → service desk r ≢ Waiting) → (words.level.seats ≡ 0) × (words.level.waiters ≡ 0)
