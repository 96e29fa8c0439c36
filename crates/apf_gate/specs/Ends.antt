-- How a gate ends, and what its end tells of its tokens.
use Rattle.std.specs.Prelude.{◌≡◌, ◌≢◌, ◌⊎◌, ℕ, ◌<◌, true, List, [], ◌∷◌, length, slice_get, All, Any, Option, Some, None}
use Rattle.apf_words.specs.Level.{Level}
use Rattle.apf_words.specs.declared.decision.Decision.{Decision}
use Rattle.apf_words.specs.declared.decision.Decision.TheVariants.{Execute, QueueFull, Closed, Cancelled, ConcurrencyLimit}
use Rattle.apf_model.specs.declared.moves.Move.TheVariants.{Decide}
use Rattle.apf_model.specs.declared.response.Response.TheVariants.{Reject}
use Rattle.apf_gate.specs.declared.record.Actor.TheVariants.{OfPass, OfDesk, OfStation}
use Rattle.apf_gate.specs.declared.record.Entry.{Entry}
use Rattle.apf_gate.specs.declared.record.Record.{Record}
use Rattle.apf_gate.specs.declared.record.Record.TheVariants.{Pass, Desk, Station}
use Rattle.apf_gate.specs.declared.record.State.TheVariants.{Took, Over}
use Rattle.apf_gate.specs.declared.record.Service.TheVariants.{RefusedFull, RefusedClosed, Waiting, Settled}
use Rattle.apf_gate.specs.declared.record.DeskRecord.{DeskRecord}
use Rattle.apf_gate.specs.Records.{level_of, told_of, told_own, service}
use Rattle.apf_gate.specs.Traces.{world_of, GoesOn, Made, MadeFirstClose, AreMade}
use Rattle.apf_gate.specs.Account.{Account, IsSound, AreSlots}
use Rattle.apf_gate.specs.Rule.{Every, AreApart, IsRecord}
use Rattle.apf_gate.specs.Gauges.{IsShape, AreLaws}
use Rattle.apf_gate.specs.Tokens.{GateId, PassToken, StationToken}

-- what the words of a gate that ended say
pub record WordsView : Type 0 where
  pub level : Level
  pub decisions : List (Option Decision)

-- the request's word is at this decision
abbrev pub IsDecided : WordsView → ℕ → Decision → Type 0
IsDecided words r decision = slice_get words.decisions r ≡ Some (Some decision)

-- the records of Passes, and of Stations, in front of others
abbrev pub passes_before : List PassToken → List Record → List Record
passes_before [] rest = rest
passes_before (token ∷ tokens) rest = Pass token.pass ∷ passes_before tokens rest

abbrev pub stations_before : List StationToken → List Record → List Record
stations_before [] rest = rest
stations_before (token ∷ tokens) rest = Station token.station ∷ stations_before tokens rest

-- the records of all tokens that were handed in
abbrev pub handed_in : DeskRecord → List PassToken → List StationToken → List Record
handed_in desk passes stations = stations_before stations (passes_before passes (Desk desk ∷ []))

-- a gate ended so, or was so when all its tokens were handed in while it goes on: in a state under the rule, in which each record that was handed in stands, and no two are of one token. The level word said this
pub record IsEnded (gate : GateId) (desk : DeskRecord) (passes : List PassToken) (stations : List StationToken) (level : Level) : Type 0 where
  pub account : Account
  pub sound : IsSound gate.shape account
  pub slots : AreSlots gate.shape account
  pub shape : IsShape gate.shape
  pub laws : AreLaws gate.shape
  pub level_is : level ≡ level_of gate.shape.widths (world_of gate.shape account.trace)
  pub stand : Every (IsRecord gate.shape account) (handed_in desk passes stations)
  pub apart : AreApart (handed_in desk passes stations)
  pub all_passes : length passes ≡ gate.shape.slots
  pub all_stations : length stations ≡ gate.shape.stations

-- the words are those of a state under the rule, in which each record that was handed in stands, and no two are of one token. It is that of a batch
pub record EndsWith (gate : GateId) (desk : DeskRecord) (passes : List PassToken) (stations : List StationToken) (words : WordsView) : Type 0 where
  pub account : Account
  pub sound : IsSound gate.shape account
  pub slots : AreSlots gate.shape account
  pub shape : IsShape gate.shape
  pub batch : length gate.shape.widths ≡ gate.shape.slots
  pub laws : AreLaws gate.shape
  pub level : words.level ≡ level_of gate.shape.widths (world_of gate.shape account.trace)
  pub count : length words.decisions ≡ length gate.shape.widths
  pub decided : (r : ℕ) → r < length gate.shape.widths → slice_get words.decisions r ≡ Some ((world_of gate.shape account.trace).decision r)
  pub stand : Every (IsRecord gate.shape account) (handed_in desk passes stations)
  pub apart : AreApart (handed_in desk passes stations)
  pub all_passes : length passes ≡ length gate.shape.widths
  pub all_stations : length stations ≡ gate.shape.stations

-- a token that was handed in was told this decision of r
abbrev pub WasTold : DeskRecord → List PassToken → List StationToken → ℕ → Decision → Type 0
WasTold desk passes stations r decision = (told_of desk.knows.told r ≡ Some decision)
    ⊎ (Any (λ (t : PassToken). told_of t.pass.knows.told r ≡ Some decision) passes ⊎ Any (λ (t : StationToken). told_of t.station.knows.told r ≡ Some decision) stations)

-- a token that was handed in saw just this trace at its last step
abbrev pub SawAtLast : DeskRecord → List PassToken → List StationToken → List Entry → Type 0
SawAtLast desk passes stations trace = (desk.knows.trace ≡ trace) ⊎ (Any (λ (t : PassToken). t.pass.knows.trace ≡ trace) passes ⊎ Any (λ (t : StationToken). t.station.knows.trace ≡ trace) stations)

-- the trace is the longest that a token saw, and goes on from what each other saw, by steps of others. Each of its steps is one of a token of this gate that makes such steps
pub record IsLongest (gate : GateId) (desk : DeskRecord) (passes : List PassToken) (stations : List StationToken) (trace : List Entry) : Type 0 where
  pub seen : SawAtLast desk passes stations trace
  pub made : AreMade gate.shape trace
  pub from_desk : GoesOn trace OfDesk desk.knows.trace
  pub from_passes : All (λ (t : PassToken). GoesOn trace (OfPass t.pass.number) t.pass.knows.trace) passes
  pub from_stations : All (λ (t : StationToken). GoesOn trace (OfStation t.station.number) t.station.knows.trace) stations

-- the words say what this trace makes of the level
abbrev pub AreOf : GateId → List Entry → WordsView → Type 0
AreOf gate trace words = (words.level ≡ level_of gate.shape.widths (world_of gate.shape trace))
    × ((r : ℕ) → r < length gate.shape.widths → slice_get words.decisions r ≡ Some ((world_of gate.shape trace).decision r))

-- the request's own Pass wrote this
abbrev pub Wrote : ℕ → Decision → PassToken → Type 0
Wrote r decision token = (token.pass.number ≡ r) × (token.pass.wrote ≡ Some decision)

-- the request's own Pass took its seats and wrote execute
abbrev pub ExecutedIt : ℕ → PassToken → Type 0
ExecutedIt r token = (token.pass.number ≡ r) × (token.pass.took ≡ true) × (token.pass.wrote ≡ Some Execute)

-- the request's own Pass wrote concurrency-limit, after a load that found no room
abbrev pub LimitedIt : ℕ → PassToken → Type 0
LimitedIt r token = (token.pass.number ≡ r) × (token.pass.saw_no_room ≡ true) × (token.pass.wrote ≡ Some ConcurrencyLimit)

-- the Pass holds no seats: it is over, or it took none and was told another decision than execute
pub record IsBack (token : PassToken) : Type 0 where
  pub back : (token.pass.state ≡ Over) ⊎ ((token.pass.state ≢ Took) × (told_own token.pass ≢ None) × (told_own token.pass ≢ Some Execute))

-- the Station wrote cancelled of r
abbrev pub WroteCancelled : ℕ → StationToken → Type 0
WroteCancelled r token = Made token.station.knows.trace (OfStation token.station.number) (Decide r Cancelled)

-- the Station's close was the first
abbrev pub ClosedFirst : StationToken → Type 0
ClosedFirst token = MadeFirstClose token.station.knows.shape token.station.knows.trace (OfStation token.station.number)

-- at most one Station did this
abbrev pub AtMostOne : (StationToken → Type 0) → List StationToken → Type 0
AtMostOne Did stations = All (λ (t : StationToken). All (λ (u : StationToken). Did t → Did u → t.station.number ≡ u.station.number) stations) stations

-- what the end of a gate tells
pub record EndAgrees (gate : GateId) (desk : DeskRecord) (passes : List PassToken) (stations : List StationToken) (words : WordsView) : Type 0 where
  -- each request's Pass was handed in, and each Station
  pub each_pass : (r : ℕ) → r < length gate.shape.widths → Any (λ (t : PassToken). t.pass.number ≡ r) passes
  pub each_station : (k : ℕ) → k < gate.shape.stations → Any (λ (t : StationToken). t.station.number ≡ k) stations
  -- the words are those of the longest trace that a token saw: of the token that stepped last
  pub last : (trace : List Entry) × IsLongest gate desk passes stations trace × AreOf gate trace words
  -- a decision that any token was told is the word's, so two that were told one of the same request were told the same
  pub told : (r : ℕ) (decision : Decision) → r < length gate.shape.widths → WasTold desk passes stations r decision → IsDecided words r decision
  -- a request is cancelled exactly if one Station wrote that, and no other
  pub cancelled_by_one : (r : ℕ) → r < length gate.shape.widths → IsDecided words r Cancelled → Any (WroteCancelled r) stations
  pub cancelled_is_written : (r : ℕ) → r < length gate.shape.widths → All (λ (t : StationToken). WroteCancelled r t → IsDecided words r Cancelled) stations
  pub cancelled_by_no_other : (r : ℕ) → AtMostOne (WroteCancelled r) stations
  -- the level is closed exactly if one Station's close was the first, and no other's; and it is closed wherever one saw it closed
  pub closed_by_one : words.level.closed ≡ true → Any ClosedFirst stations
  pub closed_is_first : All (λ (t : StationToken). ClosedFirst t → words.level.closed ≡ true) stations
  pub closed_by_no_other : AtMostOne ClosedFirst stations
  pub closed_is_seen : All (λ (t : StationToken). t.station.knows.saw_closed ≡ true → words.level.closed ≡ true) stations
  -- a request is executed exactly if its Pass took its seats and wrote that, or the Desk settled it
  pub executed : (r : ℕ) → r < length gate.shape.widths → IsDecided words r Execute → (service desk r ≡ Settled) ⊎ Any (ExecutedIt r) passes
  pub settled : (r : ℕ) → r < length gate.shape.widths → service desk r ≡ Settled → IsDecided words r Execute
  -- it is queue-full exactly if the Desk refused it so
  pub full_was_refused : (r : ℕ) → r < length gate.shape.widths → IsDecided words r QueueFull → service desk r ≡ RefusedFull
  pub refused_as_full : (r : ℕ) → r < length gate.shape.widths → service desk r ≡ RefusedFull → IsDecided words r QueueFull
  -- it is closed exactly if its Pass or the Desk wrote that, on a closed level
  pub closed_was_written : (r : ℕ) → r < length gate.shape.widths → IsDecided words r Closed → ((service desk r ≡ RefusedClosed) ⊎ Any (Wrote r Closed) passes) × (words.level.closed ≡ true)
  pub refused_as_closed : (r : ℕ) → r < length gate.shape.widths → service desk r ≡ RefusedClosed → IsDecided words r Closed
  -- it is concurrency-limit exactly if its Pass wrote that, on a Reject gate and after a load that found no room
  pub limit_was_written : (r : ℕ) → r < length gate.shape.widths → IsDecided words r ConcurrencyLimit → Any (LimitedIt r) passes × (gate.shape.response ≡ Reject)
  -- what a Pass wrote is its request's decision
  pub written : All (λ (t : PassToken). (decision : Decision) → t.pass.wrote ≡ Some decision → IsDecided words t.pass.number decision) passes
  -- if no Pass holds seats and the Desk holds and has waiting nothing, no seat is taken and nobody waits
  pub drained : All IsBack passes → desk.held ≡ None → ((r : ℕ) → r < length gate.shape.widths → service desk r ≢ Waiting) → (words.level.seats ≡ 0) × (words.level.waiters ≡ 0)
