-- What is true of every book, and of one whose gate ended.
use Rattle.std.specs.Prelude.{◌≡◌, ◌↔◌, ℕ, ◌<◌, ◌==◌, ◌&&◌, ◌||◌, Bool, true, false, List, [], ◌∷◌, length, slice_index_or, All, Contains, map, Option, Some, None}
use Rattle.apf_words.specs.declared.decision.Decision.{Decision}
use Rattle.apf_words.specs.declared.decision.Decision.TheVariants.{Cancelled}
use Rattle.apf_history.specs.declared.events.Event.{Event}
use Rattle.apf_history.specs.declared.events.Event.TheVariants.{Enter, Full, Dispatch, Strike}
use Rattle.apf_model.specs.declared.response.Response.TheVariants.{Queue}
use Rattle.apf_model.specs.History.{waiting}
use Rattle.apf_model.specs.Outcome.{Agrees, ExecutesArrivals}
use Rattle.apf_model.specs.Schedule.{IsSchedule}
use Rattle.apf_gate.specs.declared.record.Service.TheVariants.{RefusedFull, Waiting, Settled}
use Rattle.apf_gate.specs.declared.record.DeskRecord.{DeskRecord}
use Rattle.apf_gate.specs.Records.{told_of, service, level_of}
use Rattle.apf_words.specs.Level.{Level}
use Rattle.apf_gate.specs.declared.record.Actor.TheVariants.{OfPass, OfStation}
use Rattle.apf_gate.specs.declared.record.Entry.{Entry}
use Rattle.apf_gate.specs.Traces.{opening_of, moves, world_of, GoesOn, AreMade}
use Rattle.apf_gate.specs.Tokens.{GateId, PassToken, StationToken}
use Rattle.apf_book.specs.Said.{saying, sayings}
use Rattle.apf_gate.specs.Ends.{WordsView}
use Rattle.apf_book.specs.LedgerView.{LedgerView, HasFairLog}

-- the Desk and the log say the same
pub record DeskAgreesWithLog (desk : DeskRecord) (v : LedgerView) : Type 0 where
  -- the log is legal, and each dispatch names the choice
  pub fair : HasFairLog v
  -- the Desk's waiting requests are the members of the queues
  pub waiting_is : (r : ℕ) → (service desk r ≡ Waiting) ↔ ((q : ℕ) × Contains (waiting v.history q) r)
  pub holds_none : desk.held ≡ None
  -- the dispatched requests are those that it settled with execute
  pub dispatched_is : (r : ℕ) → (service desk r ≡ Settled) ↔ ((q : ℕ) × Contains v.history (Dispatch r q))
  -- it was told cancelled of each struck request
  pub struck_is_told : (r q : ℕ) → Contains v.history (Strike r q) → told_of desk.knows.told r ≡ Some Cancelled
  -- the requests with a Full event are those that it refused as full
  pub full_is : (r : ℕ) → (service desk r ≡ RefusedFull) ↔ ((q : ℕ) × Contains v.history (Full r q))

-- the decision of a request, as the words of a gate that ended say it
abbrev pub decision_in : WordsView → ℕ → Option Decision
decision_in words r = slice_index_or words.decisions r None

-- the request's Pass took its seats on arrival
abbrev pub took_in : List PassToken → ℕ → Bool
took_in [] r = false
took_in (token ∷ tokens) r = ((token.pass.number == r) && token.pass.took) || took_in tokens r

-- the Pass has that its request entered exactly if the history has its Enter
abbrev pub EnteredBy : List Event → PassToken → Type 0
EnteredBy h t = (t.pass.entered ≡ true) ↔ ((q : ℕ) × Contains h (Enter t.pass.number q))

-- one trace of steps of this gate's tokens, whose moves are a schedule, explains the level word, and goes on from what each Pass and each Station saw; of a gate with queues it says the history
pub record IsMade (gate : GateId) (h : List Event) (level : Level) (passes : List PassToken) (stations : List StationToken) : Type 0 where
  pub trace : List Entry
  pub made : AreMade gate.shape trace
  pub schedule : IsSchedule (opening_of gate.shape) (moves trace)
  pub says : gate.shape.response ≡ Queue → map saying h ≡ sayings trace
  pub word : level ≡ level_of gate.shape.widths (world_of gate.shape trace)
  pub from_passes : All (λ (t : PassToken). GoesOn trace (OfPass t.pass.number) t.pass.knows.trace) passes
  pub goes_on : All (λ (t : StationToken). GoesOn trace (OfStation t.station.number) t.station.knows.trace) stations

-- the log agrees with the decisions of the words
pub record LogAgrees (gate : GateId) (v : LedgerView) (passes : List PassToken) (stations : List StationToken) (words : WordsView) : Type 0 where
  -- the log is what the Desk's steps of the whole trace say, in their order
  pub made : IsMade gate v.history words.level passes stations
  -- each decision is the one that these steps wrote
  pub decides : (r : ℕ) → r < length gate.shape.widths → decision_in words r ≡ (world_of gate.shape made.trace).decision r
  -- each dispatched request is executed, each struck one is cancelled, and those with a Full event are those decided queue-full
  pub agrees : Agrees v.history (decision_in words)
  -- each executed request was dispatched, or its Pass took its seats on arrival
  pub arrivals : ExecutesArrivals v.history (decision_in words) (took_in passes)
  -- each Pass has that its request entered exactly if the log has its Enter
  pub entered : All (EnteredBy v.history) passes
