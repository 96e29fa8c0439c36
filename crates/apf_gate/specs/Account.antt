-- One trace and one record for each token, which explain the words: the lines of the rule.
use Rattle.std.specs.Prelude.{◌≡◌, ◌≢◌, ◌⊎◌, ℕ, ◌<◌, ◌≤◌, true, false, List, [], ◌∷◌, length, Some, None}
use Rattle.apf_words.specs.declared.decision.Decision.{Decision}
use Rattle.apf_model.specs.declared.moves.Stage.TheVariants.{Away, Gone}
use Rattle.apf_model.specs.World.{World}
use Rattle.apf_model.specs.Schedule.{IsSchedule}
use Rattle.apf_gate.specs.declared.record.Shape.{Shape}
use Rattle.apf_gate.specs.declared.record.Actor.{Actor}
use Rattle.apf_gate.specs.declared.record.Actor.TheVariants.{OfPass, OfDesk, OfStation}
use Rattle.apf_gate.specs.declared.record.Entry.{Entry}
use Rattle.apf_gate.specs.declared.record.Knowledge.{Knowledge}
use Rattle.apf_gate.specs.declared.record.State.TheVariants.{Fresh}
use Rattle.apf_gate.specs.declared.record.PassRecord.{PassRecord}
use Rattle.apf_gate.specs.declared.record.Service.TheVariants.{Held}
use Rattle.apf_gate.specs.declared.record.DeskRecord.{DeskRecord}
use Rattle.apf_gate.specs.declared.record.StationRecord.{StationRecord}
use Rattle.apf_gate.specs.Slots.{slot_of}
use Rattle.apf_gate.specs.Records.{told_of, service, new_pass}
use Rattle.apf_gate.specs.Traces.{opening_of, moves, world_of, AreMade, NoneOf, GoesOn}
use Rattle.apf_gate.specs.Requests.{IsRequest}

pub record Account : Type 0 where
  -- every counted step of every token, the newest first
  pub trace : List Entry
  pub pass : ℕ → PassRecord
  pub desk : DeskRecord
  pub station : ℕ → StationRecord
  -- the seat at which each token's record is kept, by the token's number
  pub seat : ℕ → ℕ
  -- the request that holds each slot
  pub current : ℕ → ℕ

-- what a token knows is so, and no step after its last one is its own
pub record IsKnown (shape : Shape) (who : Actor) (known : Knowledge) (trace : List Entry) : Type 0 where
  pub shape_is : known.shape ≡ shape
  pub closed : known.saw_closed ≡ true → (world_of shape trace).is_open ≡ false
  pub told : (r : ℕ) → told_of known.told r ≢ None → (world_of shape trace).decision r ≡ told_of known.told r
  pub newer : GoesOn trace who known.trace

-- the lines of the rule
pub record IsSound (shape : Shape) (account : Account) : Type 0 where
  -- the moves of the trace are a schedule, and each step is of a kind that its maker makes
  pub schedule : IsSchedule (opening_of shape) (moves account.trace)
  pub made : AreMade shape account.trace
  pub request : (r : ℕ) → r < length shape.widths → IsRequest shape r (account.pass r) (service account.desk r) (world_of shape account.trace)
  pub pass_knows : (r : ℕ) → r < length shape.widths → IsKnown shape (OfPass r) (account.pass r).knows account.trace
  pub desk_knows : IsKnown shape OfDesk account.desk.knows account.trace
  pub station_knows : (k : ℕ) → IsKnown shape (OfStation k) (account.station k).knows account.trace
  -- the Desk holds just the request whose grant is to be settled
  pub held : (r : ℕ) → account.desk.held ≡ Some r → service account.desk r ≡ Held
  pub is_held : (r : ℕ) → service account.desk r ≡ Held → account.desk.held ≡ Some r

-- the newest step is this token's
abbrev pub IsNewestBy : Actor → List Entry → Type 0
IsNewestBy who [] = ⊥
IsNewestBy who (newest ∷ trace) = newest.by ≡ who

-- the request holds its slot
abbrev pub HoldsSlot : Account → ℕ → Type 0
HoldsSlot account r = account.current (slot_of r) ≡ r

-- the request neither waits nor stands
abbrev pub IsIdle : World → ℕ → Type 0
IsIdle w r = (w.stage r ≡ Away) ⊎ (w.stage r ≡ Gone)

-- these requests held the slot i one after another, the latest first, and all before the request c
abbrev pub HeldBefore : ℕ → ℕ → List (ℕ × Decision) → Type 0
HeldBefore i c [] = Unit {0}
HeldBefore i c (latest ∷ past) = (latest.0 < c) × (slot_of latest.0 ≡ i) × HeldBefore i latest.0 past

-- the Pass of the request c, which holds the slot i, has noted how those were decided that held it before
pub record IsNoted (numbers : ℕ) (w : World) (i c : ℕ) (past : List (ℕ × Decision)) : Type 0 where
  pub in_order : HeldBefore i c past
  pub says : (r : ℕ) → r < numbers → slot_of r ≡ i → r < c → told_of past r ≡ w.decision r

-- once a request of a slot made a step, none that held the slot before makes one
abbrev pub AreInOrder : Shape → List Entry → Type 0
AreInOrder shape [] = Unit {0}
AreInOrder shape (newest ∷ trace) = ((q c : ℕ) → newest.by ≡ OfPass q → slot_of c ≡ slot_of q → q < c → c < length shape.widths → NoneOf (OfPass c) trace) × AreInOrder shape trace

-- the lines on slots: which requests hold them, held them, and will
pub record AreSlots (shape : Shape) (account : Account) : Type 0 where
  pub current : (i : ℕ) → i < shape.slots → (account.current i < length shape.widths) × (slot_of (account.current i) ≡ i)
  pub inside : (r : ℕ) → r < length shape.widths → HoldsSlot account r → slot_of r < shape.slots
  -- who holds no slot neither waits nor stands
  pub idle : (r : ℕ) → r < length shape.widths → ¬ HoldsSlot account r → IsIdle (world_of shape account.trace) r
  -- of who did not hold it yet nothing was done
  pub later : (r : ℕ) → r < length shape.widths → account.current (slot_of r) < r → (account.pass r ≡ new_pass shape r) × ((world_of shape account.trace).decision r ≡ None)
  -- who held it before is decided, or its Pass never began
  pub past : (r : ℕ) → r < length shape.widths → r < account.current (slot_of r) → ((world_of shape account.trace).decision r ≢ None) ⊎ ((account.pass r).state ≡ Fresh)
  -- and its decision is noted
  pub noted : (i : ℕ) → i < shape.slots → IsNoted (length shape.widths) (world_of shape account.trace) i (account.current i) (account.pass (account.current i)).past
  -- who has no slot is undecided
  pub nobody : (r : ℕ) → r < length shape.widths → shape.slots ≤ slot_of r → (world_of shape account.trace).decision r ≡ None
  -- the newest step, if a Pass made it, is of one that holds its slot
  pub newest : (r : ℕ) → IsNewestBy (OfPass r) account.trace → HoldsSlot account r
  -- who does not hold it saw no more steps than who does
  pub older : (r : ℕ) → r < length shape.widths → slot_of r < shape.slots → ¬ HoldsSlot account r → length (account.pass r).knows.trace ≤ length (account.pass (account.current (slot_of r))).knows.trace
  -- the requests of a slot made their steps one after another
  pub order : AreInOrder shape account.trace
  -- who has no slot saw no step
  pub absent : (r : ℕ) → r < length shape.widths → shape.slots ≤ slot_of r → (account.pass r).knows.trace ≡ []
