-- The steps of a Pass, each by its token, its operation and its word.
use Rattle.std.specs.Prelude.{◌≡◌, ◌≢◌, ◌⊎◌, ℕ, ◌+◌, ◌<◌, ◌==◌, ◌||◌, ◌&&◌, not, nat_le, Bool, true, false, if◌then◌else◌, List, ◌∷◌, ◌++◌, Option, Some, None}
use Rattle.apf_words.specs.Level.{Level}
use Rattle.apf_words.specs.declared.decision.Decision.{Decision}
use Rattle.apf_words.specs.declared.decision.Decision.TheVariants.{Execute, QueueFull, Closed, Cancelled, ConcurrencyLimit}
use Rattle.apf_model.specs.declared.moves.Move.{Move}
use Rattle.apf_model.specs.declared.moves.Move.TheVariants.{Take, Decide, Release, See}
use Rattle.apf_model.specs.declared.moves.Stage.TheVariants.{Stands}
use Rattle.apf_gate.specs.declared.record.Actor.TheVariants.{OfPass}
use Rattle.apf_gate.specs.declared.record.Knowledge.{Knowledge}
use Rattle.apf_gate.specs.declared.record.State.{State}
use Rattle.apf_gate.specs.declared.record.State.TheVariants.{Fresh, Took, InLine, Over}
use Rattle.apf_gate.specs.declared.record.PassRecord.{PassRecord}
use Rattle.apf_gate.specs.declared.record.Asked.{Asked}
use Rattle.apf_gate.specs.declared.record.Entry.{Entry}
use Rattle.apf_gate.specs.Slots.{slot_of, mark_of}
use Rattle.apf_gate.specs.Records.{told_own, told_of, told_more, own_width, saw_decision, new_pass, KnowsMore}
use Rattle.apf_model.specs.Schedule.{IsSchedule}
use Rattle.apf_gate.specs.Traces.{opening_of, renewal, moves, NoneOf, world_of}
use Rattle.apf_gate.specs.Requests.{MayHold}
use Rattle.apf_gate.specs.Steps.{SawLevel, SawDecision}

-- the mark of a Pass's request
abbrev pub own_mark : PassRecord → ℕ
own_mark pass = mark_of pass.number

-- the width has room in the level, by the rule of fitting
abbrev pub has_room : Level → ℕ → Bool
has_room level width = nat_le (level.seats + width) level.limit || (not (nat_le width level.limit) && (level.seats == 0))

-- an open level in which nobody waits and the width does not fit
abbrev pub is_no_room : Level → ℕ → Bool
is_no_room level width = not level.closed && ((level.waiters == 0) && not (has_room level width))

-- the record of a Pass that loaded the level word
abbrev pub looked : PassRecord → Level → Knowledge → PassRecord
looked pass level known' = record pass { saw_no_room = pass.saw_no_room || is_no_room level (own_width pass); no_room = is_no_room level (own_width pass); knows = known' }

-- the move that a load of the level word makes, if it finds no room
abbrev pub seen_no_room : PassRecord → Level → Option Move
seen_no_room pass level = if is_no_room level (own_width pass) then Some (See pass.number) else None

-- a fresh Pass loads the level word
abbrev pub PassLoadsLevel : PassRecord → Level → PassRecord → Type 0
PassLoadsLevel pass level pass' = (known' : Knowledge) × SawLevel (OfPass pass.number) pass.knows level (seen_no_room pass level) known' × (pass' ≡ looked pass level known')

-- the record of a Pass whose step only read
abbrev pub read_by : PassRecord → Knowledge → PassRecord
read_by pass known' = record pass { no_room = false; knows = known' }

-- its exchange of the level word found another word: a load
abbrev pub PassMissesLevel : PassRecord → Level → PassRecord → Type 0
PassMissesLevel pass level pass' = (known' : Knowledge) × SawLevel (OfPass pass.number) pass.knows level None known' × (pass' ≡ read_by pass known')

-- its exchange of the level word took its seats
abbrev pub PassExchangesLevel : PassRecord → Level → PassRecord → Type 0
PassExchangesLevel pass level pass' = (known' : Knowledge) × SawLevel (OfPass pass.number) pass.knows level (Some (Take pass.number)) known' × (pass.wrote ≡ None) × (pass' ≡ record pass { state = Took; took = true; no_room = false; knows = known' })

-- it subtracts its seats from the level word: they are given back
abbrev pub PassSubtractsLevel : PassRecord → Level → PassRecord → Type 0
PassSubtractsLevel pass level pass' = (known' : Knowledge) × SawLevel (OfPass pass.number) pass.knows level (Some (Release pass.number)) known' × (pass' ≡ record pass { state = Over; no_room = false; knows = known' })

-- what a Pass may find in its decision word, by its state and what it wrote
abbrev pub MayFind : State → Option Decision → Option Decision → Type 0
MayFind Fresh wrote found = MayHold None found
MayFind Took wrote found = MayHold wrote found
MayFind InLine wrote found = found ≢ Some ConcurrencyLimit
MayFind Over wrote found = wrote ≢ None → found ≡ wrote

-- where a Pass that is not over is told execute, its seats stand
abbrev pub GrantStands : PassRecord → Option Decision → Knowledge → Type 0
GrantStands pass found known' = pass.state ≢ Over → found ≡ Some Execute → (world_of pass.knows.shape known'.trace).stage pass.number ≡ Stands

-- the request of a fresh Pass was never handed to the Desk, and never entered
abbrev pub FreshIsNotHanded : PassRecord → Type 0
FreshIsNotHanded pass = pass.state ≡ Fresh → (pass.handed ≡ false) × (pass.entered ≡ false)

-- it loads its decision word
abbrev pub PassLoadsDecision : PassRecord → Option Decision → PassRecord → Type 0
PassLoadsDecision pass found pass' = (known' : Knowledge) × SawDecision (OfPass pass.number) pass.knows pass.number found found None known' × MayFind pass.state pass.wrote found × GrantStands pass found known' × FreshIsNotHanded pass × (pass' ≡ read_by pass known')

-- a Pass that asks is in line if it was fresh
abbrev pub asking_state : State → State
asking_state Fresh = InLine
asking_state Took = Took
asking_state InLine = InLine
asking_state Over = Over

abbrev pub asking : State → Bool → Bool
asking Fresh asked = true
asking Took asked = asked
asking InLine asked = asked
asking Over asked = asked

-- it loads its decision word, and asks with that
abbrev pub PassAsksDecision : PassRecord → Option Decision → PassRecord → Type 0
PassAsksDecision pass found pass' = (known' : Knowledge) × SawDecision (OfPass pass.number) pass.knows pass.number found found None known' × MayFind pass.state pass.wrote found × GrantStands pass found known' × FreshIsNotHanded pass
    × (pass' ≡ record pass { state = asking_state pass.state; asked = asking pass.state pass.asked; no_room = false; knows = known' })

-- a Pass that wrote execute, or tried to, holds its seats still; after a refusal it is over
abbrev pub deciding_state : Decision → State → State
deciding_state Execute state = state
deciding_state QueueFull state = Over
deciding_state Closed state = Over
deciding_state Cancelled state = Over
deciding_state ConcurrencyLimit state = Over

-- its exchange wrote its decision
abbrev pub PassExchangesDecision : Decision → PassRecord → PassRecord → Type 0
PassExchangesDecision decision pass pass' = (known' : Knowledge) × SawDecision (OfPass pass.number) pass.knows pass.number None (Some decision) (Some (Decide pass.number decision)) known'
    × (pass' ≡ record pass { state = deciding_state decision pass.state; no_room = false; wrote = Some decision; knows = known' })

-- its exchange found another decision: a load
abbrev pub PassMissesDecision : Decision → PassRecord → Option Decision → PassRecord → Type 0
PassMissesDecision decision pass found pass' = (known' : Knowledge) × SawDecision (OfPass pass.number) pass.knows pass.number found found None known' × MayFind pass.state pass.wrote found
    × (pass' ≡ record pass { state = deciding_state decision pass.state; no_room = false; knows = known' })

-- the request that a Pass may begin after its own: of the same slot, and later
pub record IsNextRequest (pass : PassRecord) (next : ℕ) : Type 0 where
  pub same_slot : slot_of next ≡ slot_of pass.number
  pub later : pass.number < next

-- a Pass in line neither waits nor stands: its request never entered, or it heard that it left
abbrev pub IsOutOfLine : PassRecord → Type 0
IsOutOfLine pass = (pass.state ≡ InLine) × ((pass.entered ≡ false) ⊎ (pass.left ≡ true))

-- a Pass may leave its request for another: it never began with it, or it was told its decision and neither waits nor stands
abbrev pub MayRenew : PassRecord → Type 0
MayRenew pass = (pass.state ≡ Fresh) ⊎ ((told_own pass ≢ None) × ((pass.state ≡ Over) ⊎ IsOutOfLine pass))

-- what a Pass knows after it left its request, whose word held this, and the first step of the next one, which is this
pub record SawRenewal (known : Knowledge) (r next : ℕ) (ask : Asked) (found : Option Decision) (known' : Knowledge) : Type 0 where
  pub between : List Entry
  pub of_others : NoneOf (OfPass r) between
  pub found_is : (world_of known.shape (between ++ known.trace)).decision r ≡ found
  -- the next one is new: it is undecided, and none of all steps is its own
  pub is_new : NoneOf (OfPass next) (between ++ known.trace)
  pub is_undecided : (world_of known.shape (between ++ known.trace)).decision next ≡ None
  pub is_after : known' ≡ saw_decision known r found (renewal next ask ∷ (between ++ known.trace))
  pub is_schedule : IsSchedule (opening_of known.shape) (moves known'.trace)
  -- what was told of the old one is found again, for the last time
  pub stays : told_of known.told r ≢ None → found ≡ told_of known.told r
  pub more : KnowsMore known known'

-- it leaves its request, notes how that was decided, and begins the next one of its slot
abbrev pub PassRenews : ℕ → Asked → PassRecord → Option Decision → PassRecord → Type 0
PassRenews next ask pass found pass' = (known' : Knowledge) × SawRenewal pass.knows pass.number next ask found known'
    × (pass' ≡ record (new_pass pass.knows.shape next) { past = told_more pass.past pass.number found; knows = known' })
