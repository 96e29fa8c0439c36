-- What a token knows, and how a step changes it.
use Rattle.std.specs.Prelude.{◌≡◌, ◌≢◌, ℕ, ◌||◌, not, true, false, List, [], ◌∷◌, ◌++◌, Option, Some, None}
use Rattle.apf_words.specs.Level.{Level}
use Rattle.apf_words.specs.declared.decision.Decision.{Decision}
use Rattle.apf_model.specs.World.{World, put, width, seats, waiters}
use Rattle.apf_gate.specs.declared.record.Shape.{Shape}
use Rattle.apf_gate.specs.declared.record.Entry.{Entry}
use Rattle.apf_gate.specs.declared.record.Knowledge.{Knowledge}
use Rattle.apf_gate.specs.declared.record.State.TheVariants.{Fresh}
use Rattle.apf_gate.specs.declared.record.PassRecord.{PassRecord}
use Rattle.apf_gate.specs.declared.record.Service.{Service}
use Rattle.apf_gate.specs.declared.record.Service.TheVariants.{NotHanded}
use Rattle.apf_gate.specs.declared.record.DeskRecord.{DeskRecord}
use Rattle.apf_gate.specs.declared.record.StationRecord.{StationRecord}

-- what the level word says of a world
abbrev pub level_of : List ℕ → World → Level
level_of widths w = record { closed = not w.is_open; waiters = waiters widths w; seats = seats widths w; limit = w.limit }

-- what was told of each request
abbrev pub told_of : List (ℕ × Decision) → ℕ → Option Decision
told_of [] r = None
told_of (latest ∷ told) r = put (told_of told) latest.0 (Some latest.1) r

-- what the Desk did with each request
abbrev pub service_of : List (ℕ × Service) → ℕ → Service
service_of [] r = NotHanded
service_of (latest ∷ services) r = put (service_of services) latest.0 latest.1 r

-- what the Desk did with a request
abbrev pub service : DeskRecord → ℕ → Service
service desk r = service_of desk.services r

-- the decision that a Pass was told of its own request
abbrev pub told_own : PassRecord → Option Decision
told_own pass = told_of pass.knows.told pass.number

-- a Pass's own width
abbrev pub own_width : PassRecord → ℕ
own_width pass = width pass.knows.shape.widths pass.number

-- one more decision is told, if there is one
abbrev pub told_more : List (ℕ × Decision) → ℕ → Option Decision → List (ℕ × Decision)
told_more told r None = told
told_more told r (Some decision) = (r, decision) ∷ told

-- a step found this in the level word, and made the trace this
abbrev pub saw_level : Knowledge → Level → List Entry → Knowledge
saw_level known level trace = record known { saw_closed = known.saw_closed || level.closed; trace = trace }

-- a step knows afterwards that the word of the request r is at this decision, and made the trace this
abbrev pub saw_decision : Knowledge → ℕ → Option Decision → List Entry → Knowledge
saw_decision known r decision trace = record known { told = told_more known.told r decision; trace = trace }

-- a token knows more than it did: it keeps what it was told and that it saw the level closed, and its trace goes on
pub record KnowsMore (known known' : Knowledge) : Type 0 where
  pub shape : known'.shape ≡ known.shape
  pub closed : known.saw_closed ≡ true → known'.saw_closed ≡ true
  pub told : (r : ℕ) → told_of known.told r ≢ None → told_of known'.told r ≡ told_of known.told r
  pub trace : (newer : List Entry) × (known'.trace ≡ newer ++ known.trace)

-- the records of tokens that made no step
abbrev pub new_knowledge : Shape → Knowledge
new_knowledge shape = record { shape = shape; saw_closed = false; told = []; trace = [] }

abbrev pub new_pass : Shape → ℕ → PassRecord
new_pass shape r = record { number = r; state = Fresh; asked = false; handed = false; entered = false; left = false; took = false; saw_no_room = false; no_room = false; wrote = None; past = []; knows = new_knowledge shape }

abbrev pub new_desk : Shape → DeskRecord
new_desk shape = record { services = []; held = None; knows = new_knowledge shape }

abbrev pub new_station : Shape → ℕ → StationRecord
new_station shape k = record { number = k; knows = new_knowledge shape }
