-- The lines of the rule on one request: its Pass, what the Desk did with it, and its word.
use Rattle.std.specs.Prelude.{◌≡◌, ◌⊎◌, ℕ, ◌<◌, Bool, true, false, length, Option, Some, None}
use Rattle.apf_words.specs.declared.decision.Decision.{Decision}
use Rattle.apf_words.specs.declared.decision.Decision.TheVariants.{Execute, QueueFull, Closed, Cancelled, ConcurrencyLimit}
use Rattle.apf_model.specs.declared.moves.Stage.{Stage}
use Rattle.apf_model.specs.declared.moves.Stage.TheVariants.{Away, Waits, Stands, Gone}
use Rattle.apf_model.specs.declared.response.Response.TheVariants.{Queue, Reject}
use Rattle.apf_model.specs.World.{World}
use Rattle.apf_gate.specs.declared.record.Shape.{Shape}
use Rattle.apf_gate.specs.declared.record.State.{State}
use Rattle.apf_gate.specs.declared.record.State.TheVariants.{Fresh, Took, InLine, Over}
use Rattle.apf_gate.specs.declared.record.PassRecord.{PassRecord}
use Rattle.apf_gate.specs.declared.record.Service.{Service}
use Rattle.apf_gate.specs.declared.record.Service.TheVariants.{NotHanded, Handed, RefusedFull, RefusedClosed, Waiting, Held, Settled, Left}
use Rattle.apf_gate.specs.declared.record.DeskRecord.{DeskRecord}
use Rattle.apf_gate.specs.Slots.{slot_of}
use Rattle.apf_gate.specs.Records.{told_own, service}

-- where a request stands that the Desk did not enter
abbrev pub stage_of_pass : State → Bool → Stage
stage_of_pass Fresh took = Away
stage_of_pass Took took = Stands
stage_of_pass InLine took = Away
stage_of_pass Over true = Gone
stage_of_pass Over false = Away

-- a request that the Desk settled stands until its Pass is over
abbrev pub stage_of_settled : State → Stage
stage_of_settled Fresh = Stands
stage_of_settled Took = Stands
stage_of_settled InLine = Stands
stage_of_settled Over = Gone

-- where a request stands, by its Pass and the Desk
abbrev pub stage_of : PassRecord → Service → Stage
stage_of pass NotHanded = stage_of_pass pass.state pass.took
stage_of pass Handed = stage_of_pass pass.state pass.took
stage_of pass RefusedFull = stage_of_pass pass.state pass.took
stage_of pass RefusedClosed = stage_of_pass pass.state pass.took
stage_of pass Waiting = Waits
stage_of pass Held = Stands
stage_of pass Settled = stage_of_settled pass.state
stage_of pass Left = Gone

abbrev pub was_handed : Service → Bool
was_handed NotHanded = false
was_handed Handed = true
was_handed RefusedFull = true
was_handed RefusedClosed = true
was_handed Waiting = true
was_handed Held = true
was_handed Settled = true
was_handed Left = true

abbrev pub has_entered : Service → Bool
has_entered NotHanded = false
has_entered Handed = false
has_entered RefusedFull = false
has_entered RefusedClosed = false
has_entered Waiting = true
has_entered Held = true
has_entered Settled = true
has_entered Left = true

-- the decision that the Desk wrote
abbrev pub desk_wrote : Service → Option Decision
desk_wrote NotHanded = None
desk_wrote Handed = None
desk_wrote RefusedFull = Some QueueFull
desk_wrote RefusedClosed = Some Closed
desk_wrote Waiting = None
desk_wrote Held = None
desk_wrote Settled = Some Execute
desk_wrote Left = None

-- the decision that the request's Pass or the Desk wrote
abbrev pub written : PassRecord → Service → Option Decision
written pass NotHanded = pass.wrote
written pass service = desk_wrote service

-- what the word of a request may hold: what its Pass or the Desk wrote, and where neither wrote, nothing or cancelled
abbrev pub MayHold : Option Decision → Option Decision → Type 0
MayHold None found = (found ≡ None) ⊎ (found ≡ Some Cancelled)
MayHold (Some decision) found = found ≡ Some decision

-- what the state of a Pass says of the rest of its record
abbrev pub IsState : State → PassRecord → Type 0
IsState Fresh pass = (pass.took ≡ false) × (pass.asked ≡ false) × (pass.wrote ≡ None)
IsState Took pass = (pass.took ≡ true) × (pass.asked ≡ false)
IsState InLine pass = (pass.took ≡ false) × (pass.asked ≡ true) × (pass.wrote ≡ None)
IsState Over pass = pass.took ≡ true → pass.asked ≡ false

-- what a Pass may have written: execute if it took its seats, closed or concurrency-limit if it took none and is over, the last on a Reject gate and after it saw no room
abbrev pub MayHaveWritten : Shape → PassRecord → Option Decision → Type 0
MayHaveWritten shape pass None = Unit {0}
MayHaveWritten shape pass (Some Execute) = pass.took ≡ true
MayHaveWritten shape pass (Some QueueFull) = ⊥
MayHaveWritten shape pass (Some Closed) = (pass.took ≡ false) × (pass.state ≡ Over)
MayHaveWritten shape pass (Some Cancelled) = ⊥
MayHaveWritten shape pass (Some ConcurrencyLimit) = (pass.took ≡ false) × (pass.state ≡ Over) × (shape.response ≡ Reject) × (pass.saw_no_room ≡ true)

-- a Pass whose request was handed to the Desk asked, took no seats, wrote no decision, and is over only if it was told execute
pub record IsHanded (pass : PassRecord) : Type 0 where
  pub asked : pass.asked ≡ true
  pub took_none : pass.took ≡ false
  pub wrote_none : pass.wrote ≡ None
  pub over : pass.state ≡ Over → told_own pass ≡ Some Execute

-- the lines on a Pass's record alone
pub record IsPassRecord (shape : Shape) (pass : PassRecord) : Type 0 where
  pub state : IsState pass.state pass
  pub wrote : MayHaveWritten shape pass pass.wrote
  pub handed : pass.handed ≡ true → IsHanded pass
  pub queues : pass.entered ≡ true → shape.response ≡ Queue
  pub no_room : pass.no_room ≡ true → pass.saw_no_room ≡ true

-- a Pass has that it was handed over, and that it entered, exactly if the Desk did that. It has that it left only if the Desk let it leave
pub record AreTied (r : ℕ) (pass : PassRecord) (service : Service) : Type 0 where
  pub number : pass.number ≡ r
  pub handed : pass.handed ≡ was_handed service
  pub entered : pass.entered ≡ has_entered service
  pub left : pass.left ≡ true → service ≡ Left

-- the lines on a request: where it stands, whether it saw no room, and what its word holds
pub record IsRequest (shape : Shape) (r : ℕ) (pass : PassRecord) (service : Service) (w : World) : Type 0 where
  pub own : IsPassRecord shape pass
  pub tied : AreTied r pass service
  pub stage : w.stage r ≡ stage_of pass service
  pub saw : w.saw_no_room r ≡ pass.saw_no_room
  pub word : MayHold (written pass service) (w.decision r)
  pub closed : written pass service ≡ Some Closed → w.is_open ≡ false

-- the Desk has no other request of this one's slot waiting. Closed: no search looks into it
unfoldable pub WaitsAlone : Shape → DeskRecord → ℕ → Type 0
WaitsAlone shape desk r = (other : ℕ) → other < length shape.widths → slot_of other ≡ slot_of r → service desk other ≡ Waiting → other ≡ r
