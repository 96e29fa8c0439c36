-- What is known of a token by how far it is. Where nothing is known of a part, it is what it is.
use Rattle.std.specs.Prelude.{◌≡◌, ℕ, Bool, true, false, List, [], length, Option, Some, None}
use Rattle.apf_words.specs.declared.decision.Decision.{Decision}
use Rattle.apf_words.specs.declared.decision.Decision.TheVariants.{Execute, Cancelled}
use Rattle.apf_gate.specs.declared.record.State.{State}
use Rattle.apf_gate.specs.declared.record.State.TheVariants.{Fresh, Took, InLine, Over}
use Rattle.apf_gate.specs.declared.record.Service.{Service}
use Rattle.apf_gate.specs.declared.record.Service.TheVariants.{Waiting}
use Rattle.apf_gate.specs.declared.record.PassRecord.{PassRecord}
use Rattle.apf_gate.specs.declared.record.DeskRecord.{DeskRecord}
use Rattle.apf_gate.specs.declared.record.Shape.{Shape}
use Rattle.apf_gate.specs.Slots.{IsTicket}
use Rattle.apf_gate.specs.Records.{told_of, told_own, service}
use Rattle.apf_gate_tests.specs.declared.stage.Stage.{Stage}
use Rattle.apf_gate_tests.specs.declared.stage.Stage.TheVariants as stages
use Rattle.apf_gate_tests.specs.declared.stage.Serving.{Serving}
use Rattle.apf_gate_tests.specs.declared.stage.Serving.TheVariants as servings

-- the request is one of a batch
pub record IsNamed (s : Shape) (r : ℕ) : Type 0 where
  pub ticket : IsTicket s r
  pub batch : length s.widths ≡ s.slots

-- the state of a Pass
abbrev pub state_at : Stage → PassRecord → State
state_at stages.Fresh pass = Fresh
state_at stages.Closed pass = Fresh
state_at stages.NoRoom pass = Fresh
state_at stages.Took pass = Took
state_at stages.InLine pass = InLine
state_at stages.Entered pass = InLine
state_at (stages.Told decision) pass = Took
state_at stages.Granted pass = InLine
state_at (stages.Back decision) pass = Over
state_at stages.Over pass = pass.state

-- what it was told of its request
abbrev pub told_at : Stage → PassRecord → Option Decision
told_at stages.Fresh pass = told_own pass
told_at stages.Closed pass = told_own pass
told_at stages.NoRoom pass = told_own pass
told_at stages.Took pass = told_own pass
told_at stages.InLine pass = told_own pass
told_at stages.Entered pass = told_own pass
told_at (stages.Told decision) pass = Some decision
told_at stages.Granted pass = Some Execute
told_at (stages.Back decision) pass = Some decision
told_at stages.Over pass = told_own pass

-- what it wrote
abbrev pub wrote_at : Stage → PassRecord → Option Decision
wrote_at stages.Fresh pass = pass.wrote
wrote_at stages.Closed pass = pass.wrote
wrote_at stages.NoRoom pass = pass.wrote
wrote_at stages.Took pass = None
wrote_at stages.InLine pass = pass.wrote
wrote_at stages.Entered pass = pass.wrote
wrote_at (stages.Told decision) pass = pass.wrote
wrote_at stages.Granted pass = pass.wrote
wrote_at (stages.Back decision) pass = pass.wrote
wrote_at stages.Over pass = pass.wrote

-- these, and what it saw of the level and of the Desk
abbrev pub IsAt : Stage → PassRecord → Type 0
IsAt stage pass = (pass.state ≡ state_at stage pass) × (told_own pass ≡ told_at stage pass) × (pass.wrote ≡ wrote_at stage pass)
    × (stage ≡ stages.Closed → pass.knows.saw_closed ≡ true) × (stage ≡ stages.NoRoom → pass.no_room ≡ true)
    × (stage ≡ stages.InLine → pass.handed ≡ false) × (stage ≡ stages.InLine → pass.entered ≡ false)

-- what the Desk did with requests
abbrev pub services_at : Serving → DeskRecord → List (ℕ × Service)
services_at servings.Idle desk = []
services_at (servings.Waits r) desk = desk.services
services_at (servings.Seen r) desk = desk.services
services_at (servings.Holds r) desk = desk.services
services_at (servings.Lost r) desk = desk.services
services_at servings.Over desk = desk.services

-- the request that it holds
abbrev pub held_at : Serving → DeskRecord → Option ℕ
held_at servings.Idle desk = None
held_at (servings.Waits r) desk = None
held_at (servings.Seen r) desk = desk.held
held_at (servings.Holds r) desk = Some r
held_at (servings.Lost r) desk = Some r
held_at servings.Over desk = desk.held

-- what it did with the request that waits
abbrev pub service_at : Serving → DeskRecord → Service
service_at servings.Idle desk = Waiting
service_at (servings.Waits r) desk = service desk r
service_at (servings.Seen r) desk = service desk r
service_at (servings.Holds r) desk = Waiting
service_at (servings.Lost r) desk = Waiting
service_at servings.Over desk = Waiting

-- what it was told of the request that is cancelled
abbrev pub seen_at : Serving → DeskRecord → Option Decision
seen_at servings.Idle desk = Some Cancelled
seen_at (servings.Waits r) desk = Some Cancelled
seen_at (servings.Seen r) desk = told_of desk.knows.told r
seen_at (servings.Holds r) desk = Some Cancelled
seen_at (servings.Lost r) desk = told_of desk.knows.told r
seen_at servings.Over desk = Some Cancelled

abbrev pub Serves : Serving → DeskRecord → Type 0
Serves serving desk = (desk.services ≡ services_at serving desk) × (desk.held ≡ held_at serving desk)
    × (service_at serving desk ≡ Waiting) × (seen_at serving desk ≡ Some Cancelled)
