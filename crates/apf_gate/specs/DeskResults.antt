-- What a caller may rely on after each call of the Desk. All of it follows from the call's steps.
use Rattle.std.specs.Prelude.{◌≡◌, ◌≢◌, ◌⊎◌, ◌∷◌, ℕ, true, Option, Some, None}
use Rattle.apf_words.specs.Level.{Level}
use Rattle.apf_words.specs.declared.decision.Decision.{Decision}
use Rattle.apf_words.specs.declared.decision.Decision.TheVariants.{Execute, Cancelled}
use Rattle.apf_gate.specs.declared.record.Service.TheVariants.{Waiting, Held, Settled, Left}
use Rattle.apf_gate.specs.declared.record.DeskRecord.{DeskRecord}
use Rattle.apf_gate.specs.declared.answers.TryGrant.{TryGrant}
use Rattle.apf_gate.specs.declared.answers.TryGrant.TheVariants as granted
use Rattle.apf_gate.specs.Records.{told_of, service, KnowsMore}
use Rattle.apf_gate.specs.Steps.{IsInRange}
use Rattle.apf_gate.specs.DeskSteps.{CountsWaiting}
use Rattle.apf_gate.specs.Tokens.{DeskToken, desk_gate}

-- it is still the Desk of the same gate, and knows more than it did
pub record SameDesk (token token' : DeskToken) : Type 0 where
  pub gate : desk_gate token' ≡ desk_gate token
  pub more : KnowsMore token.desk.knows token'.desk.knows

-- after reading the level word the Desk served nobody. The numbers of the word are in range, and it counts each request that the Desk has waiting. A level that was seen closed is closed
pub record AfterView (desk : DeskRecord) (level : Level) (desk' : DeskRecord) : Type 0 where
  pub served : (desk'.services ≡ desk.services) × (desk'.held ≡ desk.held)
  pub in_range : IsInRange level
  pub waits : CountsWaiting desk level
  pub closed : level.closed ≡ true → desk'.knows.saw_closed ≡ true
  pub stays_closed : desk.knows.saw_closed ≡ true → level.closed ≡ true

-- after reading a request's decision the Desk served nobody. A request that waits is undecided or cancelled, and what the Desk was told is found again
pub record AfterSeen (desk : DeskRecord) (r : ℕ) (answer : Option Decision) (desk' : DeskRecord) : Type 0 where
  pub served : (desk'.services ≡ desk.services) × (desk'.held ≡ desk.held)
  pub waits : service desk r ≡ Waiting → (answer ≡ None) ⊎ (answer ≡ Some Cancelled)
  pub told : answer ≢ None → told_of desk'.knows.told r ≡ answer
  pub stays : told_of desk.knows.told r ≢ None → answer ≡ told_of desk.knows.told r

-- after a try to grant the Desk holds the request's seats if the answer is that they were granted. If not, it served nobody and holds nothing
pub record AfterTryGrant (desk : DeskRecord) (r : ℕ) (answer : TryGrant) (desk' : DeskRecord) : Type 0 where
  pub held : answer ≡ granted.Granted → (desk'.held ≡ Some r) × (desk'.services ≡ (r, Held) ∷ desk.services)
  pub not_granted : answer ≢ granted.Granted → (desk'.services ≡ desk.services) × (desk'.held ≡ None)

-- after settling, the Desk was told execute or cancelled of the request that it held. With execute that is settled and the Desk holds nothing, with cancelled it holds the seats still
pub record AfterSettle (desk : DeskRecord) (answer : Decision) (desk' : DeskRecord) : Type 0 where
  pub answers : (answer ≡ Execute) ⊎ (answer ≡ Cancelled)
  pub told : (r : ℕ) → desk.held ≡ Some r → told_of desk'.knows.told r ≡ Some answer
  pub settled : answer ≡ Execute → desk'.held ≡ None
  pub services : (r : ℕ) → desk.held ≡ Some r → answer ≡ Execute → desk'.services ≡ (r, Settled) ∷ desk.services
  pub lost : answer ≡ Cancelled → (desk'.held ≡ desk.held) × (desk'.services ≡ desk.services)

-- after giving the seats back the Desk holds nothing, and the request that it held left
pub record AfterGiveBack (desk desk' : DeskRecord) : Type 0 where
  pub holds_none : desk'.held ≡ None
  pub services : (r : ℕ) → desk.held ≡ Some r → desk'.services ≡ (r, Left) ∷ desk.services

-- after a leave the request left, and the Desk holds what it held
pub record AfterLeave (desk : DeskRecord) (r : ℕ) (desk' : DeskRecord) : Type 0 where
  pub services : desk'.services ≡ (r, Left) ∷ desk.services
  pub held : desk'.held ≡ desk.held
