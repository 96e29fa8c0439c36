-- What a caller may rely on after each call of the Desk with a Pass joined to it. All of it follows from the call's steps.
use Rattle.std.specs.Prelude.{◌≡◌, ◌≢◌, ◌⊎◌, true, false, Option, Some, None}
use Rattle.apf_words.specs.declared.decision.Decision.{Decision}
use Rattle.apf_words.specs.declared.decision.Decision.TheVariants.{QueueFull, Closed, Cancelled}
use Rattle.apf_gate.specs.declared.record.PassRecord.{PassRecord}
use Rattle.apf_gate.specs.declared.record.Service.TheVariants.{NotHanded, RefusedFull, RefusedClosed, Waiting, Left}
use Rattle.apf_gate.specs.declared.record.DeskRecord.{DeskRecord}
use Rattle.apf_gate.specs.declared.answers.TryEnter.{TryEnter}
use Rattle.apf_gate.specs.declared.answers.TryEnter.TheVariants as tried
use Rattle.apf_gate.specs.Records.{told_of, told_own, service, KnowsMore}
use Rattle.apf_gate.specs.Requests.{AreTied, WaitsAlone}
use Rattle.apf_gate.specs.Tokens.{PassToken, DeskToken, pass_gate, desk_gate}

-- both are of the same gate still. The Pass is of the same request and in the state that it was in; the Desk holds what it held, and knows more than it did. They have the same trace now, and agreed on whether the request was handed over and entered
pub record SameBoth (desk : DeskToken) (pass : PassToken) (desk' : DeskToken) (pass' : PassToken) : Type 0 where
  pub gate_of_desk : desk_gate desk' ≡ desk_gate desk
  pub gate_of_pass : pass_gate pass' ≡ pass_gate pass
  pub number : pass'.pass.number ≡ pass.pass.number
  pub state : pass'.pass.state ≡ pass.pass.state
  pub held : desk'.desk.held ≡ desk.desk.held
  pub more : KnowsMore desk.desk.knows desk'.desk.knows
  pub follows : pass'.pass.knows.trace ≡ desk'.desk.knows.trace
  pub tied : AreTied pass.pass.number pass.pass (service desk.desk pass.pass.number)
  pub not_handed : pass.pass.handed ≡ false → service desk.desk pass.pass.number ≡ NotHanded

-- after a try to enter the request waits if the answer is that it entered, and never entered if not. Where the Desk had seen the level closed, that is the answer
pub record AfterTryEnter (desk : DeskRecord) (pass : PassRecord) (answer : TryEnter) (desk' : DeskRecord) (pass' : PassRecord) : Type 0 where
  pub entered : answer ≡ tried.Entered → (pass'.entered ≡ true) × (service desk' pass.number ≡ Waiting)
  pub not_entered : answer ≢ tried.Entered → pass'.entered ≡ false
  pub told : told_own pass' ≡ told_own pass
  pub closed : answer ≡ tried.Closed → desk'.knows.saw_closed ≡ true
  pub stays_closed : desk.knows.saw_closed ≡ true → answer ≡ tried.Closed

-- after a refusal both were told the decision that stands: this one, or closed, or cancelled. The Desk has that it refused the request, and the request never entered
pub record AfterRefuse (pass : PassRecord) (decision answer : Decision) (desk' : DeskRecord) (pass' : PassRecord) : Type 0 where
  pub answers : (answer ≡ decision) ⊎ ((answer ≡ Closed) ⊎ (answer ≡ Cancelled))
  pub full : answer ≡ QueueFull → service desk' pass.number ≡ RefusedFull
  pub closed : answer ≡ Closed → service desk' pass.number ≡ RefusedClosed
  pub told : told_of desk'.knows.told pass.number ≡ Some answer
  pub told_pass : told_own pass' ≡ Some answer
  pub entered : pass'.entered ≡ false

-- after a hearing both were told the decision that was found, if one was: the one that the Pass was told, if it was. The Pass has that its request left, if the Desk let it leave. No other request of the slot waits. The Desk served nobody
pub record AfterHear (desk : DeskRecord) (pass : PassRecord) (answer : Option Decision) (desk' : DeskRecord) (pass' : PassRecord) : Type 0 where
  pub stays : told_own pass ≢ None → answer ≡ told_own pass
  pub told : answer ≢ None → told_of desk'.knows.told pass.number ≡ answer
  pub told_pass : answer ≢ None → told_own pass' ≡ answer
  pub entered : pass'.entered ≡ pass.entered
  pub left : service desk pass.number ≡ Left → pass'.left ≡ true
  pub still_left : pass.left ≡ true → pass'.left ≡ true
  pub alone : WaitsAlone pass.knows.shape desk pass.number
  pub served : (desk'.services ≡ desk.services) × (desk'.held ≡ desk.held)
