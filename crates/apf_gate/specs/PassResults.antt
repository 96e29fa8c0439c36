-- What a caller may rely on after each call of a Pass. All of it follows from the call's steps.
use Rattle.std.specs.Prelude.{◌≡◌, ◌≢◌, ◌⊎◌, true, false, Option, Some, None}
use Rattle.apf_words.specs.declared.decision.Decision.{Decision}
use Rattle.apf_words.specs.declared.decision.Decision.TheVariants.{Cancelled}
use Rattle.apf_model.specs.declared.response.Response.TheVariants.{Reject}
use Rattle.apf_gate.specs.declared.record.State.TheVariants.{Fresh, Took, InLine, Over}
use Rattle.apf_gate.specs.declared.record.PassRecord.{PassRecord}
use Rattle.apf_gate.specs.declared.answers.TryTake.{TryTake}
use Rattle.apf_gate.specs.declared.answers.TryTake.TheVariants as tried
use Rattle.apf_gate.specs.Records.{told_own, KnowsMore}
use Rattle.apf_gate.specs.PassSteps.{deciding_state}
use Rattle.apf_gate.specs.Tokens.{PassToken, pass_gate}

-- it is still the Pass of the same request at the same gate, and knows more than it did
pub record SamePass (token token' : PassToken) : Type 0 where
  pub gate : pass_gate token' ≡ pass_gate token
  pub number : token'.pass.number ≡ token.pass.number
  pub more : KnowsMore token.pass.knows token'.pass.knows

-- after a try to take seats the Pass holds them if the answer is that they were taken, and is fresh if not. Where it had seen the level closed, that is the answer
pub record AfterTryTake (pass : PassRecord) (answer : TryTake) (pass' : PassRecord) : Type 0 where
  pub took : answer ≡ tried.Taken → (pass'.state ≡ Took) × (pass'.wrote ≡ None)
  pub fresh : answer ≢ tried.Taken → pass'.state ≡ Fresh
  pub closed : answer ≡ tried.Closed → pass'.knows.saw_closed ≡ true
  pub no_room : answer ≡ tried.NoRoom → pass'.no_room ≡ true
  pub raced : answer ≡ tried.Raced → pass'.no_room ≡ false
  pub stays_closed : pass.knows.saw_closed ≡ true → answer ≡ tried.Closed
  pub no_queues : pass.knows.shape.response ≡ Reject → answer ≢ tried.Waiters

-- after asking, a Pass that was fresh is in line, and its request is undecided or cancelled, and was never handed to the Desk. What a Pass was told is found again
pub record AfterAsk (pass : PassRecord) (answer : Option Decision) (pass' : PassRecord) : Type 0 where
  pub in_line : pass.state ≡ Fresh → pass'.state ≡ InLine
  pub told : answer ≢ None → told_own pass' ≡ answer
  pub fresh : pass.state ≡ Fresh → (answer ≡ None) ⊎ (answer ≡ Some Cancelled)
  pub not_handed : pass.state ≡ Fresh → (pass'.handed ≡ false) × (pass'.entered ≡ false)
  pub stays : told_own pass ≢ None → answer ≡ told_own pass

-- after reading its decision the Pass is in the state that it was in. A fresh one finds its request undecided or cancelled, and what a Pass was told is found again
pub record AfterTold (pass : PassRecord) (answer : Option Decision) (pass' : PassRecord) : Type 0 where
  pub told : answer ≢ None → told_own pass' ≡ answer
  pub fresh : pass.state ≡ Fresh → (answer ≡ None) ⊎ (answer ≡ Some Cancelled)
  pub stays : told_own pass ≢ None → answer ≡ told_own pass
  pub state : pass'.state ≡ pass.state

-- after deciding, the Pass was told the decision that stands: its own, or cancelled, or the one that it was told before
pub record AfterDecide (pass : PassRecord) (decision answer : Decision) (pass' : PassRecord) : Type 0 where
  pub answers : (answer ≡ decision) ⊎ (answer ≡ Cancelled)
  pub told : told_own pass' ≡ Some answer
  pub stays : told_own pass ≢ None → Some answer ≡ told_own pass
  pub state : pass'.state ≡ deciding_state decision pass.state

-- after a release the Pass is over, and was told what it was told before
pub record AfterRelease (pass pass' : PassRecord) : Type 0 where
  pub state : pass'.state ≡ Over
  pub told : told_own pass' ≡ told_own pass
