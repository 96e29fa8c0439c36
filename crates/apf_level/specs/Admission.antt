-- What the calls of a request answer, by the steps that they make in its Pass's record.
use Rattle.std.specs.Prelude.{◌≡◌, ◌≢◌, true, false, Some, None}
use Rattle.apf_words.specs.declared.decision.Decision.TheVariants as decisions
use Rattle.apf_gate.specs.declared.record.PassRecord.{PassRecord}
use Rattle.apf_gate.specs.declared.record.State.TheVariants.{Fresh}
use Rattle.apf_gate.specs.Records.{told_own}
use Rattle.apf_gate.specs.Tokens.{PassToken}
use Rattle.apf_gate.specs.PassSteps.{PassLoadsDecision}
use Rattle.apf_line.specs.Attempts.{Attempts, FindsBusy}
use Rattle.apf_line.specs.declared.attempts.Tried.TheVariants as tries
use Rattle.apf_level.specs.declared.answers.TryAdmit.{TryAdmit}
use Rattle.apf_level.specs.declared.answers.TryAdmit.TheVariants as tried
use Rattle.apf_level.specs.declared.answers.Begin.{Begin}
use Rattle.apf_level.specs.declared.answers.Begin.TheVariants as begun
use Rattle.apf_level.specs.declared.answers.Poll.{Poll}
use Rattle.apf_level.specs.declared.answers.Poll.TheVariants as polled
use Rattle.apf_level.specs.declared.answers.Admit.{Admit}
use Rattle.apf_level.specs.declared.answers.Admit.TheVariants as admitted

-- the Pass that an answer owns
abbrev pub tried_pass : TryAdmit → PassToken
tried_pass (tried.Run token) = token
tried_pass (tried.Over token decision waiters) = token
tried_pass (tried.Busy token) = token

abbrev pub begun_pass : Begin → PassToken
begun_pass (begun.Run token) = token
begun_pass (begun.Over token decision) = token
begun_pass (begun.Waiting token) = token

abbrev pub polled_pass : Poll → PassToken
polled_pass (polled.Run token) = token
polled_pass (polled.Over token decision) = token
polled_pass (polled.Still token) = token

abbrev pub admitted_pass : Admit → PassToken
admitted_pass (admitted.Run token) = token
admitted_pass (admitted.Over token decision) = token

-- the decision that is answered is the one that the Pass was told, and whoever is over is not executed
abbrev pub IsTriedTold : TryAdmit → Type 0
IsTriedTold (tried.Run token) = told_own token.pass ≡ Some decisions.Execute
IsTriedTold (tried.Over token decision waiters) = (told_own token.pass ≡ Some decision) × (decision ≢ decisions.Execute)
IsTriedTold (tried.Busy token) = token.pass.state ≡ Fresh

abbrev pub IsBegunTold : Begin → Type 0
IsBegunTold (begun.Run token) = told_own token.pass ≡ Some decisions.Execute
IsBegunTold (begun.Over token decision) = (told_own token.pass ≡ Some decision) × (decision ≢ decisions.Execute)
IsBegunTold (begun.Waiting token) = token.pass.entered ≡ true

abbrev pub IsAdmittedTold : Admit → Type 0
IsAdmittedTold (admitted.Run token) = told_own token.pass ≡ Some decisions.Execute
IsAdmittedTold (admitted.Over token decision) = (told_own token.pass ≡ Some decision) × (decision ≢ decisions.Execute)

-- whoever waits now entered since it had this record
abbrev pub EnteredNow : PassRecord → Begin → Type 0
EnteredNow pass (begun.Run token) = Unit {0}
EnteredNow pass (begun.Over token decision) = Unit {0}
EnteredNow pass (begun.Waiting token) = (pass.entered ≡ false) × (token.pass.entered ≡ true)

-- the answer says that a request waits
abbrev pub SaysWaiting : Begin → Type 0
SaysWaiting (begun.Run token) = ⊥
SaysWaiting (begun.Over token decision) = ⊥
SaysWaiting (begun.Waiting token) = Unit {0}

-- one load of the decision
abbrev pub Polls : PassRecord → Poll → Type 0
Polls pass (polled.Run token) = PassLoadsDecision pass (Some decisions.Execute) token.pass
Polls pass (polled.Over token decision) = PassLoadsDecision pass (Some decision) token.pass
Polls pass (polled.Still token) = PassLoadsDecision pass None token.pass

-- who is over is not executed
abbrev pub IsNotExecuted : Poll → Type 0
IsNotExecuted (polled.Run token) = Unit {0}
IsNotExecuted (polled.Over token decision) = decision ≢ decisions.Execute
IsNotExecuted (polled.Still token) = Unit {0}

-- the steps of `try_admit`
abbrev pub TriesToAdmit : PassRecord → TryAdmit → Type 0
TriesToAdmit pass (tried.Run token) = Attempts pass tries.Run token
TriesToAdmit pass (tried.Over token decision waiters) = Attempts pass (tries.Over decision waiters) token
TriesToAdmit pass (tried.Busy token) = FindsBusy pass token.pass

-- the answer says that the level was open
abbrev pub SaysOpen : TryAdmit → Type 0
SaysOpen (tried.Run token) = Unit {0}
SaysOpen (tried.Over token decision waiters) = ⊥
SaysOpen (tried.Busy token) = Unit {0}
