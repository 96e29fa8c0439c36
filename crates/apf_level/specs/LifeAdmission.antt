-- What the calls of a request answer, by the steps that they make in its Pass's record.
use Rattle.std.specs.Prelude.{◌≡◌, ◌≢◌, ℕ, Bool, true, false, Option, Some, None}
use Rattle.apf_words.specs.declared.decision.Decision.{Decision}
use Rattle.apf_words.specs.declared.decision.Decision.TheVariants as decisions
use Rattle.apf_gate.specs.declared.record.PassRecord.{PassRecord}
use Rattle.apf_gate.specs.declared.record.State.TheVariants.{Fresh}
use Rattle.apf_gate.specs.Records.{told_own, own_width}
use Rattle.apf_gate.specs.declared.answers.Cancel.{Cancel}
use Rattle.apf_gate.specs.declared.answers.Cancel.TheVariants as cancels
use Rattle.apf_gate.specs.Slots.{next_of}
use Rattle.apf_gate.specs.Tokens.{PassToken, pass_gate}
use Rattle.apf_gate.specs.PassSteps.{PassLoadsDecision, PassRenews}
use Rattle.apf_level.specs.Owing as owing
use Rattle.apf_line.specs.Attempts.{Attempts, FindsBusy}
use Rattle.apf_line.specs.declared.attempts.Tried.TheVariants as tries
use Rattle.apf_level.specs.declared.life.answers.Renewed.{Renewed}
use Rattle.apf_level.specs.declared.life.answers.Renewed.TheVariants as renewed
use Rattle.apf_level.specs.declared.life.answers.TryAdmit.{TryAdmit}
use Rattle.apf_level.specs.declared.life.answers.TryAdmit.TheVariants as tried
use Rattle.apf_level.specs.declared.life.answers.Begin.{Begin}
use Rattle.apf_level.specs.declared.life.answers.Begin.TheVariants as begun
use Rattle.apf_level.specs.declared.life.answers.Poll.{Poll}
use Rattle.apf_level.specs.declared.life.answers.Poll.TheVariants as polled
use Rattle.apf_level.specs.declared.life.answers.Admit.{Admit}
use Rattle.apf_level.specs.declared.life.answers.Admit.TheVariants as admitted
use Rattle.apf_line.specs.Tokens.{Arriving}

-- the Pass that an answer owns
abbrev pub tried_pass : TryAdmit → PassToken
tried_pass (tried.Run token) = token
tried_pass (tried.Over token decision waiters) = token
tried_pass (tried.Busy a) = a.token

abbrev pub begun_pass : Begin → PassToken
begun_pass (begun.Run token) = token
begun_pass (begun.Over token decision) = token
begun_pass (begun.Waiting token) = token

abbrev pub polled_pass : Poll → PassToken
polled_pass (polled.Run token) = token
polled_pass (polled.Over token decision) = token
polled_pass (polled.Still token) = token

abbrev pub admitted_pass : Admit → PassToken
admitted_pass (admitted.Run token) = token
admitted_pass (admitted.Over token decision) = token

-- the same answer of an arrival, in the end
abbrev pub begun_of : Admit → Begin
begun_of (admitted.Run token) = begun.Run token
begun_of (admitted.Over token decision) = begun.Over token decision

-- the slot's numbers are used up, and its Pass is as it was; or the next request of the slot is there, new and undecided, with this width, this hash and this cost
abbrev pub Renews : PassToken → ℕ → ℕ → ℕ → Renewed → Type 0
Renews token width hash cost (renewed.Spent same) = same ≡ token
Renews token width hash cost (renewed.Fresh a) = (pass_gate a.token ≡ pass_gate token) × (a.hash ≡ hash) × (a.cost ≡ cost) × (own_width a.token.pass ≡ width)
    × ((found : Option Decision) × PassRenews (next_of token.pass.number width) (record { hash = hash; cost = cost }) token.pass found a.token.pass)

-- the answer says that the slot's numbers are used up
abbrev pub SaysSpent : Renewed → Type 0
SaysSpent (renewed.Spent same) = Unit {0}
SaysSpent (renewed.Fresh a) = ⊥

-- the decision that is answered is the one that the Pass was told, and whoever is over is not executed
abbrev pub IsTriedTold : TryAdmit → Type 0
IsTriedTold (tried.Run token) = told_own token.pass ≡ Some decisions.Execute
IsTriedTold (tried.Over token decision waiters) = (told_own token.pass ≡ Some decision) × (decision ≢ decisions.Execute)
IsTriedTold (tried.Busy a) = a.token.pass.state ≡ Fresh

abbrev pub IsBegunTold : Begin → Type 0
IsBegunTold (begun.Run token) = told_own token.pass ≡ Some decisions.Execute
IsBegunTold (begun.Over token decision) = (told_own token.pass ≡ Some decision) × (decision ≢ decisions.Execute)
IsBegunTold (begun.Waiting token) = token.pass.entered ≡ true

abbrev pub IsAdmittedTold : Admit → Type 0
IsAdmittedTold (admitted.Run token) = told_own token.pass ≡ Some decisions.Execute
IsAdmittedTold (admitted.Over token decision) = (told_own token.pass ≡ Some decision) × (decision ≢ decisions.Execute)

-- who is busy asks for what it asked before
abbrev pub AsksAgain : Arriving → TryAdmit → Type 0
AsksAgain a (tried.Run token) = Unit {0}
AsksAgain a (tried.Over token decision waiters) = Unit {0}
AsksAgain a (tried.Busy a') = (a'.hash ≡ a.hash) × (a'.cost ≡ a.cost)

-- whoever waits now entered since it had this record
abbrev pub EnteredNow : PassRecord → Begin → Type 0
EnteredNow pass (begun.Run token) = Unit {0}
EnteredNow pass (begun.Over token decision) = Unit {0}
EnteredNow pass (begun.Waiting token) = (pass.entered ≡ false) × (token.pass.entered ≡ true)

-- the answer says that a request waits
abbrev pub SaysWaiting : Begin → Type 0
SaysWaiting (begun.Run token) = ⊥
SaysWaiting (begun.Over token decision) = ⊥
SaysWaiting (begun.Waiting token) = Unit {0}

-- one load of the decision, which the Pass was told. A request that waited and is over was cancelled, and its Pass heard after the load that it left its queue
abbrev pub Polls : PassRecord → Poll → Type 0
Polls pass (polled.Run token) = PassLoadsDecision pass (Some decisions.Execute) token.pass
Polls pass (polled.Over token decision) = ((read : PassRecord) × PassLoadsDecision pass (Some decision) read) × (decision ≡ decisions.Cancelled) × (told_own token.pass ≡ Some decision) × (token.pass.left ≡ true)
Polls pass (polled.Still token) = PassLoadsDecision pass None token.pass

-- the steps of `try_admit`
abbrev pub TriesToAdmit : PassRecord → TryAdmit → Type 0
TriesToAdmit pass (tried.Run token) = Attempts pass tries.Run token
TriesToAdmit pass (tried.Over token decision waiters) = Attempts pass (tries.Over decision waiters) token
TriesToAdmit pass (tried.Busy a) = FindsBusy pass a.token.pass

-- whether requests waited when seats were given back: then a dispatch is owed
abbrev pub owed_by_try : TryAdmit → Bool
owed_by_try (tried.Run token) = false
owed_by_try (tried.Over token decision waiters) = waiters
owed_by_try (tried.Busy a) = false

-- the request whose strike is owed, once a cancel answered so of it: one that is cancelled and holds its slot, and no other
abbrev pub strike_owed : Cancel → ℕ → Option ℕ
strike_owed (cancels.Is decision) r = owing.strike_owed decision r
strike_owed cancels.Other r = None

-- the answer says that the level was open
abbrev pub SaysOpen : TryAdmit → Type 0
SaysOpen (tried.Run token) = Unit {0}
SaysOpen (tried.Over token decision waiters) = ⊥
SaysOpen (tried.Busy a) = Unit {0}
