-- What the calls of a Level answer where the request's Pass stays in its place.
use Rattle.std.specs.Prelude.{◌≡◌, ◌≢◌, Some}
use Rattle.apf_words.specs.declared.decision.Decision.TheVariants as decisions
use Rattle.apf_gate.specs.Records.{told_own}
use Rattle.apf_gate.specs.Tokens.{PassToken}
use Rattle.apf_line.specs.declared.attempts.Tried.{Tried}
use Rattle.apf_line.specs.declared.attempts.Tried.TheVariants as tries
use Rattle.apf_level.specs.declared.answers.Begun.{Begun}
use Rattle.apf_level.specs.declared.answers.Begun.TheVariants as begins
use Rattle.apf_level.specs.declared.answers.Begin.{Begin}
use Rattle.apf_level.specs.declared.answers.Begin.TheVariants as begun
use Rattle.apf_level.specs.declared.answers.Poll.{Poll}
use Rattle.apf_level.specs.declared.answers.Poll.TheVariants as polled
use Rattle.apf_level.specs.Tokens.{IsInLine, IsRunning, IsDone}

-- what an arrival answers, with the Pass that it left in its place
abbrev pub begin_of : Begun → PassToken → Begin
begin_of begins.Run token = begun.Run token
begin_of (begins.Over decision) token = begun.Over token decision
begin_of begins.Waits token = begun.Waiting token

-- what a reading of a decision answers, with the Pass that it left in its place
abbrev pub poll_of : Begun → PassToken → Poll
poll_of begins.Run token = polled.Run token
poll_of (begins.Over decision) token = polled.Over token decision
poll_of begins.Waits token = polled.Still token

-- the Pass that was left is what the answer says: of a request that executes, is over or waits
abbrev pub IsLeftBy : Begun → PassToken → Type 0
IsLeftBy begins.Run token = IsRunning token
IsLeftBy (begins.Over decision) token = IsDone token
IsLeftBy begins.Waits token = IsInLine token

-- the answer says that a request waits
abbrev pub SaysWaits : Begun → Type 0
SaysWaits begins.Run = ⊥
SaysWaits (begins.Over decision) = ⊥
SaysWaits begins.Waits = Unit {0}

-- the decision that is answered is the one that the Pass was told, and the request does not wait
abbrev pub IsDecided : Begun → PassToken → Type 0
IsDecided begins.Run token = told_own token.pass ≡ Some decisions.Execute
IsDecided (begins.Over decision) token = (told_own token.pass ≡ Some decision) × (decision ≢ decisions.Execute)
IsDecided begins.Waits token = ⊥

-- the Pass that an attempt left is what the answer says: of a request that executes, or that is over
abbrev pub IsKeptInBatch : Tried → PassToken → Type 0
IsKeptInBatch tries.Run token = IsRunning token
IsKeptInBatch (tries.Over decision waiters) token = IsDone token
IsKeptInBatch tries.Blocked token = Unit {0}
IsKeptInBatch tries.Raced token = Unit {0}
