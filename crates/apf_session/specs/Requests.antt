-- What a request of a level holds, and what the answer of a call says of it.
use Rattle.std.specs.Prelude.{◌≡◌, ◌≢◌, ◌==◌, not, ℕ, ◌-◌, ◌<◌, Bool, true, false, List, length, slice_index_or, All, Option, Some, None}
use Rattle.apf_words.specs.Level.{Level}
use Rattle.apf_words.specs.declared.decision.Decision.{Decision}
use Rattle.apf_words.specs.declared.decision.Decision.TheVariants.{Execute, QueueFull}
use Rattle.apf_history.specs.declared.events.Event.{Event}
use Rattle.apf_history.specs.declared.events.Event.TheVariants as events
use Rattle.apf_gate.specs.declared.record.State.TheVariants.{Fresh}
use Rattle.apf_gate.specs.Records.{told_own}
use Rattle.apf_gate.specs.Tokens.{PassToken, pass_gate}
use Rattle.apf_gate.specs.PassSteps.{PassSubtractsLevel}
use Rattle.apf_line.specs.declared.attempts.Tried.{Tried}
use Rattle.apf_line.specs.declared.attempts.Tried.TheVariants as tries
use Rattle.apf_line.specs.Attempts.{Attempts}
use Rattle.apf_level.specs.Admission.{Polls}
use Rattle.apf_level.specs.InPlace.{poll_of}
use Rattle.apf_level.specs.declared.answers.Begun.{Begun}
use Rattle.apf_level.specs.declared.answers.Begun.TheVariants as begins
use Rattle.apf_level.specs.Levels.{LevelId}
use Rattle.apf_level.specs.Tokens.{IsInLine, IsRunning, IsDone}
use Rattle.apf_words.specs.Limits.{max_requests}
use Rattle.apf_level.specs.Arrivals.{Appended}
use Rattle.apf_session.specs.declared.token.Token.{Token}
use Rattle.apf_session.specs.declared.token.Token.TheVariants as tokens
use Rattle.apf_session.specs.declared.answer.Answer.{Answer}
use Rattle.apf_session.specs.declared.answer.Answer.TheVariants as answers
use Rattle.apf_session.specs.declared.answer.Place.{Place}
use Rattle.apf_session.specs.declared.answer.Place.TheVariants as places

-- the Pass is this level's, and its request this one
abbrev pub IsPassOf : LevelId → ℕ → PassToken → Type 0
IsPassOf k number pass = (pass_gate pass ≡ k.gate) × (pass.pass.number ≡ number)

-- a request, as contracts see it: its number, and what it holds
pub record RequestView : Type 0 where
  pub number : ℕ
  pub token : Token

-- what a request holds whose Pass stands at this place
abbrev pub token_at : Place → PassToken → Token
token_at places.Away pass = tokens.Fresh pass
token_at places.Waits pass = tokens.Waiting pass
token_at places.Runs pass = tokens.Running pass
token_at places.Over pass = tokens.Done pass

-- the Pass is what its place says
abbrev pub IsAt : Place → PassToken → Type 0
IsAt places.Away pass = pass.pass.state ≡ Fresh
IsAt places.Waits pass = IsInLine pass
IsAt places.Runs pass = IsRunning pass
IsAt places.Over pass = IsDone pass

-- a request of the level whose Pass stands at this place
pub record IsPlacedOf (k : LevelId) (place : Place) (pass : PassToken) : Type 0 where
  pub own : IsPassOf k pass.pass.number pass
  pub inside : pass.pass.number < length k.gate.shape.widths
  pub small : pass.pass.number < max_requests
  pub at : IsAt place pass

-- where the request is
abbrev pub place_of : Token → Place
place_of (tokens.Fresh pass) = places.Away
place_of (tokens.Waiting pass) = places.Waits
place_of (tokens.Running pass) = places.Runs
place_of (tokens.Done pass) = places.Over
place_of tokens.Gone = places.Over

-- it executes, and was told so
abbrev pub IsToldRun : Token → Type 0
IsToldRun (tokens.Fresh pass) = ⊥
IsToldRun (tokens.Waiting pass) = ⊥
IsToldRun (tokens.Running pass) = told_own pass.pass ≡ Some Execute
IsToldRun (tokens.Done pass) = ⊥
IsToldRun tokens.Gone = ⊥

-- it is over, and was told this decision
abbrev pub IsToldOver : Decision → Token → Type 0
IsToldOver decision (tokens.Fresh pass) = ⊥
IsToldOver decision (tokens.Waiting pass) = ⊥
IsToldOver decision (tokens.Running pass) = ⊥
IsToldOver decision (tokens.Done pass) = told_own pass.pass ≡ Some decision
IsToldOver decision tokens.Gone = ⊥

-- what the answer says of the request, which holds this token now. That of a call which did nothing says nothing
abbrev pub Says : Answer → Token → Type 0
Says answers.Run token = IsToldRun token
Says (answers.Over decision) token = IsToldOver decision token × (decision ≢ Execute)
Says (answers.Tried decision waiting) token = IsToldOver decision token × (decision ≢ Execute)
Says answers.Busy token = place_of token ≡ places.Away
Says answers.Waits token = place_of token ≡ places.Waits
Says (answers.Released waiting) token = IsToldOver Execute token
Says answers.Wrong token = Unit {0}

-- what an arrival or a reading of a decision answers: the request executes, waits or is over, or the call was wrong here
abbrev pub SaysWhere : Answer → Type 0
SaysWhere answers.Run = Unit {0}
SaysWhere (answers.Over decision) = Unit {0}
SaysWhere answers.Waits = Unit {0}
SaysWhere answers.Wrong = Unit {0}
SaysWhere (answers.Tried decision waiting) = ⊥
SaysWhere answers.Busy = ⊥
SaysWhere (answers.Released waiting) = ⊥

-- a call of a request that is at this place, and else answers that it is wrong here and changes nothing
pub record Answers (place : Place) (old : RequestView) (answer : Answer) (new : RequestView) : Type 0 where
  pub same : new.number ≡ old.number
  pub says : Says answer new.token
  pub right : place_of old.token ≡ place → answer ≢ answers.Wrong
  pub wrong : place_of old.token ≢ place → (answer ≡ answers.Wrong) × (new ≡ old)

-- what is answered of an attempt, and the token that is kept of the Pass that it left
abbrev pub KeepsTried : Tried → PassToken → Answer → Token → Type 0
KeepsTried tries.Run pass answer token = (answer ≡ answers.Run) × (token ≡ tokens.Running pass)
KeepsTried (tries.Over decision waiting) pass answer token = (answer ≡ answers.Tried decision waiting) × (token ≡ tokens.Done pass)
KeepsTried tries.Blocked pass answer token = (answer ≡ answers.Busy) × (token ≡ tokens.Fresh pass)
KeepsTried tries.Raced pass answer token = (answer ≡ answers.Busy) × (token ≡ tokens.Fresh pass)

-- what an attempt of a request that did not arrive answers is what its steps found: that requests waited when seats were given back, too
abbrev pub TriesAs : Token → Answer → Token → Type 0
TriesAs (tokens.Fresh pass) answer token' = (tried : Tried) × (left : PassToken) × Attempts pass.pass tried left × KeepsTried tried left answer token'
TriesAs (tokens.Waiting pass) answer token' = Unit {0}
TriesAs (tokens.Running pass) answer token' = Unit {0}
TriesAs (tokens.Done pass) answer token' = Unit {0}
TriesAs tokens.Gone answer token' = Unit {0}

-- what is answered where a request that executes gives its seats back is what its one step found: whether requests waited then
abbrev pub ReleasesAs : Token → Answer → Token → Type 0
ReleasesAs (tokens.Fresh pass) answer token' = Unit {0}
ReleasesAs (tokens.Waiting pass) answer token' = Unit {0}
ReleasesAs (tokens.Running pass) answer token' = (done : PassToken) × (level : Level) × PassSubtractsLevel pass.pass level done.pass
    × (answer ≡ answers.Released (not (level.waiters == 0))) × (token' ≡ tokens.Done done)
ReleasesAs (tokens.Done pass) answer token' = Unit {0}
ReleasesAs tokens.Gone answer token' = Unit {0}

-- whether requests waited when seats were given back: then a dispatch is owed
abbrev pub owed_by : Answer → Bool
owed_by answers.Run = false
owed_by (answers.Over decision) = false
owed_by (answers.Tried decision waiting) = waiting
owed_by answers.Busy = false
owed_by answers.Waits = false
owed_by (answers.Released waiting) = waiting
owed_by answers.Wrong = false

-- the decision that a request was told, once it executes or is over
abbrev pub told_by : Token → Option Decision
told_by (tokens.Fresh pass) = None
told_by (tokens.Waiting pass) = None
told_by (tokens.Running pass) = Some Execute
told_by (tokens.Done pass) = told_own pass.pass
told_by tokens.Gone = None

-- a request that was told a decision was told no other one since
abbrev pub StaysTold : Token → Token → Type 0
StaysTold token token' = told_by token ≢ None → told_by token' ≡ told_by token

-- the same of each of these requests
abbrev pub StayTold : List RequestView → List RequestView → Type 0
StayTold old new = (i : ℕ) (d : RequestView) → StaysTold (slice_index_or old i d).token (slice_index_or new i d).token

-- the Pass that is left of a request: it is the request's, and was told what that was told
pub record IsLeftOf (request : RequestView) (pass : PassToken) : Type 0 where
  pub number : pass.pass.number ≡ request.number
  pub told : told_by request.token ≢ None → told_own pass.pass ≡ told_by request.token

-- the Passes that are left of these requests, the last one first
abbrev pub AreLeftOf : List RequestView → List PassToken → Type 0
AreLeftOf requests passes = (i : ℕ) (d : RequestView) (e : PassToken) → i < length requests
    → IsLeftOf (slice_index_or requests i d) (slice_index_or passes (length requests - 1 - i) e)

-- whether the Pass of the request has that it entered a queue
abbrev pub entered_in : Token → Bool
entered_in (tokens.Fresh pass) = pass.pass.entered
entered_in (tokens.Waiting pass) = pass.pass.entered
entered_in (tokens.Running pass) = pass.pass.entered
entered_in (tokens.Done pass) = pass.pass.entered
entered_in tokens.Gone = false

-- what is answered where the log got no event: the request did not enter, and no queue was full
abbrev pub NeedsNoEvent : Answer → Token → Type 0
NeedsNoEvent answers.Run token = entered_in token ≡ false
NeedsNoEvent (answers.Over decision) token = (entered_in token ≡ false) × (decision ≢ QueueFull)
NeedsNoEvent answers.Waits token = ⊥
NeedsNoEvent (answers.Tried decision waiting) token = Unit {0}
NeedsNoEvent answers.Busy token = Unit {0}
NeedsNoEvent (answers.Released waiting) token = Unit {0}
NeedsNoEvent answers.Wrong token = Unit {0}

-- what the log got by the arrival of a request of this number that is answered so: its Enter, if it entered; its Full, if a queue was full; and no event only if it did neither
abbrev pub LogsFor : LevelId → ℕ → Answer → Token → Option Event → Type 0
LogsFor k r answer token (Some (events.Enter r' q)) = (r' ≡ r) × (entered_in token ≡ true) × Appended k (events.Enter r q)
LogsFor k r answer token (Some (events.Full r' q)) = (r' ≡ r) × (answer ≡ answers.Over QueueFull) × Appended k (events.Full r q)
LogsFor k r answer token (Some (events.Dispatch r' q)) = ⊥
LogsFor k r answer token (Some (events.Strike r' q)) = ⊥
LogsFor k r answer token None = NeedsNoEvent answer token

-- what is answered of a reading, and the token that is kept of the Pass that it left
abbrev pub KeepsRead : Begun → PassToken → Answer → Token → Type 0
KeepsRead begins.Run pass answer token = (answer ≡ answers.Run) × (token ≡ tokens.Running pass)
KeepsRead (begins.Over decision) pass answer token = (answer ≡ answers.Over decision) × (token ≡ tokens.Done pass)
KeepsRead begins.Waits pass answer token = (answer ≡ answers.Waits) × (token ≡ tokens.Waiting pass)

-- what is answered of a request that waits is what one load of its decision found
abbrev pub ReadsAs : Token → Answer → Token → Type 0
ReadsAs (tokens.Fresh pass) answer token' = Unit {0}
ReadsAs (tokens.Waiting pass) answer token' = (read : Begun) × (left : PassToken) × Polls pass.pass (poll_of read left) × KeepsRead read left answer token'
ReadsAs (tokens.Running pass) answer token' = Unit {0}
ReadsAs (tokens.Done pass) answer token' = Unit {0}
ReadsAs tokens.Gone answer token' = Unit {0}

-- a call of one of these requests, which leaves the others as they are
pub record CallsOne (place : Place) (request : ℕ) (old : List RequestView) (answer : Answer) (new : List RequestView) : Type 0 where
  pub count : length new ≡ length old
  pub one : (d : RequestView) → Answers place (slice_index_or old request d) answer (slice_index_or new request d)
  pub others : (i : ℕ) (d : RequestView) → i ≢ request → slice_index_or new i d ≡ slice_index_or old i d

-- each request's number is its place
abbrev pub AreNumbered : List RequestView → Type 0
AreNumbered requests = (i : ℕ) (d : RequestView) → i < length requests → (slice_index_or requests i d).number ≡ i

-- each Pass's number is its place
abbrev pub ArePassesNumbered : List PassToken → Type 0
ArePassesNumbered passes = (i : ℕ) (d : PassToken) → i < length passes → (slice_index_or passes i d).pass.number ≡ i

-- none of the requests arrived
abbrev pub AreAway : List RequestView → Type 0
AreAway requests = All (λ (r : RequestView). place_of r.token ≡ places.Away) requests
