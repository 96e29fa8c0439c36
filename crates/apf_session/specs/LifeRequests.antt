-- What a slot of a level holds, and what the answer of a call says of its request.
use Rattle.std.specs.Prelude.{◌≡◌, ◌≢◌, ◌⊎◌, ◌≤◌, ◌==◌, not, ℕ, Bool, true, false, List, [], length, slice_index_or, All, Option, Some, None}
use Rattle.apf_words.specs.Level.{Level}
use Rattle.apf_words.specs.declared.decision.Decision.{Decision}
use Rattle.apf_words.specs.declared.decision.Decision.TheVariants.{Execute, QueueFull}
use Rattle.apf_history.specs.declared.events.Event.{Event}
use Rattle.apf_history.specs.declared.events.Event.TheVariants as events
use Rattle.apf_gate.specs.Records.{told_own}
use Rattle.apf_gate.specs.Slots.{next_of}
use Rattle.apf_gate.specs.Tokens.{PassToken, pass_gate}
use Rattle.apf_gate.specs.PassSteps.{PassRenews, PassSubtractsLevel}
use Rattle.apf_book.specs.declared.life_event.LifeEvent.{LifeEvent}
use Rattle.apf_book.specs.RecentEvents.{event_of}
use Rattle.apf_line.specs.declared.attempts.Tried.{Tried}
use Rattle.apf_line.specs.declared.attempts.Tried.TheVariants as tries
use Rattle.apf_line.specs.Attempts.{Attempts}
use Rattle.apf_level.specs.declared.answers.Begun.{Begun}
use Rattle.apf_level.specs.declared.answers.Begun.TheVariants as begins
use Rattle.apf_level.specs.LifeAdmission.{Polls as Reads}
use Rattle.apf_level.specs.LifeInPlace.{poll_of}
use Rattle.apf_level.specs.LifeReleases.{ReleasesMeasured}
use Rattle.apf_line.specs.Levels.{LifeId}
use Rattle.apf_line.specs.Tokens.{IsInLine, IsRunning, IsDone}
use Rattle.apf_line.specs.Tries.{FoundNoSeatsSince}
use Rattle.apf_flow.specs.Deal.{hand_of}
use Rattle.apf_gate.specs.declared.record.Entry.{Entry}
use Rattle.apf_gate.specs.Traces.{asked_in}
use Rattle.apf_level.specs.LifeArrivals.{Came}
use Rattle.apf_session.specs.declared.life.token.Token.{Token}
use Rattle.apf_session.specs.declared.life.token.Token.TheVariants as tokens
use Rattle.apf_session.specs.declared.life.answer.Answer.{Answer}
use Rattle.apf_session.specs.declared.life.answer.Answer.TheVariants as answers
use Rattle.apf_session.specs.declared.life.answer.Place.{Place}
use Rattle.apf_session.specs.declared.life.answer.Place.TheVariants as places

-- the number of the slot's newest request
abbrev pub number_in : Token → ℕ
number_in (tokens.Free pass) = pass.pass.number
number_in (tokens.Waiting pass) = pass.pass.number
number_in (tokens.Running pass) = pass.pass.number
number_in tokens.Gone = 0

-- what a slot holds whose Pass stands at this place
abbrev pub token_at : Place → PassToken → Token
token_at places.Free pass = tokens.Free pass
token_at places.Waits pass = tokens.Waiting pass
token_at places.Runs pass = tokens.Running pass

-- the Pass is what its place says
abbrev pub IsAt : Place → PassToken → Type 0
IsAt places.Free pass = IsDone pass
IsAt places.Waits pass = IsInLine pass
IsAt places.Runs pass = IsRunning pass

-- a slot of the level whose Pass stands at this place. Of one that executes it is known whether it entered a queue
pub record IsPlacedOf (k : LifeId) (place : Place) (entered : Bool) (pass : PassToken) : Type 0 where
  pub own : pass_gate pass ≡ k.gate
  pub at : IsAt place pass
  pub entered_is : place ≡ places.Runs → pass.pass.entered ≡ entered

-- where it is
abbrev pub place_of : Token → Place
place_of (tokens.Free pass) = places.Free
place_of (tokens.Waiting pass) = places.Waits
place_of (tokens.Running pass) = places.Runs
place_of tokens.Gone = places.Free

-- it executes, and was told so
abbrev pub IsToldRun : Token → Type 0
IsToldRun (tokens.Free pass) = ⊥
IsToldRun (tokens.Waiting pass) = ⊥
IsToldRun (tokens.Running pass) = told_own pass.pass ≡ Some Execute
IsToldRun tokens.Gone = ⊥

-- it is over, and was told this decision
abbrev pub IsToldOver : Decision → Token → Type 0
IsToldOver decision (tokens.Free pass) = told_own pass.pass ≡ Some decision
IsToldOver decision (tokens.Waiting pass) = ⊥
IsToldOver decision (tokens.Running pass) = ⊥
IsToldOver decision tokens.Gone = ⊥

-- what the answer says of the slot's request, which is that of this token now. That of a call which did nothing says nothing
abbrev pub Says : Answer → Token → Type 0
Says answers.Run token = IsToldRun token
Says (answers.Over decision) token = IsToldOver decision token × (decision ≢ Execute)
Says (answers.Tried decision waiting) token = IsToldOver decision token × (decision ≢ Execute)
Says answers.Busy token = place_of token ≡ places.Free
Says answers.Waits token = place_of token ≡ places.Waits
Says (answers.Released waiting) token = IsToldOver Execute token
Says answers.Spent token = Unit {0}
Says answers.Wrong token = Unit {0}

-- the answer says that the request executes, waits or is over
abbrev pub SaysWhere : Answer → Type 0
SaysWhere answers.Run = Unit {0}
SaysWhere (answers.Over decision) = Unit {0}
SaysWhere (answers.Tried decision waiting) = ⊥
SaysWhere answers.Busy = ⊥
SaysWhere answers.Waits = Unit {0}
SaysWhere (answers.Released waiting) = ⊥
SaysWhere answers.Spent = ⊥
SaysWhere answers.Wrong = ⊥

-- the slot has no number left for a next request of this width
abbrev pub IsUsedUp : LifeId → ℕ → PassToken → Type 0
IsUsedUp k width pass = length k.gate.shape.widths ≤ next_of pass.pass.number width

-- the next request of a free slot came, of this width, and where it is now is what is answered; or, exactly if the slot's numbers are used up, it is spent, and nothing changed. In a slot that is not free nothing is done
abbrev pub Arrives : LifeId → ℕ → Token → Answer → Token → Type 0
Arrives k width (tokens.Free pass) answer token' = (IsUsedUp k width pass × (answer ≡ answers.Spent) × (token' ≡ tokens.Free pass))
    ⊎ ((¬ IsUsedUp k width pass) × SaysWhere answer × Says answer token' × (number_in token' ≡ next_of pass.pass.number width))
Arrives k width (tokens.Waiting pass) answer token' = (answer ≡ answers.Wrong) × (token' ≡ tokens.Waiting pass)
Arrives k width (tokens.Running pass) answer token' = (answer ≡ answers.Wrong) × (token' ≡ tokens.Running pass)
Arrives k width tokens.Gone answer token' = ⊥

-- what the Pass in a slot knows of: all steps at the gate up to its own last one
abbrev pub trace_in : Token → List Entry
trace_in (tokens.Free pass) = pass.pass.knows.trace
trace_in (tokens.Waiting pass) = pass.pass.knows.trace
trace_in (tokens.Running pass) = pass.pass.knows.trace
trace_in tokens.Gone = []

-- whether the Pass has that its request entered a queue, and that it left it without executing
abbrev pub entered_in : Token → Bool
entered_in (tokens.Free pass) = pass.pass.entered
entered_in (tokens.Waiting pass) = pass.pass.entered
entered_in (tokens.Running pass) = pass.pass.entered
entered_in tokens.Gone = false

abbrev pub left_in : Token → Bool
left_in (tokens.Free pass) = pass.pass.left
left_in (tokens.Waiting pass) = pass.pass.left
left_in (tokens.Running pass) = pass.pass.left
left_in tokens.Gone = false

-- the request entered a queue, and one that is over may have left it
abbrev pub HasEntered : Answer → Token → Type 0
HasEntered answers.Run token = entered_in token ≡ true
HasEntered (answers.Over decision) token = (entered_in token ≡ true) ⊎ (left_in token ≡ true)
HasEntered answers.Waits token = entered_in token ≡ true
HasEntered (answers.Tried decision waiting) token = ⊥
HasEntered answers.Busy token = ⊥
HasEntered (answers.Released waiting) token = ⊥
HasEntered answers.Spent token = ⊥
HasEntered answers.Wrong token = ⊥

-- the event is the request's: its Enter, or its Full where the queue was full
abbrev pub IsEventOf : ℕ → Answer → Token → Event → Type 0
IsEventOf r answer token (events.Enter r' q) = (r' ≡ r) × HasEntered answer token
IsEventOf r answer token (events.Full r' q) = (r' ≡ r) × (answer ≡ answers.Over QueueFull)
IsEventOf r answer token (events.Dispatch r' q) = ⊥
IsEventOf r answer token (events.Strike r' q) = ⊥

-- what is answered where the history got no event: the request did not enter, and no queue was full
abbrev pub NeedsNoEvent : Answer → Token → Type 0
NeedsNoEvent answers.Run token = entered_in token ≡ false
NeedsNoEvent (answers.Over decision) token = (entered_in token ≡ false) × (decision ≢ QueueFull)
NeedsNoEvent answers.Waits token = ⊥
NeedsNoEvent (answers.Tried decision waiting) token = Unit {0}
NeedsNoEvent answers.Busy token = Unit {0}
NeedsNoEvent (answers.Released waiting) token = Unit {0}
NeedsNoEvent answers.Spent token = Unit {0}
NeedsNoEvent answers.Wrong token = Unit {0}

-- the answer says what became of an attempt
abbrev pub SaysTried : Answer → Type 0
SaysTried answers.Run = Unit {0}
SaysTried (answers.Over decision) = ⊥
SaysTried (answers.Tried decision waiting) = Unit {0}
SaysTried answers.Busy = Unit {0}
SaysTried answers.Waits = ⊥
SaysTried (answers.Released waiting) = ⊥
SaysTried answers.Spent = ⊥
SaysTried answers.Wrong = ⊥

-- the next request of a free slot tried, of this width, and what became of it is what is answered; or, exactly if the slot's numbers are used up, it is spent, and nothing changed. In a slot that is not free nothing is done
abbrev pub Tries : LifeId → ℕ → Token → Answer → Token → Type 0
Tries k width (tokens.Free pass) answer token' = (IsUsedUp k width pass × (answer ≡ answers.Spent) × (token' ≡ tokens.Free pass))
    ⊎ ((¬ IsUsedUp k width pass) × SaysTried answer × Says answer token' × (number_in token' ≡ next_of pass.pass.number width))
Tries k width (tokens.Waiting pass) answer token' = (answer ≡ answers.Wrong) × (token' ≡ tokens.Waiting pass)
Tries k width (tokens.Running pass) answer token' = (answer ≡ answers.Wrong) × (token' ≡ tokens.Running pass)
Tries k width tokens.Gone answer token' = ⊥

-- what is answered of an attempt, and the token that is kept of the Pass that it left. The slot of a request that is busy is free
abbrev pub KeepsTried : Tried → PassToken → Answer → Token → Type 0
KeepsTried tries.Run pass answer token = (answer ≡ answers.Run) × (token ≡ tokens.Running pass)
KeepsTried (tries.Over decision waiting) pass answer token = (answer ≡ answers.Tried decision waiting) × (token ≡ tokens.Free pass)
KeepsTried tries.Blocked pass answer token = (answer ≡ answers.Busy) × (token ≡ tokens.Free pass)
KeepsTried tries.Raced pass answer token = (answer ≡ answers.Busy) × (token ≡ tokens.Free pass)

-- the slot of this Pass went on to its next request, of this width and this hash of its flow, and what is answered is what the steps of its attempt found: that requests waited when seats were given back, too
pub record AttemptsNext (width hash : ℕ) (pass : PassToken) (answer : Answer) (token' : Token) : Type 0 where
  pub next : PassToken
  pub found : Option Decision
  pub renews : PassRenews (next_of pass.pass.number width) (record { hash = hash; cost = width }) pass.pass found next.pass
  pub tried : Tried
  pub left : PassToken
  pub steps : Attempts next.pass tried left
  pub keeps : KeepsTried tried left answer token'

-- what an attempt in a free slot answers is what its steps found, unless the slot's numbers are used up
abbrev pub TriesAs : ℕ → ℕ → Token → Answer → Token → Type 0
TriesAs width hash (tokens.Free pass) answer token' = answer ≢ answers.Spent → AttemptsNext width hash pass answer token'
TriesAs width hash (tokens.Waiting pass) answer token' = Unit {0}
TriesAs width hash (tokens.Running pass) answer token' = Unit {0}
TriesAs width hash tokens.Gone answer token' = Unit {0}

-- what the history got by the arrival of the slot's request, of a flow with this hash and with this cost, that is answered so: its Enter, or its Full if a queue was full, of a request that came with the hand of that flow, by steps that begin it with what it asked for. It is the newest event of the level's history at that time, by all steps, which its Pass knows of. It came to its queues only once it had tried to take its seats and found none. And no event only if it did not enter, and no queue was full
abbrev pub LogsFor : LifeId → Token → ℕ → ℕ → Answer → Option LifeEvent → Type 0
LogsFor k token hash cost answer None = NeedsNoEvent answer token
LogsFor k token hash cost answer (Some event) = SaysWhere answer × IsEventOf (number_in token) answer token (event_of event)
    × ((known : List Entry) × (asked_in known (number_in token) ≡ Some (record { hash = hash; cost = cost })) × Came k known (number_in token) (hand_of k.sizes hash) cost (event_of event) (trace_in token) × FoundNoSeatsSince known (number_in token) (trace_in token))

-- a call of a slot whose request is at this place, and else answers that it is wrong here and changes nothing
pub record Answers (place : Place) (old : Token) (answer : Answer) (new : Token) : Type 0 where
  pub same : number_in new ≡ number_in old
  pub says : Says answer new
  pub right : place_of old ≡ place → answer ≢ answers.Wrong
  pub wrong : place_of old ≢ place → (answer ≡ answers.Wrong) × (new ≡ old)

-- what is answered of a reading, and the token that is kept of the Pass that it left
abbrev pub KeepsRead : Begun → PassToken → Answer → Token → Type 0
KeepsRead begins.Run pass answer token = (answer ≡ answers.Run) × (token ≡ tokens.Running pass)
KeepsRead (begins.Over decision) pass answer token = (answer ≡ answers.Over decision) × (token ≡ tokens.Free pass)
KeepsRead begins.Waits pass answer token = (answer ≡ answers.Waits) × (token ≡ tokens.Waiting pass)

-- what is answered of a request that waits is what one load of its decision found
abbrev pub ReadsAs : Token → Answer → Token → Type 0
ReadsAs (tokens.Free pass) answer token' = Unit {0}
ReadsAs (tokens.Waiting pass) answer token' = (read : Begun) × (left : PassToken) × Reads pass.pass (poll_of read left) × KeepsRead read left answer token'
ReadsAs (tokens.Running pass) answer token' = Unit {0}
ReadsAs tokens.Gone answer token' = Unit {0}

-- a request that waits reads its decision, by one load: it executes, is over, or still waits
pub record Polls (old : Token) (answer : Answer) (new : Token) : Type 0 where
  pub answers : Answers places.Waits old answer new
  pub place : place_of old ≡ places.Waits → SaysWhere answer
  pub reads : ReadsAs old answer new

-- whether requests waited when seats were given back: then a dispatch is owed
abbrev pub owed_by : Answer → Bool
owed_by answers.Run = false
owed_by (answers.Over decision) = false
owed_by (answers.Tried decision waiting) = waiting
owed_by answers.Busy = false
owed_by answers.Waits = false
owed_by (answers.Released waiting) = waiting
owed_by answers.Spent = false
owed_by answers.Wrong = false

-- what is answered where a request that executes gives its seats back is what its one step found: whether requests waited then
abbrev pub ReleasesAs : Token → Answer → Token → Type 0
ReleasesAs (tokens.Free pass) answer token' = Unit {0}
ReleasesAs (tokens.Waiting pass) answer token' = Unit {0}
ReleasesAs (tokens.Running pass) answer token' = (done : PassToken) × (level : Level) × PassSubtractsLevel pass.pass level done.pass
    × (answer ≡ answers.Released (not (level.waiters == 0))) × (token' ≡ tokens.Free done)
ReleasesAs tokens.Gone answer token' = Unit {0}

-- what is answered where a request that executes gives its seats back, and tells how long it ran: what its one step found, if it took its seats on arrival
abbrev pub FinishesAs : Token → Answer → Token → Type 0
FinishesAs (tokens.Free pass) answer token' = Unit {0}
FinishesAs (tokens.Waiting pass) answer token' = Unit {0}
FinishesAs (tokens.Running pass) answer token' = (done : PassToken) × (owes : Bool) × ReleasesMeasured pass.pass owes done.pass
    × (answer ≡ answers.Released owes) × (token' ≡ tokens.Free done)
FinishesAs tokens.Gone answer token' = Unit {0}

-- a call of one of these slots, which leaves the others as they are
pub record CallsOne (calls : Token → Answer → Token → Type 0) (slot : ℕ) (old : List Token) (answer : Answer) (new : List Token) : Type 0 where
  pub count : length new ≡ length old
  pub one : (d : Token) → calls (slice_index_or old slot d) answer (slice_index_or new slot d)
  pub others : (i : ℕ) (d : Token) → i ≢ slot → slice_index_or new i d ≡ slice_index_or old i d

-- a free slot with this Pass
abbrev pub free_slot : PassToken → Token
free_slot pass = tokens.Free pass

-- all slots are free
abbrev pub AreFree : List Token → Type 0
AreFree slots = All (λ (t : Token). place_of t ≡ places.Free) slots
