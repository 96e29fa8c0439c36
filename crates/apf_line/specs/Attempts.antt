-- One attempt of a request to take its seats, at the gate of any level. It says why the request is busy, and leaves the Pass in its place.
use Rattle.std.specs.Prelude.{◌≡◌, ◌≢◌, ◌⊎◌, ◌==◌, ◌++◌, not, Bool, true, false, List, Some, None}
use Rattle.apf_words.specs.Level.{Level}
use Rattle.apf_words.specs.declared.decision.Decision.{Decision}
use Rattle.apf_words.specs.declared.decision.Decision.TheVariants as decisions
use Rattle.apf_model.specs.declared.response.Response.{Response}
use Rattle.apf_model.specs.declared.response.Response.TheVariants.{Queue, Reject}
use Rattle.apf_gate.specs.declared.record.Entry.{Entry}
use Rattle.apf_gate.specs.declared.record.PassRecord.{PassRecord}
use Rattle.apf_gate.specs.declared.record.State.TheVariants.{Fresh, Took, Over}
use Rattle.apf_gate.specs.Records.{told_own}
use Rattle.apf_gate.specs.Tokens.{GateId, PassToken, pass_gate}
use Rattle.apf_gate.specs.declared.answers.TryTake.TheVariants as take
use Rattle.apf_gate.specs.PassSteps.{PassLoadsDecision, PassSubtractsLevel}
use Rattle.apf_gate.specs.PassCalls.{TriesToTake, Decides}
use Rattle.apf_line.specs.declared.attempts.Tried.{Tried}
use Rattle.apf_line.specs.declared.attempts.Tried.TheVariants as tries
use Rattle.apf_line.specs.Tokens.{IsOf, IsRunning, IsDone}
use Rattle.apf_line.specs.Tries.{FindsNoSeats, FoundNoSeatsSince}

-- seats were taken and execute was written
pub record TakesAndRuns (pass pass' : PassRecord) : Type 0 where
  pub read : PassRecord
  pub took : PassRecord
  pub reads : PassLoadsDecision pass None read
  pub takes : TriesToTake read take.Taken took
  pub decides : Decides took decisions.Execute decisions.Execute pass'

-- seats were taken, the decision was lost, and the seats were given back, of a word that said this
pub record TakesAndLoses (pass : PassRecord) (decision : Decision) (level : Level) (pass' : PassRecord) : Type 0 where
  pub read : PassRecord
  pub took : PassRecord
  pub lost : PassRecord
  pub reads : PassLoadsDecision pass None read
  pub takes : TriesToTake read take.Taken took
  pub decides : Decides took decisions.Execute decision lost
  pub is_lost : decision ≢ decisions.Execute
  pub gives_back : PassSubtractsLevel lost level pass'

-- the level was closed, and that was written
pub record FindsClosed (pass : PassRecord) (decision : Decision) (pass' : PassRecord) : Type 0 where
  pub read : PassRecord
  pub found : PassRecord
  pub reads : PassLoadsDecision pass None read
  pub takes : TriesToTake read take.Closed found
  pub decides : Decides found decisions.Closed decision pass'

-- there was no room on a level without queues, and that was written
pub record FindsNoRoom (pass : PassRecord) (decision : Decision) (pass' : PassRecord) : Type 0 where
  pub no_queues : pass.knows.shape.response ≡ Reject
  pub read : PassRecord
  pub found : PassRecord
  pub reads : PassLoadsDecision pass None read
  pub takes : TriesToTake read take.NoRoom found
  pub decides : Decides found decisions.ConcurrencyLimit decision pass'

-- no seats were taken: the level word changed in between, or, on a level with queues, requests wait or there is no room
pub record FindsBusy (pass pass' : PassRecord) : Type 0 where
  pub read : PassRecord
  pub reads : PassLoadsDecision pass None read
  pub takes : TriesToTake read take.Raced pass' ⊎ ((pass.knows.shape.response ≡ Queue) × (TriesToTake read take.Waiters pass' ⊎ TriesToTake read take.NoRoom pass'))

-- the Pass is of this gate and fresh
pub record IsFreshPass (gate : GateId) (token : PassToken) : Type 0 where
  pub own : pass_gate token ≡ gate
  pub fresh : token.pass.state ≡ Fresh

-- whether a level of this response has queues
abbrev pub HasQueuesIf : Bool → Response → Type 0
HasQueuesIf true response = response ≡ Queue
HasQueuesIf false response = response ≡ Reject

-- the Pass that was left is what the answer says: of a request that executes, or that is over
abbrev pub IsKeptBy : Tried → PassToken → Type 0
IsKeptBy tries.Run token = IsRunning token
IsKeptBy (tries.Over decision waiters) token = IsDone token
IsKeptBy tries.Blocked token = Unit {0}
IsKeptBy tries.Raced token = Unit {0}

-- what is answered the Pass was told, and whoever is over is not executed
abbrev pub IsAttemptedTold : Tried → PassToken → Type 0
IsAttemptedTold tries.Run token = told_own token.pass ≡ Some decisions.Execute
IsAttemptedTold (tries.Over decision waiters) token = (told_own token.pass ≡ Some decision) × (decision ≢ decisions.Execute)
IsAttemptedTold tries.Blocked token = token.pass.state ≡ Fresh
IsAttemptedTold tries.Raced token = token.pass.state ≡ Fresh

-- its steps
abbrev pub Attempts : PassRecord → Tried → PassToken → Type 0
Attempts pass tries.Run token = TakesAndRuns pass token.pass
Attempts pass (tries.Over decision waiters) token =
    ((waiters ≡ false) × PassLoadsDecision pass (Some decision) token.pass)
    ⊎ (((waiters ≡ false) × FindsClosed pass decision token.pass)
    ⊎ (((waiters ≡ false) × FindsNoRoom pass decision token.pass)
    ⊎ ((level : Level) × (waiters ≡ not (level.waiters == 0)) × TakesAndLoses pass decision level token.pass)))
Attempts pass tries.Blocked token = FindsBusy pass token.pass
Attempts pass tries.Raced token = FindsBusy pass token.pass

-- its steps after its reading: with a reading that found no decision, and left this record, they are all of its steps
abbrev pub TakesOrDecides : PassRecord → Tried → PassToken → Type 0
TakesOrDecides read answer token = (pass : PassRecord) → pass.knows.shape ≡ read.knows.shape → PassLoadsDecision pass None read → Attempts pass answer token

-- at a gate without queues it found no seats, and then decided
pub record FindsNoSeatsAndDecides (pass pass' : PassRecord) : Type 0 where
  pub no_queues : pass'.knows.shape.response ≡ Reject
  pub found : PassRecord
  pub number : pass'.number ≡ found.number
  pub finds : FindsNoSeats pass found
  pub goes_on : (newer : List Entry) × (newer ++ found.knows.trace ≡ pass'.knows.trace)

-- a request that took no seats was decided so by its own Pass, or cancelled
abbrev pub Refuses : PassRecord → Decision → PassRecord → Type 0
Refuses pass decision pass' = (decision ≡ decisions.Closed) ⊎ ((decision ≡ decisions.Cancelled) ⊎ ((decision ≡ decisions.ConcurrencyLimit) × FindsNoSeatsAndDecides pass pass'))

-- what a fresh Pass came to by its own steps
abbrev pub Takes : PassRecord → Tried → PassRecord → Type 0
Takes pass tries.Run pass' = (pass'.state ≡ Took) × (told_own pass' ≡ Some decisions.Execute)
Takes pass (tries.Over decision waiters) pass' = (pass'.state ≡ Over) × (told_own pass' ≡ Some decision) × Refuses pass decision pass'
Takes pass tries.Blocked pass' = (pass'.state ≡ Fresh) × (pass'.knows.shape.response ≡ Queue) × FindsNoSeats pass pass'
Takes pass tries.Raced pass' = TriesToTake pass take.Raced pass'

-- the answer says that the level was open
abbrev pub FoundOpen : Tried → Type 0
FoundOpen tries.Run = Unit {0}
FoundOpen (tries.Over decision waiters) = ⊥
FoundOpen tries.Blocked = Unit {0}
FoundOpen tries.Raced = Unit {0}

-- nobody enters by an attempt, nor finds a queue full; and whoever is busy is fresh
abbrev pub StaysOut : PassRecord → Tried → PassToken → Type 0
StaysOut pass tries.Run token = token.pass.entered ≡ pass.entered
StaysOut pass (tries.Over decision waiters) token = (token.pass.entered ≡ pass.entered) × (decision ≢ decisions.QueueFull)
StaysOut pass tries.Blocked token = (token.pass.state ≡ Fresh) × (token.pass.entered ≡ pass.entered)
StaysOut pass tries.Raced token = (token.pass.state ≡ Fresh) × (token.pass.entered ≡ pass.entered)

-- a request that is blocked tried to take its seats since its Pass knew of these steps, and found none. One that lost an exchange may try again
abbrev pub FoundIfBlocked : List Entry → Tried → PassToken → Type 0
FoundIfBlocked known tries.Run left = Unit {0}
FoundIfBlocked known (tries.Over decision waiters) left = Unit {0}
FoundIfBlocked known tries.Blocked left = FoundNoSeatsSince known left.pass.number left.pass.knows.trace
FoundIfBlocked known tries.Raced left = Unit {0}

-- what an attempt answers and leaves, beside its steps: the Pass of the same request, which was told what is answered. One that saw the level closed finds it closed, and nobody enters. One that is blocked found no seats
pub record AfterAttempt (token : PassToken) (answer : Tried) (left : PassToken) : Type 0 where
  pub same : IsOf token left
  pub told : IsAttemptedTold answer left
  pub stays_closed : token.pass.knows.saw_closed ≡ true → ¬ FoundOpen answer
  pub outside : StaysOut token.pass answer left
  pub found : FoundIfBlocked token.pass.knows.trace answer left
