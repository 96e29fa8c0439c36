-- What an arrival is, and what the history got by it.
use Rattle.std.specs.Prelude.{◌≡◌, ◌≢◌, ◌⊎◌, ℕ, true, false, List, ◌∷◌, ◌++◌, map, Option, Some, None}
use Rattle.apf_words.specs.declared.decision.Decision.TheVariants as decisions
use Rattle.apf_history.specs.declared.events.Event.{Event}
use Rattle.apf_history.specs.declared.events.Event.TheVariants as events
use Rattle.apf_model.specs.History.{has_arrived}
use Rattle.apf_gate.specs.declared.record.Entry.{Entry}
use Rattle.apf_gate.specs.declared.record.PassRecord.{PassRecord}
use Rattle.apf_gate.specs.Records.{told_own}
use Rattle.apf_gate.specs.Tokens.{PassToken}
use Rattle.apf_book.specs.declared.life_event.LifeEvent.{LifeEvent}
use Rattle.apf_book.specs.Life.{LifeView, asked, then_came}
use Rattle.apf_book.specs.RecentEvents.{event_of}
use Rattle.apf_book.specs.Said.{saying, sayings}
use Rattle.apf_level.specs.declared.answers.Enqueued.{Enqueued}
use Rattle.apf_level.specs.declared.answers.Enqueued.TheVariants as enqueued
use Rattle.apf_level.specs.declared.life.answers.Begin.{Begin}
use Rattle.apf_level.specs.declared.life.answers.Begin.TheVariants as begun
use Rattle.apf_level.specs.LifeAdmission.{begun_pass}
use Rattle.apf_line.specs.Levels.{LifeId, IsHistoryOf}
use Rattle.apf_line.specs.Tries.{FoundNoSeatsSince}

-- all steps that the Pass knew of it knows of still, and of later ones
abbrev pub TraceGoesOn : PassToken → PassToken → Type 0
TraceGoesOn token token' = (later : List Entry) × (later ++ token.pass.knows.trace ≡ token'.pass.knows.trace)

-- the request's event came, and was then the newest of the level's history. That history is what the Desk's steps say in their order, among all steps at the gate up to then. Those go on from what its Pass had known, and its Pass knows of them. The request is new to the history, and asked for this hand and this cost
pub record Came (k : LifeId) (known : List Entry) (r : ℕ) (hand : List ℕ) (cost : ℕ) (event : Event) (known' : List Entry) : Type 0 where
  pub older : LifeView
  pub trace : List Entry
  pub goes_on : (later : List Entry) × (later ++ known ≡ trace)
  pub heard : (later : List Entry) × (later ++ trace ≡ known')
  pub of_level : IsHistoryOf k trace (then_came (asked older r hand cost) event)
  pub says : map saying (event ∷ older.history) ≡ sayings trace
  pub is_new : has_arrived older.history r ≡ false

-- what is told of a request that arrived under the lock, with its event: it entered a queue, or found one full; and else it has no event
abbrev pub EnqueuedAs : LifeId → List Entry → List ℕ → ℕ → PassRecord → Enqueued → Type 0
EnqueuedAs k known hand cost pass (enqueued.Entered q) = (pass.entered ≡ true) × Came k known pass.number hand cost (events.Enter pass.number q) pass.knows.trace
EnqueuedAs k known hand cost pass (enqueued.Full q) = (told_own pass ≡ Some decisions.QueueFull) × (pass.entered ≡ false) × Came k known pass.number hand cost (events.Full pass.number q) pass.knows.trace
EnqueuedAs k known hand cost pass (enqueued.Over decision) = (told_own pass ≡ Some decision) × (decision ≢ decisions.Execute) × (decision ≢ decisions.QueueFull) × (pass.entered ≡ false)

-- the answer says that a queue was full
abbrev pub SaysFull : Begin → Type 0
SaysFull (begun.Run token) = ⊥
SaysFull (begun.Over token decision) = decision ≡ decisions.QueueFull
SaysFull (begun.Waiting token) = ⊥

-- the Pass has that its request entered, or, of one that is over, that it left the queue that it had entered
abbrev pub HasEntered : Begin → Type 0
HasEntered (begun.Run token) = token.pass.entered ≡ true
HasEntered (begun.Over token decision) = (token.pass.entered ≡ true) ⊎ (token.pass.left ≡ true)
HasEntered (begun.Waiting token) = token.pass.entered ≡ true

-- the event is the request's: the Enter of one that entered, or the Full of one that is over since a queue was full
abbrev pub IsEventOf : ℕ → Begin → Event → Type 0
IsEventOf r answer (events.Enter r' q) = (r' ≡ r) × HasEntered answer
IsEventOf r answer (events.Full r' q) = (r' ≡ r) × SaysFull answer
IsEventOf r answer (events.Dispatch r' q) = ⊥
IsEventOf r answer (events.Strike r' q) = ⊥

-- what is answered where the history got no event: the request did not enter, and no queue was full
abbrev pub NeedsNoEvent : Begin → Type 0
NeedsNoEvent (begun.Run token) = token.pass.entered ≡ false
NeedsNoEvent (begun.Over token decision) = (token.pass.entered ≡ false) × (decision ≢ decisions.QueueFull)
NeedsNoEvent (begun.Waiting token) = ⊥

-- the event, if there is one, is that of a request that came to its queues, and the level's history got it, with this hand and this cost
abbrev pub LogsInLine : LifeId → List Entry → ℕ → List ℕ → ℕ → Begin → Option LifeEvent → Type 0
LogsInLine k known r hand cost answer None = NeedsNoEvent answer
LogsInLine k known r hand cost answer (Some event) = IsEventOf r answer (event_of event) × Came k known r hand cost (event_of event) (begun_pass answer).pass.knows.trace

-- the same of a request that arrived. It came to its queues only once it had tried to take its seats and found none: others waited, or it did not fit
abbrev pub Logs : LifeId → List Entry → ℕ → List ℕ → ℕ → Begin → Option LifeEvent → Type 0
Logs k known r hand cost answer None = NeedsNoEvent answer
Logs k known r hand cost answer (Some event) = IsEventOf r answer (event_of event) × Came k known r hand cost (event_of event) (begun_pass answer).pass.knows.trace
    × FoundNoSeatsSince known r (begun_pass answer).pass.knows.trace
