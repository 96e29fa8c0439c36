-- What an arrival is, and what the log got by it.
use Rattle.std.specs.Prelude.{◌≡◌, ◌≢◌, ℕ, ◌++◌, true, false, List, ◌∷◌, Option, Some, None}
use Rattle.apf_words.specs.declared.decision.Decision.TheVariants as decisions
use Rattle.apf_history.specs.declared.events.Event.{Event}
use Rattle.apf_history.specs.declared.events.Event.TheVariants as events
use Rattle.apf_gate.specs.declared.record.PassRecord.{PassRecord}
use Rattle.apf_gate.specs.Records.{told_own}
use Rattle.apf_book.specs.LedgerView.{IsLogOf}
use Rattle.apf_book.specs.Servings.{AreServings}
use Rattle.apf_level.specs.declared.answers.Enqueued.{Enqueued}
use Rattle.apf_level.specs.declared.answers.Enqueued.TheVariants as enqueued
use Rattle.apf_level.specs.declared.answers.Begin.{Begin}
use Rattle.apf_level.specs.declared.answers.Begin.TheVariants as begun
use Rattle.apf_level.specs.Levels.{LevelId, logged_as}
use Rattle.apf_level.specs.Admission.{begun_pass}

-- the event was appended to a log that the level may have had, and then Dispatches and Strikes alone
pub record Appended (k : LevelId) (event : Event) : Type 0 where
  pub older : List Event
  pub newer : List Event
  pub of_log : IsLogOf (logged_as k (newer ++ event ∷ older))
  pub servings : AreServings newer

-- what is told of a request that arrived under the lock, with its event: it entered a queue, or found one full; and else it has no event
abbrev pub EnqueuedAs : LevelId → PassRecord → Enqueued → Type 0
EnqueuedAs k pass (enqueued.Entered q) = (pass.entered ≡ true) × Appended k (events.Enter pass.number q)
EnqueuedAs k pass (enqueued.Full q) = (told_own pass ≡ Some decisions.QueueFull) × Appended k (events.Full pass.number q)
EnqueuedAs k pass (enqueued.Over decision) = (told_own pass ≡ Some decision) × (decision ≢ decisions.Execute) × (decision ≢ decisions.QueueFull) × (pass.entered ≡ false)

-- the answer says that a queue was full
abbrev pub SaysFull : Begin → Type 0
SaysFull (begun.Run token) = ⊥
SaysFull (begun.Over token decision) = decision ≡ decisions.QueueFull
SaysFull (begun.Waiting token) = ⊥

-- the event is the request's: the Enter of one that entered, or the Full of one that is over since a queue was full
abbrev pub IsEventOf : ℕ → Begin → Event → Type 0
IsEventOf r answer (events.Enter r' q) = (r' ≡ r) × ((begun_pass answer).pass.entered ≡ true)
IsEventOf r answer (events.Full r' q) = (r' ≡ r) × SaysFull answer
IsEventOf r answer (events.Dispatch r' q) = ⊥
IsEventOf r answer (events.Strike r' q) = ⊥

-- what is answered where the log got no event: the request did not enter, and no queue was full
abbrev pub NeedsNoEvent : Begin → Type 0
NeedsNoEvent (begun.Run token) = token.pass.entered ≡ false
NeedsNoEvent (begun.Over token decision) = (token.pass.entered ≡ false) × (decision ≢ decisions.QueueFull)
NeedsNoEvent (begun.Waiting token) = ⊥

-- the event, if there is one, is the request's, and a log that the level may have had got it
abbrev pub Logs : LevelId → ℕ → Begin → Option Event → Type 0
Logs k r answer None = NeedsNoEvent answer
Logs k r answer (Some event) = IsEventOf r answer event × Appended k event
