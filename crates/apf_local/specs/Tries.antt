-- What the other calls of a level answer.
use Rattle.std.specs.Prelude.{◌≡◌, ◌≢◌, ◌⊎◌, ℕ, ◌++◌, List, slice_get, Option, Some, None}
use Rattle.apf_words.specs.declared.decision.Decision.{Decision}
use Rattle.apf_words.specs.declared.decision.Decision.TheVariants.{Execute, QueueFull, Closed, Cancelled, ConcurrencyLimit}
use Rattle.apf_gate.specs.declared.record.Entry.{Entry}
use Rattle.apf_gate.specs.declared.record.PassRecord.{PassRecord}
use Rattle.apf_gate.specs.PassSteps.{PassLoadsDecision}
use Rattle.apf_gate.specs.Records.{told_own}
use Rattle.apf_gate.specs.Slots.{next_of}
use Rattle.apf_gate.specs.Tokens.{PassToken}
use Rattle.apf_line.specs.declared.attempts.Tried.{Tried}
use Rattle.apf_line.specs.declared.attempts.Tried.TheVariants as tries
use Rattle.apf_local.specs.declared.answer.Ask.{Ask}
use Rattle.apf_local.specs.declared.answer.Answer.{Answer}
use Rattle.apf_local.specs.declared.answer.Answer.TheVariants as answers
use Rattle.apf_local.specs.declared.answer.Place.{Place}
use Rattle.apf_local.specs.declared.answer.Place.TheVariants as places
use Rattle.apf_local.specs.Owners.{IsBegun, IsSlotOf, IsUsedUp}
use Rattle.apf_local.specs.Levels.{LocalView, SlotMoves, IsAt}

-- a request that did not take its seats, since others wait or it does not fit, is busy
abbrev pub answer_of_try : Tried → Answer
answer_of_try tries.Run = answers.Run
answer_of_try (tries.Over decision waiting) = answers.Over decision
answer_of_try tries.Blocked = answers.Busy
answer_of_try tries.Raced = answers.Busy

abbrev pub place_of_try : Tried → Place
place_of_try tries.Run = places.Runs
place_of_try (tries.Over decision waiting) = places.Free
place_of_try tries.Blocked = places.Free
place_of_try tries.Raced = places.Free

-- a free slot went on to its next request, which tried, and is where the answer says. That of a request that is busy is free
pub record Tries (ask : Ask) (answer : Answer) (place : Place) (before : PassToken) (place' : Place) (after : PassToken) : Type 0 where
  pub was_free : place ≡ places.Free
  pub number : after.pass.number ≡ next_of before.pass.number ask.width
  pub took : Tried
  pub answer_is : answer ≡ answer_of_try took
  pub place_is : place' ≡ place_of_try took
  pub is : IsBegun ask took after

-- the next request of the slot tried; or the slot is not free, or it is and its numbers are used up, and nothing was done
abbrev pub IsTry : ℕ → Ask → LocalView → Answer → LocalView → Type 0
IsTry slot ask l answers.Wrong l' = (l' ≡ l) × (slice_get l.places slot ≢ Some places.Free)
IsTry slot ask l answers.Spent l' = (l' ≡ l) × (slice_get l.places slot ≡ Some places.Free) × IsSlotOf l.owner.passes slot (IsUsedUp l.owner.gate ask.width)
IsTry slot ask l answer l' = SlotMoves slot l l' (Tries ask answer)

-- where a request is whose decision is this
abbrev pub place_by : Option Decision → Place
place_by None = places.Waits
place_by (Some Execute) = places.Runs
place_by (Some QueueFull) = places.Free
place_by (Some Closed) = places.Free
place_by (Some Cancelled) = places.Free
place_by (Some ConcurrencyLimit) = places.Free

-- the request is the same, and is where the decision says that its Pass loaded
pub record Places (place' : Place) (before after : PassToken) : Type 0 where
  pub number : after.pass.number ≡ before.pass.number
  pub is : IsAt place' after
  pub found : Option Decision
  pub says : place' ≡ place_by found
  pub heard : PassRecord
  pub hears : (newer : List Entry) × (newer ++ before.pass.knows.trace ≡ heard.knows.trace)
  pub between : PassRecord
  pub loads : PassLoadsDecision heard found between
  pub goes_on : (newer : List Entry) × (newer ++ between.knows.trace ≡ after.pass.knows.trace)
  -- who is over was told that it is cancelled
  pub over : place' ≡ places.Free → told_own after.pass ≡ Some Cancelled

-- a request that waited read its decision, and is where the answer says
pub record Waited (answer : Place) (place : Place) (before : PassToken) (place' : Place) (after : PassToken) : Type 0 where
  pub waited : place ≡ places.Waits
  pub place_is : place' ≡ answer
  pub reads : Places answer before after

-- of a slot whose request waits its decision is read; of another one nothing is done
abbrev pub IsReading : ℕ → LocalView → Place → LocalView → Type 0
IsReading slot l answer l' = SlotMoves slot l l' (Waited answer) ⊎ ((l' ≡ l) × (slice_get l.places slot ≡ Some answer) × (answer ≢ places.Waits))

-- no slot changed
pub record SlotsStay (l l' : LocalView) : Type 0 where
  pub passes : l'.owner.passes ≡ l.owner.passes
  pub places : l'.places ≡ l.places
