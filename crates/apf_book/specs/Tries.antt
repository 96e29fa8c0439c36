-- One try of an arrival, and servings up to an exchange that was lost: what they answer, and what becomes of a history.
use Rattle.std.specs.Prelude.{◌≡◌, ◌≢◌, ◌⊎◌, ◌^◌, ◌<◌, ℕ, ◌++◌, false, List, length, count_by, Some}
use Rattle.apf_words.specs.declared.decision.Decision.TheVariants.{Cancelled}
use Rattle.apf_history.specs.declared.events.Event.{Event}
use Rattle.apf_history.specs.declared.events.Status.TheVariants as status_is
use Rattle.apf_gate.specs.declared.answers.TryEnter.TheVariants as tried
use Rattle.apf_gate.specs.declared.answers.TryGrant.TheVariants as granted
use Rattle.apf_gate.specs.declared.record.DeskRecord.{DeskRecord}
use Rattle.apf_gate.specs.declared.record.Entry.{Entry}
use Rattle.apf_gate.specs.declared.record.State.TheVariants.{InLine}
use Rattle.apf_gate.specs.DeskCalls.{TriesToEnter, TriesToGrant}
use Rattle.apf_gate.specs.Records.{told_own, service, KnowsMore}
use Rattle.apf_gate.specs.Steps.{Both}
use Rattle.apf_gate.specs.Tokens.{PassToken}
use Rattle.apf_model.specs.Outcome.{is_dispatch}
use Rattle.apf_book.specs.declared.dispatching.TryDispatch.{TryDispatch}
use Rattle.apf_book.specs.declared.dispatching.TryDispatch.TheVariants as dispatching
use Rattle.apf_book.specs.BookView.{logged}
use Rattle.apf_book.specs.Life.{LifeView}
use Rattle.apf_book.specs.LifeBook.{LifeBookView, IsLifeKept, ServesLife, then_came_all}
use Rattle.apf_book.specs.Servings.{AreServings}

-- the request of the Pass is in line and never entered. Nobody handed it over before, or its entry was tried already and an exchange was lost
pub record IsNewTo (book : LifeBookView) (token : PassToken) : Type 0 where
  pub in_line : token.pass.state ≡ InLine
  pub away : (token.pass.handed ≡ false) ⊎ ((token.pass.entered ≡ false) × (logged (service book.desk.desk token.pass.number) ≡ Some status_is.Away))

-- the Desk and the Pass, joined, found the level open by a load, and then the exchange by which the request would enter found another word
pub record LosesEntry (book : LifeBookView) (token : PassToken) (book' : LifeBookView) (token' : PassToken) : Type 0 where
  pub before : Both
  pub number : before.pass.number ≡ token.pass.number
  pub desk_more : KnowsMore book.desk.desk.knows before.desk.knows
  pub pass_more : (newer : List Entry) × (newer ++ token.pass.knows.trace ≡ before.pass.knows.trace)
  pub raced : TriesToEnter before tried.Raced (record { pass = token'.pass; desk = book'.desk.desk })

-- after an arrival of which an exchange was lost each history is as it was, and the request is new still. Nobody had told its Pass that it is cancelled
pub record RacesArrival (book : LifeBookView) (token : PassToken) (book' : LifeBookView) (token' : PassToken) : Type 0 where
  pub history : (v : LifeView) → IsLifeKept v book → IsLifeKept v book'
  pub is_new : IsNewTo book' token'
  pub not_cancelled : told_own token.pass ≢ Some Cancelled
  pub follows : token'.pass.knows.trace ≡ book'.desk.desk.knows.trace
  pub loses : LosesEntry book token book' token'

-- the Desk found room by a load, and then the exchange that would grant it found another word
pub record LosesGrant (book book' : LifeBookView) : Type 0 where
  pub request : ℕ
  pub before : DeskRecord
  pub more : KnowsMore book.desk.desk.knows before.knows
  pub raced : TriesToGrant before request granted.Raced book'.desk.desk

-- of a history that the book is of: Dispatches and Strikes alone came, this many of them Dispatches, of fewer than 2^64 events that there ever were
pub record ServesSome (v : LifeView) (count : ℕ) (b' : LifeBookView) : Type 0 where
  pub events : List Event
  pub kept : IsLifeKept (then_came_all events v) b'
  pub servings : AreServings events
  pub dispatches : length (events ++ v.history) < 2 ^ 64 → count_by is_dispatch events ≡ count

-- serving stopped as it should, or an exchange was lost
abbrev pub ServesUntil : LifeView → LifeBookView → TryDispatch → LifeBookView → Type 0
ServesUntil v b (dispatching.Stopped count) b' = ServesLife v b count b'
ServesUntil v b (dispatching.Raced count) b' = ServesSome v count b'
