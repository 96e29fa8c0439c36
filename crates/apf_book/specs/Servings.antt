-- What becomes of the heads of the queues in turn.
use Rattle.std.specs.Prelude.{◌≡◌, ◌≢◌, ◌⊎◌, ℕ, ◌++◌, Bool, MatchBool, List, [], ◌∷◌, count_by, Option, Some, None}
use Rattle.apf_words.specs.Level.{Level}
use Rattle.apf_words.specs.declared.decision.Decision.{Decision}
use Rattle.apf_words.specs.declared.decision.Decision.TheVariants.{Cancelled}
use Rattle.apf_history.specs.declared.events.Event.{Event}
use Rattle.apf_history.specs.declared.events.Event.TheVariants.{Enter, Full, Dispatch, Strike}
use Rattle.apf_history.specs.declared.events.Status.{Status}
use Rattle.apf_history.specs.declared.events.Status.TheVariants as status_is
use Rattle.apf_model.specs.Outcome.{is_dispatch}
use Rattle.apf_queue.specs.declared.choice.Chosen.{Chosen}
use Rattle.apf_gate.specs.declared.record.Knowledge.{Knowledge}
use Rattle.apf_gate.specs.declared.record.DeskRecord.{DeskRecord}
use Rattle.apf_gate.specs.DeskSteps.{DeskLoadsDecision, DeskSubtractsWaiter}
use Rattle.apf_book.specs.declared.serving.Served.{Served}
use Rattle.apf_book.specs.declared.serving.Served.TheVariants as served
use Rattle.apf_book.specs.LedgerView.{LedgerView, NothingWaits, IsNext}
use Rattle.apf_book.specs.Moves.{LastFound}

-- what the log is to say of a head that was served
abbrev pub after_serving : Served → Option Status
after_serving served.Dispatched = Some status_is.Dispatched
after_serving served.Struck = Some status_is.Struck
after_serving served.NoRoom = Some status_is.Waits
after_serving served.Raced = Some status_is.Waits

-- with these events, the newest first, after what the log has
abbrev pub with : List Event → LedgerView → LedgerView
with events v = record v { history = events ++ v.history }

-- the Desk's last two steps, in this call, did not find the chosen head cancelled, and found a level word that it does not fit by its width
pub record HeadMisses (v : LedgerView) (known known' : Knowledge) : Type 0 where
  pub head : Chosen
  pub is_next : IsNext v head
  pub misses : LastFound known known.shape.widths head.request known'

-- where serving stops: nothing waits, or the chosen head does not fit
abbrev pub Stops : LedgerView → Knowledge → Knowledge → Type 0
Stops v known known' = NothingWaits v ⊎ HeadMisses v known known'

-- each is a Dispatch or a Strike
abbrev pub AreServings : List Event → Type 0
AreServings [] = Unit {0}
AreServings (Enter r q ∷ events) = ⊥
AreServings (Full r q ∷ events) = ⊥
AreServings (Dispatch r q ∷ events) = AreServings events
AreServings (Strike r q ∷ events) = AreServings events

-- Dispatches and Strikes alone were appended, this many of them Dispatches
pub record Serves (v v' : LedgerView) (count : ℕ) : Type 0 where
  pub events : List Event
  pub log : v' ≡ with events v
  pub servings : AreServings events
  pub dispatches : count_by is_dispatch events ≡ count

-- one load of the word of r; where that found cancelled and r waited, r leaves by a second step
abbrev pub Strikes : DeskRecord → ℕ → Bool → Type 0 → DeskRecord → Type 0
Strikes desk r struck Waits desk' = (found : Option Decision) × (between : DeskRecord) × DeskLoadsDecision r desk found between
    × MatchBool struck ((found ≡ Some Cancelled) × ((level : Level) × DeskSubtractsWaiter r between level desk')) ((desk' ≡ between) × (Waits → found ≢ Some Cancelled))
