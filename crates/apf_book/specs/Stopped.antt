-- Where a book stands once it dispatched as far as it can, and what keeps a request from being forgotten there.
use Rattle.std.specs.Prelude.{◌≡◌, ◌⊎◌, ℕ, zero, suc, ◌++◌, List, Option, None}
use Rattle.apf_words.specs.Fits.{Fits}
use Rattle.apf_words.specs.Level.{Level}
use Rattle.apf_words.specs.declared.decision.Decision.{Decision}
use Rattle.apf_model.specs.World.{width, FitsIn}
use Rattle.apf_queue.specs.declared.choice.Chosen.{Chosen}
use Rattle.apf_gate.specs.declared.record.Shape.{Shape}
use Rattle.apf_gate.specs.declared.record.Actor.TheVariants.{OfDesk}
use Rattle.apf_gate.specs.declared.record.Entry.{Entry}
use Rattle.apf_gate.specs.declared.record.Knowledge.{Knowledge}
use Rattle.apf_gate.specs.Traces.{world_of}
use Rattle.apf_gate.specs.Steps.{SawLevel, SawDecision}
use Rattle.apf_gate.specs.Account.{Account, IsSound}
use Rattle.apf_gate.specs.Owing.{NoneMakesRoom, DeskLoads, EachFindsWaiters}
use Rattle.apf_book.specs.LedgerView.{LedgerView, NothingWaits, IsNext}
use Rattle.apf_book.specs.BookView.{IsKept}

-- since this was known the Desk made this many steps, each a load of a decision word
abbrev pub LoadedDecisions : ℕ → Knowledge → Knowledge → Type 0
LoadedDecisions zero known known' = known' ≡ known
LoadedDecisions (suc n) known known' = (between : Knowledge) × LoadedDecisions n known between × ((r : ℕ) × ((found : Option Decision) × SawDecision OfDesk between r found found None known'))

-- the chosen head does not fit the level word that the Desk found last: after that it loaded decision words alone
pub record HeadWaits (v : LedgerView) (known : Knowledge) : Type 0 where
  pub head : Chosen
  pub is_next : IsNext v head
  pub before : Knowledge
  pub level : Level
  pub last : Knowledge
  pub found : SawLevel OfDesk before level None last
  pub no_room : ¬ Fits level.seats level.limit (width known.shape.widths head.request)
  pub loads : ℕ
  pub since : LoadedDecisions loads last known

-- nothing waits, or the chosen head does not fit. Closed: no search looks into it
unfoldable pub Stopping : LedgerView → Knowledge → Type 0
Stopping v known = NothingWaits v ⊎ HeadWaits v known

-- this holds, by whichever proof: a fact that a type may keep
abbrev pub IsStopped : LedgerView → Knowledge → Type 0
IsStopped v known = ∥ Stopping v known ∥₁

-- in this state of the gate: the chosen head does not fit the level word, unless others made room after the Desk found none, and each who did found requests waiting
pub record IsRemembered (shape : Shape) (account : Account) (v : LedgerView) : Type 0 where
  pub head : Chosen
  pub is_next : IsNext v head
  -- the steps since then, of which the Desk's are loads
  pub later : List Entry
  pub saw : List Entry
  pub since : later ++ saw ≡ account.trace
  pub loads : DeskLoads later
  pub no_room : NoneMakesRoom later → ¬ FitsIn shape.widths (world_of shape account.trace) head.request
  pub owes : EachFindsWaiters shape later saw
  -- saw is the trace as the Desk left it when it found that the head does not fit; since then it loaded decision words alone
  pub before : Knowledge
  pub level : Level
  pub last : Knowledge
  pub found : SawLevel OfDesk before level None last
  pub found_no_room : ¬ Fits level.seats level.limit (width shape.widths head.request)
  pub saw_is : saw ≡ last.trace
  pub count : ℕ
  pub decisions_alone : LoadedDecisions count last account.desk.knows

-- in every state of a gate whose Desk's book is stopped
abbrev pub NoRequestIsForgotten : Type 0
NoRequestIsForgotten = (shape : Shape) (account : Account) (v : LedgerView) → IsSound shape account → IsKept account.desk v → IsStopped v account.desk.knows
    → ∥ NothingWaits v ⊎ IsRemembered shape account v ∥₁
