-- Where a level's book stands whenever its lock is free, and what keeps a request from being forgotten there.
use Rattle.std.specs.Prelude.{◌≡◌, ◌⊎◌, ℕ, ◌++◌, List, None}
use Rattle.apf_words.specs.Fits.{Fits}
use Rattle.apf_words.specs.Level.{Level}
use Rattle.apf_model.specs.World.{width, FitsIn}
use Rattle.apf_gate.specs.declared.record.Shape.{Shape}
use Rattle.apf_gate.specs.declared.record.Actor.TheVariants.{OfDesk}
use Rattle.apf_gate.specs.declared.record.Entry.{Entry}
use Rattle.apf_gate.specs.declared.record.Knowledge.{Knowledge}
use Rattle.apf_gate.specs.Traces.{world_of}
use Rattle.apf_gate.specs.Steps.{SawLevel}
use Rattle.apf_gate.specs.Account.{Account, IsSound}
use Rattle.apf_gate.specs.Owing.{NoneMakesRoom, DeskLoads, EachFindsWaiters}
use Rattle.apf_book.specs.Life.{LifeView}
use Rattle.apf_book.specs.LifeBook.{LifeBookView, IsLifeKept, IsFirst, NobodyWaits}

-- who is dispatched next does not fit the level word that the Desk found by its last step
pub record FirstWaits (v : LifeView) (known : Knowledge) : Type 0 where
  pub request : ℕ
  pub queue : ℕ
  pub is_next : IsFirst v request queue
  pub before : Knowledge
  pub level : Level
  pub found : SawLevel OfDesk before level None known
  pub no_room : ¬ Fits level.seats level.limit (width known.shape.widths request)

-- nothing waits, or who is dispatched next does not fit. Closed: no search looks into it
unfoldable pub Stopping : LifeView → Knowledge → Type 0
Stopping v known = NobodyWaits v ⊎ FirstWaits v known

-- there is a history that the book is of, and by it nothing waits or who is dispatched next does not fit
pub record IsAtRest (b : LifeBookView) : Type 0 where
  pub view : LifeView
  pub kept : IsLifeKept view b
  pub stopping : Stopping view b.desk.desk.knows

-- this holds, by whichever history: a fact that a type may keep
abbrev pub IsStopped : LifeBookView → Type 0
IsStopped b = ∥ IsAtRest b ∥₁

-- in this state of the gate: who is dispatched next does not fit the level word, unless others made room after the Desk found none, and each who did found requests waiting
pub record IsRemembered (shape : Shape) (account : Account) (v : LifeView) : Type 0 where
  pub request : ℕ
  pub queue : ℕ
  pub is_next : IsFirst v request queue
  -- the steps since then, of which the Desk made none
  pub later : List Entry
  pub saw : List Entry
  pub since : later ++ saw ≡ account.trace
  pub loads : DeskLoads later
  pub no_room : NoneMakesRoom later → ¬ FitsIn shape.widths (world_of shape account.trace) request
  pub owes : EachFindsWaiters shape later saw
  -- saw is the trace as the Desk left it when it found that the request does not fit: by its last step
  pub saw_is : saw ≡ account.desk.knows.trace
  pub before : Knowledge
  pub level : Level
  pub found : SawLevel OfDesk before level None account.desk.knows
  pub found_no_room : ¬ Fits level.seats level.limit (width shape.widths request)

-- in every state of a gate whose Desk's book is at rest
abbrev pub NoRequestIsForgotten : Type 0
NoRequestIsForgotten = (shape : Shape) (account : Account) (b : LifeBookView) (rest : IsAtRest b) → IsSound shape account → account.desk ≡ b.desk.desk
    → NobodyWaits rest.view ⊎ IsRemembered shape account rest.view
