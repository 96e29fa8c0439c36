-- Whether those who were settled, or charged more while they ran, held their seats.
use Rattle.std.specs.Prelude.{◌≡◌, ◌⊎◌, ℕ, List, [], ◌∷◌, slice_get, Some}
use Rattle.apf_history.specs.declared.events.Event.{Event}
use Rattle.apf_history.specs.declared.events.LogEntry.{LogEntry}
use Rattle.apf_history.specs.declared.events.LogEntry.TheVariants.{Happens, Spends, Settles}
use Rattle.apf_model.specs.Charged.{events}
use Rattle.apf_gate.specs.Tokens.{PassToken, StationToken}
use Rattle.apf_book.specs.Life.{LifeView}
use Rattle.apf_book.specs.LifeBook.{IsLifeKept, then_came_all}
use Rattle.apf_book.specs.Servings.{AreServings}
use Rattle.apf_line.specs.declared.report.Report.{Report}
use Rattle.apf_line.specs.Reports.{EndedAs}
use Rattle.apf_line.specs.Seats.{HeldSeats, AreSeated}
use Rattle.apf_local.specs.declared.answer.Place.TheVariants as places
use Rattle.apf_local.specs.Owners.{IsSlotOf}
use Rattle.apf_local.specs.Levels.{LocalView, id_of}

-- the request executes still
pub record IsExecuting (l : LocalView) (r : ℕ) : Type 0 where
  pub slot : ℕ
  pub token : PassToken
  pub runs : slice_get l.places slot ≡ Some places.Runs
  pub holds : slice_get l.owner.passes slot ≡ Some token
  pub is : token.pass.number ≡ r

-- the request held its seats when all of this history had happened, by the steps that the level's Desk knows
abbrev pub HeldIn : LocalView → List Event → ℕ → Type 0
HeldIn l h r = HeldSeats l.owner.gate.shape l.owner.book.desk.desk.knows.trace h r

-- each request that was settled held its seats then or later, and so did one that was charged more while it ran, or it executes still
abbrev pub AreSeatedIn : LocalView → List LogEntry → Type 0
AreSeatedIn l [] = Unit {0}
AreSeatedIn l (Happens e ∷ log) = AreSeatedIn l log
AreSeatedIn l (Spends r q old new ∷ log) = (HeldIn l (events log) r ⊎ IsExecuting l r) × AreSeatedIn l log
AreSeatedIn l (Settles r q old new ∷ log) = HeldIn l (events log) r × AreSeatedIn l log

-- that stays so of each log that the level was of
abbrev pub KeepsSeats : LocalView → LocalView → Type 0
KeepsSeats l l' = (v : LifeView) → IsLifeKept v l.owner.book → AreSeatedIn l v.log → AreSeatedIn l' v.log

-- the slot's request held its seats when all had happened that each history of the level had before this call
abbrev pub HeldSlot : ℕ → LocalView → LocalView → Type 0
HeldSlot slot l l' = IsSlotOf l.owner.passes slot (λ (t : PassToken). (v : LifeView) → IsLifeKept v l.owner.book → HeldIn l' v.history t.pass.number)

-- What a level told when it ended: Dispatches and Strikes alone came to this history, and it ended by that. Each request of its log that was settled, or charged more while it ran, held its seats then or later, by the steps that the Desk knew at the end
pub record EndsSeated (l : LocalView) (v : LifeView) (r : Report) : Type 0 where
  pub passes : List PassToken
  pub stations : List StationToken
  pub events : List Event
  pub servings : AreServings events
  pub ended : EndedAs (id_of l) (then_came_all events v) passes stations r
  pub seated : AreSeated l.owner.gate.shape ended.desk.knows.trace (then_came_all events v).log
