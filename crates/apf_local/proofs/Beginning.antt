-- A history in which nothing happened yet.
use Rattle.std.proofs.Common.{ℕ, ◌≤◌, inl, inr, List, [], length, refl, arith}
use Rattle.std.proofs.lemmas.Bool.{cases_lt}
use Rattle.std.proofs.lemmas.List.{get_or_past}
use Rattle.std.specs.Prelude.{Result, Ok, Err, IfOk}
use Rattle.apf_model.specs.World.{width}
use Rattle.apf_model.specs.Schedule.{AreWidths}
use Rattle.apf_gate.specs.declared.record.Shape.{Shape}
use Rattle.apf_gate.specs.Gauges.{IsShape}
use Rattle.apf_book.specs.Life.{LifeView, IsOpening}
use Rattle.apf_line.specs.Laws.{HasHistories, LevelHistories}

-- of a gate of this shape
abbrev pub beginning : Shape → ℕ → ℕ → LifeView
beginning shape many limit = record { history = []; log = []; costs = shape.widths; hands = λ r. []; queues = many; limit = limit }

low : (widths : List ℕ) → AreWidths widths → (r : ℕ) → width widths r ≤ 20000
low widths are r = elim (cases_lt r (length widths)) [
  | inl l ↦ (are r l).1
  | inr past ↦ (let none = get_or_past widths r 0 past in omega arith)
]

pub is_beginning : (shape : Shape) (many limit : ℕ) → IsShape shape → IsOpening (beginning shape many limit) many limit
is_beginning shape many limit is = record {
  nothing = refl;
  no_log = refl;
  queues_are = refl;
  limit_is = refl;
  low = λ r. (let l = low shape.widths is.widths r in omega arith);
  few = let k = is.few_numbers in omega arith;
}

-- the laws of a level's books, opened
pub opened : LevelHistories → HasHistories
unfolding LevelHistories
opened laws = laws

-- what follows of each good result
pub of_each : {A E : Type 0} (P Q : A → Type 0) → ((a : A) → P a → Q a) → (r : Result A E) → IfOk r P → IfOk r Q
of_each P Q then (Ok a) is = then a is
of_each P Q then (Err e) is = tt
