-- The rule of the cell, and what its steps tell.
use Rattle.std.specs.Prelude.{◌≡◌, ℕ, ◌+◌, List, ◌∷◌, ◌++◌, length, Option, Some, None}
use mathlib.Core.Option.{some}
use lib.ListN.{get_elem?}
use Rattle.apf_stats.specs.declared.board.Entry.{Entry}
use Rattle.apf_stats.specs.declared.board.View.{View}
use Rattle.apf_stats.specs.Numbers.{IsBelow, AddUp}
use Rattle.apf_stats.specs.Traces.{entry, shown, NoneOf, GoesOn, AreMade}

-- what the writer's pass knows at first
abbrev pub writer : List Entry → View
writer trace = record { number = 0; readers = 0; trace = trace }

-- the writer with one reader more, and that reader, who saw as much
abbrev pub with_reader : View → View
with_reader view = record view { readers = view.readers + 1 }

abbrev pub as_reader : View → View
as_reader view = record { number = view.readers + 1; readers = 0; trace = view.trace }

-- a pass that made this step, after steps of others
abbrev pub stepped : View → Option (List ℕ) → List Entry → View
stepped view published later = record view { trace = entry view.number published ∷ (later ++ view.trace) }

-- what a pass knows is so: its number is its place among the passes, no step after its last one is its own, and the writer, the first, counts the others
pub record IsKnown (trace : List Entry) (count seat : ℕ) (view : View) : Type 0 where
  pub number_is : view.number ≡ seat
  pub newer : GoesOn trace seat view.trace
  pub counts : seat ≡ 0 → view.readers + 1 ≡ count

-- one trace explains the cell and what each pass knows: the cell says what was published last
pub record IsRuled (numbers : List ℕ) (views : List View) : Type 0 where
  pub trace : List Entry
  pub shown_is : shown trace ≡ numbers
  pub sums : AddUp numbers
  pub made : AreMade (length views) trace
  pub known : (seat : ℕ) (view : View) → get_elem? views seat ≡ some view → IsKnown trace (length views) seat view

-- a publication, after steps of others
abbrev pub Publishes : View → List ℕ → List ℕ → View → Type 0
Publishes view before after view' = (later : List Entry) × (view' ≡ stepped view (Some after) later) × NoneOf view.number later

-- a reading, after steps of others: of what was published last before it, which is no lower than what was seen, and adds up
abbrev pub Reads : View → List ℕ → List ℕ → View → Type 0
Reads view before after view' = (later : List Entry) × (view' ≡ stepped view None later) × NoneOf view.number later
    × (shown (later ++ view.trace) ≡ after) × IsBelow (shown view.trace) after × AddUp after
