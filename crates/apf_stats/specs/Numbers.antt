-- Four numbers that only grow: entered, dispatched, struck and full.
use Rattle.std.specs.Prelude.{ℕ, ◌+◌, ◌≤◌, ◌<◌, ◌^◌, List, [], ◌∷◌, slice_index}
use Rattle.atomic_table.specs.Seated.{TableId}
use Rattle.apf_book.specs.declared.stats.Stats.{Stats}
use Rattle.apf_stats.specs.declared.board.Entry.{Entry}

-- the writer's end, as contracts see it: its cell, and all steps on it up to its own last one
pub record BoardView : Type 0 where
  pub cell : TableId
  pub trace : List Entry

-- a reader's pass: its cell, its number, and all steps on the cell up to its own last one
pub record PassView : Type 0 where
  pub cell : TableId
  pub number : ℕ
  pub trace : List Entry

-- the numbers before anything happened
abbrev pub nothing : List ℕ
nothing = 0 ∷ 0 ∷ 0 ∷ 0 ∷ []

-- the numbers that are published of the stats of a log. Who waits is the difference
abbrev pub numbers_of : Stats → List ℕ
numbers_of s = s.entered ∷ s.dispatched ∷ s.struck ∷ s.full ∷ []

-- each number is at most the later one
pub record IsBelow (older newer : List ℕ) : Type 0 where
  pub entered : slice_index older 0 ≤ slice_index newer 0
  pub dispatched : slice_index older 1 ≤ slice_index newer 1
  pub struck : slice_index older 2 ≤ slice_index newer 2
  pub full : slice_index older 3 ≤ slice_index newer 3

-- no more were dispatched and struck than entered, and each is a number of 32 bits
pub record AddUp (numbers : List ℕ) : Type 0 where
  pub sum : slice_index numbers 1 + slice_index numbers 2 ≤ slice_index numbers 0
  pub small_entered : slice_index numbers 0 < 2 ^ 32
  pub small_full : slice_index numbers 3 < 2 ^ 32
