-- The flows that waited or were turned away, in the order in which they are told.
use Rattle.std.specs.Prelude.{ℕ, suc, ◌+◌, ◌-◌, ◌^◌, min, Bool, ◌&&◌, ◌||◌, ◌==◌, nat_lt, List, [], ◌∷◌, ◌++◌, if◌then◌else◌}
use Rattle.std.specs.List.Sorted.{IsPermutation, IsSortedBy}
use Rattle.apf_rows.specs.declared.sums.Sums.{Sums}
use Rattle.apf_rows.specs.declared.table.Line.{Line}
use Rattle.apf_cluster_tables.specs.declared.level_table.LevelTable.{LevelTable}
use Rattle.apf_cluster_tables.specs.declared.order.FlowPlace.{FlowPlace}

-- how many requests were rejected or gave up
abbrev pub lost : Sums → ℕ
lost s = min (s.rejected + s.cancelled) (2 ^ 64 - 1)

-- a request waited, was rejected or gave up
abbrev pub is_told : Sums → Bool
is_told s = nat_lt 0 s.waited || nat_lt 0 s.rejected || nat_lt 0 s.cancelled

-- the place of a flow: the longer it waited, and the more of it was lost, the less
abbrev pub place_of : Sums → (level flow : ℕ) → FlowPlace
place_of s level flow = record { haste = 2 ^ 64 - 1 - s.longest; luck = 2 ^ 64 - 1 - lost s; level = level; flow = flow }

-- the places of the flows of a level that are told, of which the first has this number
abbrev pub places_from : (level flow : ℕ) → List Line → List FlowPlace
places_from level flow [] = []
places_from level flow (l ∷ lines) =
    (if is_told l.figures.sums then place_of l.figures.sums level flow ∷ [] else []) ++ places_from level (suc flow) lines

-- the places of the flows of all levels, of which the first has this number
abbrev pub all_from : ℕ → List LevelTable → List FlowPlace
all_from level [] = []
all_from level (t ∷ tables) = places_from level 0 t.table.lines.items ++ all_from (suc level) tables

abbrev pub before_of_level : FlowPlace → FlowPlace → Bool
before_of_level a b = nat_lt a.level b.level || ((a.level == b.level) && nat_lt a.flow b.flow)

abbrev pub before_by_loss : FlowPlace → FlowPlace → Bool
before_by_loss a b = nat_lt a.luck b.luck || ((a.luck == b.luck) && before_of_level a b)

-- who waited longer comes first, then who lost more, then by the levels and the flows
abbrev pub comes_before : FlowPlace → FlowPlace → Bool
comes_before a b = nat_lt a.haste b.haste || ((a.haste == b.haste) && before_by_loss a b)

-- just the flows that waited or were turned away, in their order
pub record AreInOrder (tables : List LevelTable) (places : List FlowPlace) : Type 0 where
  pub all : IsPermutation (all_from 0 tables) places
  pub sorted : IsSortedBy comes_before places
