-- One of two clusters that stand side by side: its levels, and what their requests came to.
use Rattle.std.specs.Prelude.{ℕ, List, map, bytes_eq, Option}
use Rattle.apf_objects.specs.Levels.{LevelSaid, level_view}
use Rattle.apf_objects.specs.Rules.{Text}
use Rattle.apf_matching.specs.First.{place_from}
use Rattle.apf_cluster_tables.specs.declared.level_table.LevelTable.{LevelTable}
use Rattle.apf_cluster_tables.specs.declared.side.Side.{Side}

-- the place of the level of this name
abbrev pub level_named : Text → List LevelSaid → Option ℕ
level_named name levels = place_from (λ (l : LevelSaid). bytes_eq l.name name) 0 levels

-- a cluster
pub record SideSaid : Type 0 where
  pub levels : List LevelSaid
  pub tables : List LevelTable

-- what the code holds
abbrev pub side_view : Side → SideSaid
side_view side = record { levels = map level_view side.levels.now; tables = side.tables.now }
