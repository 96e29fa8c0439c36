-- No level before this one has the name.
use Rattle.std.proofs.Common.{◌≡◌, drop, map}
use Rattle.std.specs.Prelude.{bytes_eq}
use Rattle.apf_objects.specs.Levels.{LevelSaid, level_view}
use Rattle.apf_matching.specs.First.{place_from}
use Rattle.apf_cluster_tables.specs.Sides.{level_named}
use Rattle.apf_cluster_tables.proofs.side.level_named.Given as goal

abbrev pub invariant-loop-i : goal.invariant-loop-i
invariant-loop-i l =
    level_named l.name (map level_view l.levels) ≡ place_from (λ (level : LevelSaid). bytes_eq level.name l.name) l.i (map level_view (drop l.i l.levels))
