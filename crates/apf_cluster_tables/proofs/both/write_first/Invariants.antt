-- The lines of the levels so far were written.
use Rattle.std.proofs.Common.{map, take}
use Rattle.std.specs.List.{flat_map}
use Rattle.std.specs.Io.KnownBytes.{Appends}
use Rattle.apf_objects.specs.Levels.{LevelSaid, level_view}
use Rattle.apf_cluster_tables.specs.Both.{level_line}
use Rattle.apf_cluster_tables.specs.Sides.{side_view}
use Rattle.apf_cluster_tables.proofs.both.write_first.Given as goal

abbrev pub invariant-loop-level : goal.invariant-loop-level
invariant-loop-level g l = Appends (g.W.Write.contents l.initial.out) (g.W.Write.contents l.out) (flat_map (λ (it : LevelSaid). level_line (side_view l.first) (side_view l.second) it.name) (map level_view (take l.level-index l.first.levels.now)))
