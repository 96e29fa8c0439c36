-- The lines of the levels so far were written.
use Rattle.std.proofs.Common.{map}
use Rattle.std.specs.List.{flat_map, range_with_len}
use Rattle.std.specs.Io.KnownBytes.{Appends}
use Rattle.apf_objects.specs.Levels.{level_view}
use Rattle.apf_cluster_tables.specs.Texts.{line_at}
use Rattle.apf_cluster_tables.proofs.tables.write_levels.Given as goal

abbrev pub invariant-loop-place : goal.invariant-loop-place
invariant-loop-place g l = Appends (g.W.Write.contents l.initial.out) (g.W.Write.contents l.out) (flat_map (line_at l.end (map level_view l.levels) l.tables) (range_with_len 0 l.place))
