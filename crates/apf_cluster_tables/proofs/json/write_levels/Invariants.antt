-- The objects of the levels so far were written.
use Rattle.std.specs.List.{flat_map, range_with_len}
use Rattle.std.specs.Io.KnownBytes.{Appends}
use Rattle.apf_cluster_tables.specs.Json.{level_at}
use Rattle.apf_cluster_tables.specs.Sides.{side_view}
use Rattle.apf_cluster_tables.proofs.json.write_levels.Given as goal

abbrev pub invariant-loop-place : goal.invariant-loop-place
invariant-loop-place g l = Appends (g.W.Write.contents l.initial.out) (g.W.Write.contents l.out) (flat_map (level_at l.cluster (side_view l.side).levels (side_view l.side).tables) (range_with_len 0 l.place))
