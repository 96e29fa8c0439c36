-- The objects of the pairs so far were written.
use Rattle.std.proofs.Common.{take}
use Rattle.std.specs.List.{flat_map}
use Rattle.std.specs.Io.KnownBytes.{Appends}
use Rattle.apf_cluster_tables.specs.Json.{pair_objects}
use Rattle.apf_cluster_tables.specs.Sides.{side_view}
use Rattle.apf_cluster_tables.proofs.json.write_pairs.Given as goal

abbrev pub invariant-loop-pair : goal.invariant-loop-pair
invariant-loop-pair g l = Appends (g.W.Write.contents l.initial.out) (g.W.Write.contents l.out) (flat_map (pair_objects (side_view l.first) (side_view l.second)) (take l.pair-index l.pairs))
