-- The objects of the places so far were written.
use Rattle.std.proofs.Common.{take}
use Rattle.std.specs.List.{flat_map}
use Rattle.std.specs.Io.KnownBytes.{Appends}
use Rattle.apf_cluster_tables.specs.Json.{flow_of}
use Rattle.apf_cluster_tables.specs.Sides.{side_view}
use Rattle.apf_cluster_tables.proofs.json.write_places.Given as goal

abbrev pub invariant-loop-place : goal.invariant-loop-place
invariant-loop-place g l = Appends (g.W.Write.contents l.initial.out) (g.W.Write.contents l.out) (flat_map (flow_of (side_view l.side).levels (side_view l.side).tables) (take l.place-index l.places))
