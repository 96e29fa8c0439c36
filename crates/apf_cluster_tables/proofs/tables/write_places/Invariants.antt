-- The lines of the places so far were written.
use Rattle.std.proofs.Common.{map, take}
use Rattle.std.specs.List.{flat_map}
use Rattle.std.specs.Io.KnownBytes.{Appends}
use Rattle.apf_objects.specs.Levels.{level_view}
use Rattle.apf_cluster_tables.specs.Texts.{flow_at}
use Rattle.apf_cluster_tables.proofs.tables.write_places.Given as goal

abbrev pub invariant-loop-place : goal.invariant-loop-place
invariant-loop-place g l = Appends (g.W.Write.contents l.initial.out) (g.W.Write.contents l.out) (flat_map (flow_at (map level_view l.levels) l.tables) (take l.place-index l.places))
