-- The marks so far were written.
use Rattle.std.specs.List.{flat_map, range_with_len}
use Rattle.std.specs.Io.KnownBytes.{Appends}
use Rattle.apf_cluster_picture.specs.Columns.{mark_at}
use Rattle.apf_cluster_picture.proofs.columns.write_all_marks.Given as goal

abbrev pub invariant-loop-bin : goal.invariant-loop-bin
invariant-loop-bin g l = Appends (g.W.Write.contents l.initial.out) (g.W.Write.contents l.out) (flat_map (mark_at l.plot l.bins) (range_with_len 0 l.bin))
