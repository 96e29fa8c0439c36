-- The columns so far were written.
use Rattle.std.specs.Io.KnownBytes.{Appends}
use Rattle.apf_cluster_picture.specs.Columns.{columns_text}
use Rattle.apf_cluster_picture.proofs.columns.write_columns.Given as goal

abbrev pub invariant-loop-bin : goal.invariant-loop-bin
invariant-loop-bin g l = Appends (g.W.Write.contents l.initial.out) (g.W.Write.contents l.out) (columns_text l.plot l.bins l.first l.bin)
