-- The columns so far were written.
use Rattle.std.specs.Io.KnownBytes.{Appends}
use Rattle.apf_cluster_tables.specs.Both.{absent}
use Rattle.apf_cluster_tables.proofs.both.write_absent.Given as goal

abbrev pub invariant-loop-column : goal.invariant-loop-column
invariant-loop-column g l = Appends (g.W.Write.contents l.initial.out) (g.W.Write.contents l.out) (absent l._column)
