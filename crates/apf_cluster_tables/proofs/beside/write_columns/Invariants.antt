-- The columns so far were written.
use Rattle.std.specs.Prelude.{◌-◌}
use Rattle.apf_cluster_tables.specs.Beside.{columns_beside}
use Rattle.apf_cluster_tables.proofs.Columns.{AreWritten}
use Rattle.apf_cluster_tables.proofs.beside.write_columns.Given as goal

abbrev pub invariant-loop-column : goal.invariant-loop-column
invariant-loop-column g l =
    AreWritten (g.W.Write.contents l.initial.out) (g.W.Write.contents l.out) (l.columns - l._column) l.first l.second (columns_beside l.columns l.one l.other)
