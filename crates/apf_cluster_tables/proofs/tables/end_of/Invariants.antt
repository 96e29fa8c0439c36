-- The end of the tables so far, and of the others.
use Rattle.std.proofs.Common.{◌≡◌, drop, max}
use Rattle.apf_cluster_tables.specs.Texts.{end_of}
use Rattle.apf_cluster_tables.proofs.tables.end_of.Given as goal

abbrev pub invariant-loop-table : goal.invariant-loop-table
invariant-loop-table l = max (end_of (drop l.table-index l.tables)) l.end ≡ end_of l.tables
