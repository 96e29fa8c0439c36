-- The lanes so far were closed.
use Rattle.std.specs.List.{AllZip}
use Rattle.apf_cluster.specs.Runs.{IsClosed}
use Rattle.apf_cluster.proofs.closing.close_all.Given as goal

abbrev pub invariant-loop-level : goal.invariant-loop-level
invariant-loop-level l = AllZip (IsClosed l.end) l.yielded l.tables.items
