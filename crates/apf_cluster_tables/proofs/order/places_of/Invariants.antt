-- The places of the tables so far, and those of the other tables are to come.
use Rattle.std.proofs.Common.{◌≡◌, ◌++◌, drop}
use Rattle.apf_cluster_tables.specs.Flows.{all_from}
use Rattle.apf_cluster_tables.proofs.order.places_of.Given as goal

abbrev pub invariant-loop-level : goal.invariant-loop-level
invariant-loop-level l = l.places.items ++ all_from l.level (drop l.level l.tables) ≡ all_from 0 l.tables
