-- The flows of the tables so far, and those of the other tables are to come.
use Rattle.std.proofs.Common.{◌≡◌, ◌++◌, drop, map}
use Rattle.apf_cluster_tables.specs.Pairs.{all_flows, flow_view, flows_of}
use Rattle.apf_cluster_tables.specs.Sides.{side_view}
use Rattle.apf_cluster_tables.proofs.flows.flows_of.Given as goal

abbrev pub invariant-loop-level : goal.invariant-loop-level
invariant-loop-level l = map flow_view l.flows.items ++ all_flows (side_view l.side).levels l.level (drop l.level l.side.tables.now) ≡ flows_of (side_view l.side)
