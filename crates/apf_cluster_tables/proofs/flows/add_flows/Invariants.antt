-- The flows of the lines so far stand behind those before, and those of the other lines are to come.
use Rattle.std.proofs.Common.{◌≡◌, ◌++◌, drop, map}
use Rattle.apf_cluster_tables.specs.Pairs.{flow_view, flows_from}
use Rattle.apf_cluster_tables.proofs.flows.add_flows.Given as goal

abbrev pub invariant-loop-flow : goal.invariant-loop-flow
invariant-loop-flow l = map flow_view l.flows.items ++ flows_from l.name l.level l.flow (drop l.flow l.lines) ≡ map flow_view l.initial.flows.items ++ flows_from l.name l.level 0 l.lines
