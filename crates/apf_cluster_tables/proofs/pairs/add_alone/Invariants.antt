-- The pairs of the flows so far stand behind those before, and those of the other flows are to come.
use Rattle.std.proofs.Common.{◌≡◌, ◌++◌, drop, map}
use Rattle.apf_cluster_tables.specs.Found.{said}
use Rattle.apf_cluster_tables.specs.Pairs.{alone_from, flow_view}
use Rattle.apf_cluster_tables.proofs.pairs.add_alone.Given as goal

abbrev pub invariant-loop-place : goal.invariant-loop-place
invariant-loop-place l = l.pairs.items ++ alone_from (said l.own) (said l.others) l.place (map flow_view (drop l.place l.own.flows.now)) ≡ l.initial.pairs.items ++ alone_from (said l.own) (said l.others) 0 (said l.own)
