-- The places of the lines so far stand behind those before, and those of the other lines are to come.
use Rattle.std.proofs.Common.{◌≡◌, ◌++◌, drop}
use Rattle.apf_cluster_tables.specs.Flows.{places_from}
use Rattle.apf_cluster_tables.proofs.order.add_places.Given as goal

abbrev pub invariant-loop-flow : goal.invariant-loop-flow
invariant-loop-flow l = l.places.items ++ places_from l.level l.flow (drop l.flow l.lines) ≡ l.initial.places.items ++ places_from l.level 0 l.lines
