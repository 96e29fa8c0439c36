-- The Stations are those of the operators that are gone, each of the level.
use Rattle.std.proofs.Common.{◌≡◌, ◌++◌, All}
use Rattle.std.specs.Vec.Iter.{into_iter_items}
use Rattle.apf_gate.specs.Tokens.{station_gate}
use Rattle.apf_session.proofs.life.session.stations_of.Given as goal

abbrev pub invariant-loop-operator : goal.invariant-loop-operator
invariant-loop-operator g l =
    record {
      next : (goal.iterator-loop-operator g).can_next l.operator-iterator;
      ends : (goal.iterator-loop-operator g).is_finite l.operator-iterator;
      same : l.stations.items ++ into_iter_items l.operator-iterator ≡ l.fn.operators.items;
      own : All (λ t. station_gate t ≡ g.K.Naming.level.gate) l.stations.items;
    }
