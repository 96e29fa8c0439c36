-- The operators so far have the Stations that are gone, in their order, and each Station that is left is the level's.
use Rattle.std.proofs.Common.{◌≡◌, ◌++◌, All}
use Rattle.std.specs.Vec.Iter.{into_iter_items}
use Rattle.apf_gate.specs.Tokens.{station_gate}
use Rattle.apf_session.proofs.life.session.operators_of.Given as goal

abbrev pub invariant-loop-station : goal.invariant-loop-station
invariant-loop-station g l =
    record {
      all : l.operators.items ++ into_iter_items l.station-iterator ≡ l.fn.stations.items;
      own : All (λ t. station_gate t ≡ g.K.Naming.level.gate) (into_iter_items l.station-iterator);
    }
