use Rattle.std.proofs.Common.{◌≡◌, [], ◌++◌, List}
use Rattle.apf_gate.specs.Rule.{Every}
use Rattle.apf_gate.specs.Tokens.{StationToken, station_gate}
use Rattle.apf_gate.specs.Ends.{stations_before}
use Rattle.apf_gate.proofs.gate.Gate.gather_stations.Given as goal

abbrev pub invariant-loop-station : goal.invariant-loop-station
invariant-loop-station g l = record {
  table : l.seat.table_id ≡ l.self.table;
  own : Every (λ t. station_gate t ≡ l.self) l.stations.items;
  view : (rest : List StationToken) × (l.stations.items ++ rest ≡ l.fn.stations.items) × (l.seat.me ≡ (stations_before rest l.fn.seat.me.0, []));
}

abbrev pub decreases-loop-station : goal.decreases-loop-station
decreases-loop-station g l = goal.left-loop-station g l
