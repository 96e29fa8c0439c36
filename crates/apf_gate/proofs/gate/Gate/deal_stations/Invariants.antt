use Rattle.std.proofs.Common.{◌≡◌, []}
use Rattle.apf_gate.specs.Rule.{opening_stations}
use Rattle.apf_gate.specs.Opens.{new_stations}
use Rattle.apf_gate.proofs.gate.Gate.deal_stations.Given as goal

abbrev pub invariant-loop-k : goal.invariant-loop-k
invariant-loop-k g l = record {
  table : l.seat.table_id ≡ l.self.table;
  view : l.seat.me ≡ (opening_stations l.self.shape l._k, []);
  stations : l.stations.items ≡ new_stations l.self l._k;
}
