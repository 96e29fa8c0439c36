use Rattle.std.proofs.Common.{◌≡◌, []}
use Rattle.apf_gate.specs.Rule.{opening_records}
use Rattle.apf_gate.specs.Opens.{new_passes}
use Rattle.apf_gate.proofs.gate.Gate.deal_passes.Given as goal

abbrev pub invariant-loop-r : goal.invariant-loop-r
invariant-loop-r g l = record {
  table : l.seat.table_id ≡ l.self.table;
  view : l.seat.me ≡ (opening_records l.self.shape l.r, []);
  passes : l.passes.items ≡ new_passes l.self l.r;
}
