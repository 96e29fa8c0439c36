-- The Station is the same one, and the attempts so far are those before what is left.
use Rattle.std.proofs.Common.{◌≡◌, drop}
use Rattle.apf_gate.specs.declared.record.StationRecord.{StationRecord}
use Rattle.apf_session.specs.LifeEnds.{CancelsThese, waiting}
use Rattle.apf_session.proofs.life.session.cancel_waiting.Given as goal

abbrev pub invariant-loop-request : goal.invariant-loop-request
invariant-loop-request g l = record {
  number : l.operator.station.number ≡ l.fn.operator.station.number;
  cancels : (s : StationRecord) → CancelsThese (waiting (drop l.request-index l.requests)) l.operator.station s → CancelsThese (waiting l.requests) l.fn.operator.station s;
}
