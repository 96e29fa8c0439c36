-- Those so far are counted.
use Rattle.std.proofs.Common.{◌≡◌, List, ◌++◌, take}
use Rattle.apf_times.specs.declared.window.Arrival.{Arrival}
use Rattle.apf_traces.specs.declared.request.TraceRequest.{TraceRequest}
use Rattle.apf_stream.specs.declared.ended.Ended.{Ended}
use Rattle.apf_rows.specs.Rows.{AreRows, HaveMet}
use Rattle.apf_simulator.proofs.counting.count_all.Given as goal

abbrev pub invariant-loop-ended : goal.invariant-loop-ended
invariant-loop-ended l = record {
  added : (told : List Ended) → AreRows told l.fn.rows → AreRows (told ++ take l.ended-index l.ends) l.rows;
  met : (came : List (Arrival TraceRequest)) → HaveMet came l.fn.rows → HaveMet came l.rows;
  flows : l.rows.flows ≡ l.fn.rows.flows;
}
