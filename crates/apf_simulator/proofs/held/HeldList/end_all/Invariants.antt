-- Those so far are told.
use Rattle.std.proofs.Common.{List, ◌++◌, take}
use Rattle.apf_times.specs.declared.window.Arrival.{Arrival}
use Rattle.apf_traces.specs.declared.request.TraceRequest.{TraceRequest}
use Rattle.apf_stream.specs.declared.ended.Ended.{Ended}
use Rattle.apf_simulator.specs.Hearing.{AreHeld}
use Rattle.apf_simulator.proofs.held.HeldList.end_all.Given as goal

abbrev pub invariant-loop-ended : goal.invariant-loop-ended
invariant-loop-ended l = record { held : (came : List (Arrival TraceRequest)) (told : List Ended) → AreHeld came told l.fn.self → AreHeld came (told ++ take l.ended-index l.ends) l.self }
