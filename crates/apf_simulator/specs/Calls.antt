-- The script of the calls of a run.
use Rattle.std.specs.Prelude.{ℕ, ◌-◌, List, [], ◌∷◌, ◌++◌, Option, Some, None, codes, decimal}
use Rattle.std.specs.List.{flat_map}
use Rattle.std.specs.Option.{option_to_list}
use Rattle.apf_words.specs.declared.decision.Decision.{Decision}
use Rattle.apf_words.specs.declared.decision.Decision.TheVariants.{Execute, QueueFull, Closed, Cancelled, ConcurrencyLimit}
use Rattle.apf_times.specs.declared.window.Arrival.{Arrival}
use Rattle.apf_traces.specs.declared.request.TraceRequest.{TraceRequest}
use Rattle.apf_stream.specs.declared.ended.Ended.{Ended}
use Rattle.apf_simulator.specs.Turns.{Turn}
use Rattle.apf_simulator.specs.declared.timeline.Call.{Call}
use Rattle.apf_simulator.specs.declared.timeline.Call.TheVariants.{Arrive, Finish, Cancel}

-- the call by which a request was over that was given no seats: it was cancelled, or rejected by its arrival
abbrev pub unserved_call : Decision → ℕ → Option Call
unserved_call Execute number = None
unserved_call QueueFull number = None
unserved_call Closed number = None
unserved_call Cancelled number = Some (Cancel number)
unserved_call ConcurrencyLimit number = None

-- the call by which a request was over, if it was by one
abbrev pub call_by : Option ℕ → Decision → ℕ → Option Call
call_by None decision number = unserved_call decision number
call_by (Some since) decision number = Some (Finish number)

-- a request's number is that of its line less one
abbrev pub end_call : Ended → List Call
end_call e = option_to_list (call_by e.since e.decision (e.hold.asked.line - 1))

-- the call of an arrival
abbrev pub arrival_call : Option (Arrival TraceRequest) → List Call
arrival_call None = []
arrival_call (Some x) = Arrive (x.place.line - 1) ∷ []

-- the calls of a turn: what was over by then, and then the arrival
abbrev pub calls_in : Turn → List Call
calls_in t = flat_map end_call t.ends ++ arrival_call t.came

-- the calls of these turns
abbrev pub calls_by : List Turn → List Call
calls_by turns = flat_map calls_in turns

-- the line of a call
abbrev pub call_text : Call → List ℕ
call_text (Arrive number) = codes "arrive " ++ decimal number ++ codes "\n"
call_text (Finish number) = codes "finish " ++ decimal number ++ codes "\n"
call_text (Cancel number) = codes "cancel " ++ decimal number ++ codes "\n"

-- the script of these calls
abbrev pub script_text : List Call → List ℕ
script_text calls = flat_map call_text calls
