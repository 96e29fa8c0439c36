-- Which requests are there in a stretch of a run.
use Rattle.std.specs.Prelude.{ℕ, Bool, true, ◌&&◌, ◌==◌, nat_le, Option, Some, None, is_none}
use Rattle.apf_times.specs.declared.window.Arrival.{Arrival}
use Rattle.apf_traces.specs.declared.request.TraceRequest.{TraceRequest}
use Rattle.apf_stream.specs.declared.ended.Ended.{Ended}
use Rattle.apf_simulator.specs.declared.held.Held.{Held}
use Rattle.apf_simulator.specs.declared.held.TimeWindow.{TimeWindow}

-- it is the whole run
abbrev pub is_whole : TimeWindow → Bool
is_whole w = (w.from == 0) && is_none w.to

-- no later than this, if there is an end
abbrev pub is_by : ℕ → Option ℕ → Bool
is_by time None = true
is_by time (Some to) = nat_le time to

-- a request of which this became was there at some moment of the window: it arrived by its end, and was not over before its beginning
abbrev pub is_there : TimeWindow → Arrival TraceRequest → Ended → Bool
is_there w x e = is_by x.item.arrives_at w.to && nat_le w.from e.over_at

-- it is not over, or was there
abbrev pub stays_by : TimeWindow → Arrival TraceRequest → Option Ended → Bool
stays_by w x None = true
stays_by w x (Some e) = is_there w x e

abbrev pub stays : TimeWindow → Held → Bool
stays w h = stays_by w h.came h.ended
