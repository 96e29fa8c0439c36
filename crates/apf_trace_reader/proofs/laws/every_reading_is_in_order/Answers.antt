-- What was handed out and what is held are as many as the lines that were taken.
use Rattle.std.proofs.Common.{◌≡◌, ℕ, suc, ◌+◌, List, [], ◌∷◌, ◌++◌, length, map, refl, ap, arith}
use Rattle.std.proofs.lemmas.List.{length-append, length-map}
use Rattle.std.proofs.lemmas.List.Sorted.{length_permutation}
use Rattle.apf_times.specs.WindowRuns.{all_came, all_out}
use Rattle.apf_traces.specs.TraceValue.{entry}
use Rattle.apf_traces.specs.declared.request.TraceRequest.{TraceRequest}
use Rattle.apf_trace_reader.specs.Reading.{arrivals_from, ended}
use Rattle.apf_trace_reader.proofs.Judging.{as_many}
use Rattle.apf_trace_reader.proofs.laws.every_reading_is_in_order.Goals as goal

arrivals_many : (number : ℕ) (requests : List TraceRequest) → length (arrivals_from number requests) ≡ length requests
arrivals_many number [] = refl
arrivals_many number (request ∷ requests) = ap suc (arrivals_many (number + 1) requests)

pub returns-clause-count : goal.returns-clause-count
returns-clause-count c bytes told left v h =
    let same = c.every_window_is_in_order.ensures.same v.window.size h.calls v.window h.run in
    let many = length_permutation (all_came h.calls) (all_out h.calls ++ v.window.held) same in
    let split = length-append (all_out h.calls) v.window.held in
    let out = ap length h.out in
    let came = ap length h.came in
    let arrived = arrivals_many 1 h.requests in
    let judged = as_many v.window.size [] 1 (map ended h.lines) (map entry h.requests) h.judged in
    let lines = length-map h.lines ended in
    let entries = length-map h.requests entry in
    let number = h.number in
    omega (arith, many, split, out, came, arrived, judged, lines, entries, number)
