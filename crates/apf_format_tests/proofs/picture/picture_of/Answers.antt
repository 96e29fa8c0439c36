-- The first request of each flow is one of the trace's.
use Rattle.std.proofs.Common.{◌≡◌, ◌<◌, length, get_or, arith}
use Rattle.std.proofs.lemmas.Grind.{get_or_default_zero}
use Rattle.std.proofs.lemmas.List.{length-map}
use Rattle.apf_traces.specs.declared.request.TraceRequest.{TraceRequest}
use Rattle.apf_flows.specs.Flows.{hashes_of}
use Rattle.apf_format_tests.proofs.picture.picture_of.Goals as goal

pub of-requires-clause-firsts : goal.of-requires-clause-firsts
of-requires-clause-firsts g c = λ k d within.
    let firsts = c.in_ok-flows.flows.firsts.items in
    let trace = c.args.trace.now in
    let long : length (hashes_of trace) ≡ length trace = length-map trace (λ (r : TraceRequest). r.hash) in
    let low : get_or firsts k 0 < length (hashes_of trace) = c.in_ok-flows.ensures.flows.request k within in
    let moved : get_or firsts k d ≡ get_or firsts k 0 = get_or_default_zero firsts k d within in
    omega arith
