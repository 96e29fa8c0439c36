-- The first request of each flow is one of the trace's.
use Rattle.std.proofs.Common.{◌≡◌, ◌<◌, length, get_or, sym, ap, ◌∙◌, arith}
use Rattle.std.proofs.lemmas.Grind.{get_or_default_zero}
use Rattle.std.proofs.lemmas.List.{length-map}
use Rattle.apf_traces.specs.declared.request.TraceRequest.{TraceRequest}
use Rattle.apf_flows.specs.Flows.{hashes_of}
use Rattle.apf_cli.proofs.pictures.print_picture.Goals as goal

pub of-requires-clause-firsts : goal.of-requires-clause-firsts
of-requires-clause-firsts g c = λ k d within.
    let firsts = c.in_ok-flows.flows.firsts.items in
    let grouped = c.as_slice-2.result.now in
    let drawn = c.as_slice-3.result.now in
    let same : grouped ≡ drawn = c.as_slice-2.ensures.value ∙ sym c.as_slice-3.ensures.value in
    let long : length (hashes_of grouped) ≡ length grouped = length-map grouped (λ (r : TraceRequest). r.hash) in
    let equal : length grouped ≡ length drawn = ap length same in
    let low : get_or firsts k 0 < length (hashes_of grouped) = c.in_ok-flows.ensures.flows.request k within in
    let moved : get_or firsts k d ≡ get_or firsts k 0 = get_or_default_zero firsts k d within in
    omega arith
