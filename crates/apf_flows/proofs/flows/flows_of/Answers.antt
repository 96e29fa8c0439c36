-- One request more, and all of them.
use Rattle.std.proofs.Common.{◌≡◌, ℕ, ◌<◌, length, get_or, sym, ◌∙◌, ap, subst, arith}
use Rattle.std.specs.Ordering.{nat_cmp}
use Rattle.std.specs.BTreeMap.{get}
use Rattle.std.proofs.lemmas.List.{get_or-map, length-map}
use Rattle.apf_traces.specs.declared.request.TraceRequest.{TraceRequest}
use Rattle.apf_flows.specs.Flows.{hashes_of, firsts_of}
use Rattle.apf_flows.proofs.Firsts.{firsts_below}
use Rattle.apf_flows.proofs.Grouped.{grouped_more, all_flows}
use Rattle.apf_flows.proofs.flows.flows_of.Goals as goal

pub loop-number-preserved : goal.loop-number-preserved
loop-number-preserved c =
    let trace = c.args.trace.now in
    let n = c.loop-number.number in
    let request = c.index-trace-number.result in
    let within : n < length trace = omega arith in
    let at : request.hash ≡ get_or (hashes_of trace) n 0 =
    ap (λ (r : TraceRequest). r.hash) c.index-trace-number.is ∙ sym (get_or-map (λ (r : TraceRequest). r.hash) trace n request 0 within) in
    let len : length (hashes_of trace) ≡ length trace = length-map trace (λ (r : TraceRequest). r.hash) in
    rw c.in_ok-push.ensures.items
    (grouped_more (hashes_of trace) n c.loop-number.firsts.items c.flow_of.new.firsts.items c.loop-number.of.items (get nat_cmp c.loop-number.known)
    (get nat_cmp c.flow_of.new.known) request.hash c.in_ok-flow.flow at (omega arith) c.loop-number.invariant c.in_ok-flow.ensures)

pub returns-clause-flows : goal.returns-clause-flows
returns-clause-flows c =
    let trace = c.args.trace.now in
    let len : length (hashes_of trace) ≡ length trace = length-map trace (λ (r : TraceRequest). r.hash) in
    all_flows (hashes_of trace) c.loop-number.number c.loop-number.firsts.items c.loop-number.of.items (omega arith) c.loop-number.invariant.flows

pub returns-clause-in_order : goal.returns-clause-in_order
unfolding firsts_of
returns-clause-in_order c =
    let trace = c.args.trace.now in
    let len : length (hashes_of trace) ≡ length trace = length-map trace (λ (r : TraceRequest). r.hash) in
    let all : c.loop-number.number ≡ length (hashes_of trace) = omega arith in
    subst (λ (n : ℕ). c.loop-number.firsts.items ≡ firsts_below (hashes_of trace) n) all c.loop-number.invariant.order
