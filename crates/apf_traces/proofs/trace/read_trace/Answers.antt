use Rattle.std.proofs.Common.{◌≡◌, ◌∷◌, ◌++◌, [], ◌∙◌, arith, rules, lit≤}
use Rattle.apf_traces.proofs.Judged.{one_more, with_front-nil}
use Rattle.apf_traces.specs.TraceFile.{judged_line, lines_of, trace_of}
use Rattle.apf_traces.proofs.trace.read_trace.Goals as goal

pub loop-rest-init : goal.loop-rest-init
unfolding trace_of
loop-rest-init c = rw c.new-requests.ensures.items (record {
  so_far = with_front-nil _;
  few = lit≤ tt;
  count = omega (arith, c.new-requests.ensures.len);
  ranges = search rules;
  named = search rules;
  within = omega arith;
})

pub loop-rest-preserved : goal.loop-rest-preserved
unfolding judged_line
loop-rest-preserved c =
    let l = c.loop-rest in
    let first = c.first_line-first.result in
    let more : c.push.new.self.items ≡ l.requests.items ++ c.in_ok-request.request ∷ [] = search rules in
    record {
      so_far =
          one_more l.line l.requests.items c.push.new.self.items c.in_ok-request.request (record { bytes = first.line.now; is_ended = first.is_ended }) (lines_of first.rest.now) (lines_of l.rest.now) c.in_ok-request.ensures.ok more c.first_line-first.ensures.first
          ∙ l.invariant.so_far;
      few = search rules;
      count = search rules;
      ranges = search rules;
      named = search rules;
      within = search rules;
    }
