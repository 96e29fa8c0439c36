-- The rest is too long by what was dropped of it, or is kept.
use Rattle.std.proofs.Common.{◌≡◌, ℕ, List, true, false, Err, sym, ◌∙◌, subst, rules}
use Rattle.apf_traces.specs.TraceFile.{judged_within}
use Rattle.apf_trace_reader.specs.Timely.{most_lines}
use Rattle.apf_trace_reader.proofs.Ends.{dropped_long, kept_rest}
use Rattle.apf_trace_reader.proofs.reader.unended_fault.Goals as goal

pub returns-then-is_skipped : goal.returns-then-is_skipped
returns-then-is_skipped c = λ other rest u.
    let skipped : c.args.lines.now.is_skipped ≡ true = search (c.is_skipped.ensures, c.if-is_skipped.true, rules) in
    c.too_long.ensures.fault (record { bytes = rest; is_ended = false }) (dropped_long c.args.lines.now rest skipped c.requires u)

pub returns : goal.returns
returns c = λ other rest u.
    let kept : c.args.lines.now.is_skipped ≡ false = search (c.is_skipped.ensures, c.if-is_skipped.false, rules) in
    let same : c.kept.result.now ≡ rest = c.kept.ensures ∙ sym (kept_rest c.args.lines.now rest kept u) in
    subst (λ (bytes : List ℕ). judged_within most_lines c.args.number (record { bytes = bytes; is_ended = false }) ≡ Err c.rest_fault.result) same (c.rest_fault.ensures other)
