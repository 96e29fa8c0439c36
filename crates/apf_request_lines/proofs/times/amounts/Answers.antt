-- One amount after the other, until no byte is left.
use Rattle.std.proofs.Common.{◌∙◌, length, Some, None, ap, sym, cond}
use Rattle.apf_request_lines.specs.Times.{with_amount}
use Rattle.apf_request_lines.proofs.Stepping.{at_end, at_last, no_step, one_step}
use Rattle.apf_request_lines.proofs.times.amounts.Goals as goal

pub returns-then-is_empty-clause-value : goal.returns-then-is_empty-clause-value
returns-then-is_empty-clause-value c =
    sym (at_end with_amount (length c.args.bytes.now) c.loop.counter c.loop.time c.loop.rest.now _ c.loop-test.true (sym c.is_empty.ensures ∙ c.if-is_empty.true) c.loop.invariant.value)

pub returns-in_default-clause-value : goal.returns-in_default-clause-value
returns-in_default-clause-value c =
    sym (no_step with_amount (length c.args.bytes.now) c.loop.counter c.loop.time c.loop.rest.now _ c.loop-test.true (sym c.is_empty.ensures ∙ c.if-is_empty.false) (sym c.in_default.ensures.value) c.loop.invariant.value)

pub loop-preserved : goal.loop-preserved
loop-preserved c = record {
  value = one_step with_amount (length c.args.bytes.now) c.loop.counter c.loop.time c.in-Some.more c.loop.rest.now c.in-Some.others.now _ c.loop-test.true (sym c.is_empty.ensures ∙ c.if-is_empty.false) (sym c.in-Some.ensures.value) c.loop.invariant.value;
  most = c.in-Some.ensures.most;
}

pub returns-then-is_empty-2-clause-value : goal.returns-then-is_empty-2-clause-value
returns-then-is_empty-2-clause-value c =
    sym (at_last with_amount (length c.args.bytes.now) c.loop.counter c.loop.time c.loop.rest.now _ c.loop-test.false c.loop.invariant.value
    ∙ ap (λ b. cond b (Some c.loop.time) None) (sym c.is_empty-2.ensures ∙ c.if-is_empty-2.true))

pub returns-else-is_empty-2-clause-value : goal.returns-else-is_empty-2-clause-value
returns-else-is_empty-2-clause-value c =
    sym (at_last with_amount (length c.args.bytes.now) c.loop.counter c.loop.time c.loop.rest.now _ c.loop-test.false c.loop.invariant.value
    ∙ ap (λ b. cond b (Some c.loop.time) None) (sym c.is_empty-2.ensures ∙ c.if-is_empty-2.false))
