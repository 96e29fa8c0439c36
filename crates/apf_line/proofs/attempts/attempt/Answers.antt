use Rattle.std.proofs.Common.{rules, sym, ap}
use Rattle.apf_gate.specs.Tokens.{GateId}
use Rattle.apf_line.proofs.Knowing.{more_then, blocked_more}
use Rattle.apf_line.proofs.attempts.attempt.Goals as goal

pub returns-clause-steps : goal.returns-clause-steps
returns-clause-steps c = c.take.ensures.steps c.args.pass.now.pass (ap (λ (x : GateId). x.shape) (sym c.in_default.ensures.same.gate)) c.in_default.ensures.answer

pub returns-clause-more : goal.returns-clause-more
returns-clause-more c = more_then c.args.pass.now.pass.knows _ _ c.in_default.ensures.same.more c.take.ensures.more

pub returns-clause-after : goal.returns-clause-after
returns-clause-after c = record {
  same = search rules;
  told = search rules;
  stays_closed = search rules;
  outside = search rules;
  found = blocked_more c.args.pass.now.pass.knows _ c.take.result c.take.new.pass c.in_default.ensures.same.more c.take.ensures.after.found;
}
