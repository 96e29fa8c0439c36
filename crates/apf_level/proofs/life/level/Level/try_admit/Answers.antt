use Rattle.std.proofs.Common.{rules, subst}
use Rattle.apf_line.specs.declared.attempts.Tried.{Tried}
use Rattle.apf_level.specs.declared.life.answers.TryAdmit.TheVariants as tried
use Rattle.apf_line.specs.Attempts.{Attempts}
use Rattle.apf_line.specs.Tokens.{Arriving}
use Rattle.apf_level.specs.LifeAdmission.{TriesToAdmit}
use Rattle.apf_level.proofs.LifeAsks.{asked_more}
use Rattle.apf_level.proofs.life.level.Level.try_admit.Goals as goal

pub returns-in-Over-clause-steps : goal.returns-in-Over-clause-steps
returns-in-Over-clause-steps g c = subst (λ (a : Arriving). TriesToAdmit a.token.pass (tried.Over c.attempt-tried.new.pass c.in-Over.decision c.in-Over.waiting)) c.pass.view_is
    (subst (λ (t : Tried). Attempts c.pass.inside.pass.pass t c.attempt-tried.new.pass) c.in-Over.is c.attempt-tried.ensures.steps)

pub invariant_of-result-in-Blocked : goal.invariant_of-result-in-Blocked
invariant_of-result-in-Blocked g c = record {
  fresh = search rules;
  some_cost = c.pass.invariant.some_cost;
  low_cost = c.pass.invariant.low_cost;
  asked = asked_more c.pass.inside.pass.pass.knows c.attempt-tried.new.pass.pass.knows c.pass.inside.pass.pass.number c.attempt-tried.new.pass.pass.number (record { hash = c.pass.inside.hash; cost = c.pass.inside.cost }) c.attempt-tried.ensures.more c.attempt-tried.ensures.after.same.number c.pass.invariant.asked;
}
