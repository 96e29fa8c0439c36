use Rattle.apf_run.specs.Plans.{IsNamed}
use Rattle.apf_run.proofs.Faithful.{closed}
use Rattle.apf_run.proofs.operator.Operator.close.Goals as goal

pub invariant_of-self : goal.invariant_of-self
invariant_of-self g c =
    closed g.K.Naming.level.gate (IsNamed g.K.Plan.requests) g.K.Plan.requests c.self.inside.station c.close.new.station c.close.result c.self.invariant c.close.ensures.same.gate c.requires.said c.close.ensures.answer
