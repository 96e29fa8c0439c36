use Rattle.apf_gate.specs.declared.answers.Cancel.TheVariants.{Is}
use Rattle.apf_run.specs.Plans.{IsNamed}
use Rattle.apf_run.proofs.Faithful.{tried}
use Rattle.apf_run.proofs.operator.Operator.cancel.Goals as goal

pub invariant_of-self : goal.invariant_of-self
invariant_of-self g c =
    tried g.K.Naming.level.gate (IsNamed g.K.Plan.requests) g.K.Plan.requests c.self.inside.station c.cancel_owing.new.station c.args.request (Is c.cancel_owing.result.0) c.self.invariant c.cancel_owing.ensures.same.gate c.requires.named c.cancel_owing.ensures.answer
