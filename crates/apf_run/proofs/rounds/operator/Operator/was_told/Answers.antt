use Rattle.apf_run.specs.RoundsPlans.{IsNamedIn}
use Rattle.apf_run.proofs.Faithful.{heard}
use Rattle.apf_run.proofs.rounds.operator.Operator.was_told.Goals as goal

pub invariant_of-self : goal.invariant_of-self
invariant_of-self g c =
    heard g.K.Naming.level.gate (IsNamedIn g.K.Plan.requests g.K.Plan.rounds) g.K.Plan.requests c.self.inside.station c.read.new.station c.args.request.number c.read.result c.self.invariant c.read.ensures.same.gate c.read.ensures.answer
