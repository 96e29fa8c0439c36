use Rattle.std.proofs.Common.{refl}
use Rattle.apf_lending.proofs.Stretches.{asked_more}
use Rattle.apf_lending.proofs.demand.Demand.go_on.Goals as goal

pub returns-clause-asked : goal.returns-clause-asked
returns-clause-asked c stretches asked =
    asked_more stretches _ c.args.at _ _ asked (rw (← c.self.view_is) c.self.invariant.order) c.requires.forward (rw (← c.self.view_is) refl) refl
    (rw (← c.self.view_is) refl) (rw (← c.self.view_is) c.max-self-inside.ensures)
    (rw (← c.self.view_is, c.from-asked.ensures, c.from-micros.ensures) refl) (rw (← c.self.view_is, c.from-asked.ensures, c.from-micros.ensures) refl)
