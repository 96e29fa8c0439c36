-- What was settled is told.
use Rattle.std.proofs.Common.{ℕ, Option, sym, subst}
use Rattle.apf_service.specs.Turns.{SettlesBy}
use Rattle.apf_service.proofs.acting.release.Goals as goal

pub returns-in-Some-clause-settles : goal.returns-in-Some-clause-settles
returns-in-Some-clause-settles c = subst (λ (ran : Option ℕ). SettlesBy c.args.slot ran c.finish_measured.result.0 c.args.level.now c.finish_measured.new.self) (sym c.in-Some.is) (λ released. (c.finish_measured.result.1, c.finish_measured.ensures.settles released))
