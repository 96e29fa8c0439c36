use Rattle.std.proofs.Common.{◌∙◌, Ok, sym, ap}
use Rattle.apf_changes.proofs.Rescheduling.{no_level, a_level}
use Rattle.apf_changes.proofs.schemas.level_name.Goals as goal

pub returns-in_default-clause-err : goal.returns-in_default-clause-err
returns-in_default-clause-err c memory = no_level c.args.name.now c.args.levels.now (sym c.level_place.ensures.value ∙ c.in_default.is)

pub returns-in-Ok-clause-ok : goal.returns-in-Ok-clause-ok
returns-in-Ok-clause-ok c =
    a_level c.args.name.now c.args.levels.now c.in-Some.field-0 (sym c.level_place.ensures.value ∙ c.in-Some.is) ∙ ap Ok (sym c.in-Ok.ensures.ok)
