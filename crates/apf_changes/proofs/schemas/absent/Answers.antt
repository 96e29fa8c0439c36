use Rattle.std.proofs.Common.{◌∙◌, sym}
use Rattle.apf_changes.proofs.Rescheduling.{dangles, is_none}
use Rattle.apf_changes.proofs.schemas.absent.Goals as goal

pub returns-in-Some : goal.returns-in-Some
returns-in-Some c = sym (dangles c.args.name.now c.args.dangling.now c.in-Some.field-0 (sym c.schema_place.ensures.value ∙ c.in-Some.is))

pub returns-in-None : goal.returns-in-None
returns-in-None c = sym (is_none c.args.name.now c.args.dangling.now (sym c.schema_place.ensures.value ∙ c.in-None.is))
