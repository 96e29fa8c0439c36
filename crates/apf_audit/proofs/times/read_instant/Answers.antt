use Rattle.std.proofs.Common.{◌∙◌, rules, ap, FitsSigned, w64}
use Rattle.std.proofs.lemmas.Int.{to_z-of_z}
use Rattle.apf_audit.specs.Times.{natural}
use Rattle.apf_audit.proofs.Naturals.{instant_as, instant_none}
use Rattle.apf_audit.proofs.times.read_instant.Goals as goal

pub returns-in-Ok : goal.returns-in-Ok
returns-in-Ok c =
    let fits : FitsSigned w64 c.as_microsecond.result = search rules in
    let number = simp to_z-of_z at c.natural.ensures in
    instant_as _ _ _ c.in-Ok.ensures.value (number ∙ ap natural c.as_microsecond.ensures)

pub returns-in-Err : goal.returns-in-Err
returns-in-Err c = instant_none _ _ c.in-Err.ensures.value
