use Rattle.std.proofs.Common.{◌∙◌, FitsSigned, w64}
use Rattle.std.proofs.lemmas.Int.{to_z-of_z}
use Rattle.apf_audit.proofs.Naturals.{natural_is}
use Rattle.apf_audit.proofs.times.natural.Goals as goal

pub returns : goal.returns
returns c =
    let fits : FitsSigned w64 c.args.value = c.ranges.value in
    let tried = simp to_z-of_z at c.try_from.ensures in
    c.ok.ensures.value ∙ natural_is c.args.value _ fits tried
