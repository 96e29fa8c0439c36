use Rattle.apf_changes.proofs.Written.{sides_are}
use Rattle.apf_changes.proofs.laws.every_text_has_its_sides.Goals as goal

pub returns : goal.returns
returns c byte text = sides_are byte text
