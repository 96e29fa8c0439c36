use Rattle.apf_line.proofs.Lawful.{closed}
use Rattle.apf_line.proofs.laws.every_level_has_histories.Goals as goal

pub returns : goal.returns
returns c = closed
