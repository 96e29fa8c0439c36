use Rattle.apf_gate.proofs.Owing.{none_lost}
use Rattle.apf_gate.proofs.laws.no_dispatch_is_lost.Goals as goal

pub returns : goal.returns
returns c = none_lost c.every_world_adds_up.ensures
