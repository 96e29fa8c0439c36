use Rattle.apf_gate.proofs.Explaining.{explained}
use Rattle.apf_gate.proofs.laws.every_state_is_explained.Goals as goal

pub returns : goal.returns
returns c = explained
