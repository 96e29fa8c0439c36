use Rattle.apf_gate.proofs.Ending.{agrees}
use Rattle.apf_gate.proofs.laws.every_end_agrees.Goals as goal

pub returns : goal.returns
returns c = agrees
