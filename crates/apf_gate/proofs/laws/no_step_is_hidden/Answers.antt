use Rattle.apf_gate.proofs.Determined.{none, one, both}
use Rattle.apf_gate.proofs.laws.no_step_is_hidden.Goals as goal

pub returns : goal.returns
returns c = record { none = none; one = one; joined = both }
