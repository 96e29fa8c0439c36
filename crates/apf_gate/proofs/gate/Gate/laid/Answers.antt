use Rattle.std.proofs.Common.{ap, ◌∙◌}
use Rattle.apf_gate.specs.declared.record.Shape.{Shape}
use Rattle.apf_gate.specs.Opens.{new_passes}
use Rattle.apf_gate.proofs.gate.Gate.laid.Goals as goal

pub returns-clause-passes : goal.returns-clause-passes
returns-clause-passes g c = c.in_ok-passes.ensures.passes ∙ ap (λ (x : Shape). new_passes c.in_ok-gate.gate x.slots) c.in_ok-gate.ensures.shape
