use Rattle.std.proofs.Common.{length, sym, ap, ◌∙◌}
use Rattle.apf_gate.specs.Tokens.{GateId}
use Rattle.apf_gate.proofs.Spreading.{life_length}
use Rattle.apf_gate.proofs.gate.Gate.numbers.Goals as goal

pub returns-then-self : goal.returns-then-self
returns-then-self g c =
    let k = c.self.inside.gauge in
    sym (life_length k.lives k.numbers k.widths.items c.if-self.true) ∙ ap (λ (x : GateId). length x.shape.widths) c.self.view_is
