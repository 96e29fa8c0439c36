use Rattle.std.proofs.Common.{arith, sym, ap, ◌∙◌}
use Rattle.apf_gate.specs.Tokens.{GateId}
use Rattle.apf_gate.proofs.JoinedLevel.{joined_loads_level}
use Rattle.apf_gate.proofs.gate.Gate.load_joined_level.Goals as goal

pub load-requires : goal.load-requires
load-requires g c =
    let i = c.self.invariant in
    let m = c.requires.own in
    let table = m.same_table ∙ sym (ap (λ (x : GateId). x.table) c.self.view_is) in
    (table, omega (arith, i.has_words), rw (i.same_key, m.both) (joined_loads_level _ i.shape i.laws _ _ _ _ c.requires.may))
