use Rattle.std.proofs.Common.{◌<◌, length, arith, sym, ap, ◌∙◌, subst}
use Rattle.apf_gate.specs.declared.record.Shape.{Shape}
use Rattle.apf_gate.specs.Slots.{slot_of}
use Rattle.apf_gate.specs.Tokens.{GateId, both_at}
use Rattle.apf_gate.proofs.JoinedDecision.{joined_loads_decision}
use Rattle.apf_gate.proofs.gate.Gate.load_joined_decision.Goals as goal

pub load-requires : goal.load-requires
load-requires g c =
    let i = c.self.invariant in
    let m = c.requires.own in
    let table = m.same_table ∙ sym (ap (λ (x : GateId). x.table) c.self.view_is) in
    let shape = m.pass_shape ∙ sym (ap (λ (x : GateId). x.shape) c.self.view_is) in
    let inside = subst (λ (x : Shape). (both_at c.args.seat.now.me).pass.number < length x.widths) shape m.inside in
    let in_slot = subst (λ (x : Shape). slot_of (both_at c.args.seat.now.me).pass.number < x.slots) shape m.in_slot in
    (table, omega (arith, i.has_words, ap slot_of c.requires.number, in_slot, c.word_of-word.ensures), rw (i.same_key, m.both, c.word_of-word.ensures, c.requires.number) (joined_loads_decision _ _ _ _ _))
