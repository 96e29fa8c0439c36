use Rattle.std.proofs.Common.{rules, ◌<◌, length, arith, sym, ap, ◌∙◌, subst}
use Rattle.apf_gate.specs.declared.record.Shape.{Shape}
use Rattle.apf_gate.specs.Slots.{slot_of}
use Rattle.apf_gate.specs.Rule.{pass_of}
use Rattle.apf_gate.specs.Tokens.{GateId, PassToken}
use Rattle.apf_gate.proofs.PassDecision.{pass_loads_decision}
use Rattle.apf_gate.proofs.gate.Gate.told.Goals as goal

pub load-requires : goal.load-requires
load-requires g c =
    let i = c.self.invariant in
    let m = c.pass.invariant in
    let shape = ap (λ (t : PassToken). t.pass.knows.shape) c.pass.view_is ∙ (ap (λ (x : GateId). x.shape) c.requires.own ∙ sym (ap (λ (x : GateId). x.shape) c.self.view_is)) in
    let inside = subst (λ (x : Shape). (pass_of c.pass.inside.seat.me.0).number < length x.widths) shape m.inside in
    let in_slot = subst (λ (x : Shape). slot_of (pass_of c.pass.inside.seat.me.0).number < x.slots) shape m.in_slot in
    (search rules, omega (arith, i.has_words, ap slot_of m.same_number, in_slot, c.word_of-word.ensures), rw (i.same_key, m.alone, c.word_of-word.ensures, m.same_number) (pass_loads_decision _ _ _ _))
