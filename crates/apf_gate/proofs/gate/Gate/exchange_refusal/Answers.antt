use Rattle.std.proofs.Common.{◌<◌, length, arith, sym, ap, ◌∙◌, subst}
use Rattle.apf_gate.specs.declared.record.Shape.{Shape}
use Rattle.apf_gate.specs.Slots.{slot_of}
use Rattle.apf_gate.specs.Tokens.{GateId, both_at}
use Rattle.apf_gate.proofs.JoinedDecision.{joined_exchanges_decision}
use Rattle.apf_gate.proofs.gate.Gate.exchange_refusal.Goals as goal

pub compare_exchange-requires : goal.compare_exchange-requires
compare_exchange-requires g c =
    let i = c.self.invariant in
    let m = c.requires.own in
    let table = m.same_table ∙ sym (ap (λ (x : GateId). x.table) c.self.view_is) in
    let shape = m.pass_shape ∙ sym (ap (λ (x : GateId). x.shape) c.self.view_is) in
    let inside = subst (λ (x : Shape). (both_at c.args.seat.now.me).pass.number < length x.widths) shape m.inside in
    let in_slot = subst (λ (x : Shape). slot_of (both_at c.args.seat.now.me).pass.number < x.slots) shape m.in_slot in
    (table, omega (arith, i.has_words, ap slot_of c.requires.number, in_slot, c.word_of-word.ensures), rw (i.same_key, m.both, c.word_of-word.ensures, c.undecided-old.ensures, c.decided-new.ensures, c.mark-own.ensures.value, c.requires.number) (joined_exchanges_decision _ _ _ _ _ c.args.decision c.requires.may c.requires.refusal))
