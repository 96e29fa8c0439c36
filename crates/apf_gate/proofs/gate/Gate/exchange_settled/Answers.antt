use Rattle.std.proofs.Common.{rules, ◌≡◌, ◌<◌, length, Some, arith, sym, ap, ◌∙◌, subst}
use Rattle.apf_gate.specs.declared.record.Shape.{Shape}
use Rattle.apf_gate.specs.Slots.{slot_of}
use Rattle.apf_gate.specs.Tokens.{GateId, DeskToken}
use Rattle.apf_gate.proofs.DeskSteps.{desk_exchanges_decision}
use Rattle.apf_gate.proofs.gate.Gate.exchange_settled.Goals as goal

pub compare_exchange-found-requires : goal.compare_exchange-found-requires
compare_exchange-found-requires g c =
    let i = c.self.invariant in
    let m = c.desk.invariant in
    let held = subst (λ (x : DeskToken). x.desk.held ≡ Some c.args.request) (sym c.desk.view_is) c.requires.holds in
    let shape = ap (λ (x : DeskToken). x.desk.knows.shape) c.desk.view_is ∙ (ap (λ (x : GateId). x.shape) c.requires.own ∙ sym (ap (λ (x : GateId). x.shape) c.self.view_is)) in
    let inside = subst (λ (x : Shape). c.args.request < length x.widths) shape (m.inside c.args.request (m.same_held ∙ held)) in
    let in_slot = subst (λ (x : Shape). slot_of c.args.request < x.slots) shape (m.in_slot c.args.request (m.same_held ∙ held)) in
    (search rules, omega (arith, i.has_words, in_slot, c.word_of-word.ensures), rw (i.same_key, m.alone, c.word_of-word.ensures, c.undecided-old.ensures, c.decided-new.ensures, c.mark-own.ensures.value, sym c.requires.chosen) (desk_exchanges_decision _ _ _ _ c.args.request inside held))

pub mark-own-requires : goal.mark-own-requires
mark-own-requires g c =
    let m = c.desk.invariant in
    let held = subst (λ (x : DeskToken). x.desk.held ≡ Some c.args.request) (sym c.desk.view_is) c.requires.holds in
    m.small c.args.request (m.same_held ∙ held)
