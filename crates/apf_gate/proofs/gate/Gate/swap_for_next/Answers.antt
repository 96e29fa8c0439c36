use Rattle.std.proofs.Common.{rules, ◌<◌, length, arith, sym, ap, ◌∙◌, subst}
use Rattle.apf_gate.specs.declared.record.Shape.{Shape}
use Rattle.apf_gate.specs.Slots.{slot_of}
use Rattle.apf_gate.specs.PassSteps.{MayRenew, IsNextRequest}
use Rattle.apf_gate.specs.Rule.{pass_of}
use Rattle.apf_gate.specs.Tokens.{GateId, PassToken}
use Rattle.apf_gate.proofs.Asks.{renewed_asks}
use Rattle.apf_gate.proofs.Renewing.{pass_renews}
use Rattle.apf_gate.proofs.gate.Gate.swap_for_next.Goals as goal

pub swap-requires : goal.swap-requires
swap-requires g c =
    let i = c.self.invariant in
    let m = c.pass.invariant in
    let may = subst (λ (t : PassToken). MayRenew t.pass) (sym c.pass.view_is) c.requires.may in
    let is_next = subst (λ (t : PassToken). IsNextRequest t.pass c.args.next) (sym c.pass.view_is) c.requires.is_next in
    let shape = ap (λ (t : PassToken). t.pass.knows.shape) c.pass.view_is ∙ (ap (λ (x : GateId). x.shape) c.requires.own ∙ sym (ap (λ (x : GateId). x.shape) c.self.view_is)) in
    let in_slot = subst (λ (x : Shape). slot_of (pass_of c.pass.inside.seat.me.0).number < x.slots) shape m.in_slot in
    let inside = subst (λ (x : GateId). c.args.next < length x.shape.widths) (sym c.self.view_is) c.requires.inside in
    (search rules, omega (arith, i.has_words, in_slot, is_next.same_slot, c.word_of-word.ensures), rw (i.same_key, m.alone, c.word_of-word.ensures, c.undecided-new.ensures, c.mark-own.ensures.value, sym c.requires.chosen) (pass_renews _ _ _ _ c.args.next _ may is_next inside))

pub returns-clause-asks : goal.returns-clause-asks
returns-clause-asks g c = renewed_asks c.args.next g.J.Asking.ask c.args.pass.now.pass c.decision_in-found.result (pass_of c.swap.new.seat.me.0) (search rules)
