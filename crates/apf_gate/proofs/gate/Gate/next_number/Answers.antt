use Rattle.std.proofs.Common.{◌≡◌, ◌<◌, ◌≤◌, ◌^◌, length, arith, sym, ap, ◌∙◌, subst}
use Rattle.apf_model.specs.World.{width}
use Rattle.apf_gate.specs.Slots.{slot_of, next_of}
use Rattle.apf_gate.specs.Tokens.{GateId, PassToken}
use Rattle.apf_gate.proofs.Spreading.{next_is_next, next_wide}
use Rattle.apf_gate.proofs.gate.Gate.next_number.Goals as goal

pub returns-clause-is_next : goal.returns-clause-is_next
returns-clause-is_next g c =
    let n = c.pass.inside.number in
    let e : n ≡ c.args.pass.now.pass.number = c.pass.invariant.same_number ∙ ap (λ (t : PassToken). t.pass.number) c.pass.view_is in
    let narrow = c.requires.narrow in
    let x = next_is_next n c.args.width (omega arith) in
    record { same_slot = x.0 ∙ ap slot_of e; later = subst (λ y. y < next_of n c.args.width) e x.1 }

pub returns-clause-small : goal.returns-clause-small
returns-clause-small g c = λ l. let few = subst (λ (x : GateId). length x.shape.widths ≤ 2 ^ 75) c.self.view_is c.self.invariant.shape.few_numbers in omega arith

pub returns-clause-wide : goal.returns-clause-wide
returns-clause-wide g c = λ l.
    let k = c.self.inside.gauge in
    let n = c.pass.inside.number in
    let room = subst (λ (x : GateId). next_of n c.args.width < length x.shape.widths) (sym c.self.view_is) l in
    let wide = next_wide k.lives k.numbers k.widths.items n c.args.width room c.self.invariant.shape.few_slots c.requires.some_width c.requires.narrow in
    subst (λ (x : GateId). width x.shape.widths (next_of n c.args.width) ≡ c.args.width) c.self.view_is wide
