use Rattle.std.proofs.Common.{rules, ap, ◌≡◌, ◌≢◌, ◌+◌, ◌-◌, ◌%◌, ◌^◌, Some, None, arith, sym, ◌∙◌, subst}
use Rattle.apf_words.specs.Level.{Level, packed, AllBelow20Bits}
use Rattle.apf_gate.specs.Records.{told_of}
use Rattle.apf_gate.specs.Slots.{IsTicket}
use Rattle.apf_model.specs.World.{width}
use Rattle.apf_gate.specs.Tokens.{GateId, DeskToken}
use Rattle.apf_gate.proofs.DeskSteps.{desk_subtracts_seats}
use Rattle.apf_gate.proofs.gate.Gate.give_back_of.Goals as goal

pub fetch_sub-requires : goal.fetch_sub-requires
fetch_sub-requires g c =
    let i = c.self.invariant in
    let ticket = subst (λ (x : GateId). IsTicket x.shape c.args.request) (sym c.self.view_is) c.requires.is_request in
    let held = subst (λ (x : DeskToken). x.desk.held ≡ Some c.args.request) (sym c.desk.view_is) c.requires.holds in
    let told = subst (λ (x : DeskToken). told_of x.desk.knows.told c.args.request ≢ None) (sym c.desk.view_is) c.requires.lost in
    let wide = c.width_of.ensures.value ∙ ap (λ (x : GateId). width x.shape.widths c.args.request) (sym c.self.view_is) in
    let back = c.to_release-seats.result in
    let leaves = subst (λ k. (l : Level) → AllBelow20Bits l.waiters (l.seats + k) l.limit → (packed (record l { seats = l.seats + k }) + (2 ^ 64 - back)) % 2 ^ 64 ≡ packed l) wide c.to_release-seats.ensures in
    (search rules, omega (arith, i.has_words), rw (i.same_key, c.desk.invariant.alone, sym c.requires.chosen) (desk_subtracts_seats _ i.shape i.laws _ _ _ c.args.request back ticket.inside held told leaves))
