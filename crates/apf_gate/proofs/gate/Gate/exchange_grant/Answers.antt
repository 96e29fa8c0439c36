use Rattle.std.proofs.Common.{rules, ◌≡◌, ◌+◌, ◌-◌, None, arith, sym, ap, ◌∙◌, subst}
use Rattle.apf_words.specs.Fits.{Fits}
use Rattle.apf_words.specs.Level.{packed}
use Rattle.apf_model.specs.World.{width}
use Rattle.apf_gate.specs.declared.record.Service.TheVariants.{Waiting}
use Rattle.apf_gate.specs.Records.{service}
use Rattle.apf_gate.specs.Slots.{IsTicket}
use Rattle.apf_gate.specs.Tokens.{GateId, DeskToken}
use Rattle.apf_gate.proofs.DeskSteps.{desk_exchanges_level}
use Rattle.apf_gate.proofs.gate.Gate.exchange_grant.Goals as goal

pub compare_exchange-found-requires : goal.compare_exchange-found-requires
compare_exchange-found-requires g c =
    let i = c.self.invariant in
    let m = c.desk.invariant in
    let l = c.args.level in
    let ticket = subst (λ (x : GateId). IsTicket x.shape c.args.request) (sym c.self.view_is) c.requires.is_request in
    let waits = subst (λ (x : DeskToken). service x.desk c.args.request ≡ Waiting) (sym c.desk.view_is) c.requires.waits in
    let free = subst (λ (x : DeskToken). x.desk.held ≡ None) (sym c.desk.view_is) c.requires.holds_none in
    let room = subst (λ (x : GateId). Fits l.seats l.limit (width x.shape.widths c.args.request)) (sym c.self.view_is) c.requires.room in
    let wide = c.width_of-width.ensures.value ∙ ap (λ (x : GateId). width x.shape.widths c.args.request) (sym c.self.view_is) in
    let new = c.pack-new.ensures.value ∙ ap packed (c.with_grant.ensures ∙ ap (λ k. record l { waiters = l.waiters - 1; seats = l.seats + k }) wide) in
    (search rules, omega (arith, i.has_words), rw (i.same_key, m.alone, sym c.requires.chosen) (desk_exchanges_level _ i.shape i.laws _ _ _ c.args.request c.pack-word.result _ l ticket.inside waits free c.pack-word.ensures.value c.requires.in_range c.requires.some_wait room new))
