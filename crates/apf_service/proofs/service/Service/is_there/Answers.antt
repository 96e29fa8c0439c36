-- A request is there by the place of its slot.
use Rattle.std.proofs.Common.{◌≡◌, ◌≤◌, length, sym, ap, ◌∙◌, subst}
use Rattle.std.proofs.lemmas.Bool.{le-ltb}
use Rattle.apf_local.specs.Levels.{LocalView}
use Rattle.apf_local.specs.declared.answer.Place.{Place}
use Rattle.apf_service.specs.Kept.{is_there_at, is_there}
use Rattle.apf_service.proofs.Slots.{held_place, past_slot}
use Rattle.apf_service.proofs.service.Service.is_there.Goals as goal

pub returns-then-slot-slots : goal.returns-then-slot-slots
returns-then-slot-slots c =
    let l : LocalView = c.args.self.now.level in
    subst (λ (p : Place). c.has_request.result ≡ is_there_at p) (sym (held_place l.places l.owner.passes c.args.slot c.held.result c.args.self.now.tallied.each_its_pass c.held.ensures)) c.has_request.ensures

pub returns-else-slot-slots : goal.returns-else-slot-slots
returns-else-slot-slots c =
    let l : LocalView = c.args.self.now.level in
    let past : length l.places ≤ c.args.slot = subst (λ n. n ≤ c.args.slot) c.slots.ensures c.if-slot-slots.false in
    le-ltb c.args.slot c.slots.result c.if-slot-slots.false ∙ sym (ap is_there (past_slot l c.args.slot past))
