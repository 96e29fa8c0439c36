use Rattle.std.proofs.Common.{rules, ◌≡◌, ◌⊎◌, length, arith, sym, subst}
use Rattle.apf_gate.specs.declared.record.Service.TheVariants.{Waiting}
use Rattle.apf_gate.specs.Records.{service}
use Rattle.apf_gate.specs.Slots.{IsTicket}
use Rattle.apf_gate.specs.Tokens.{GateId, DeskToken}
use Rattle.apf_gate.proofs.DeskSteps.{desk_loads_decision}
use Rattle.apf_gate.proofs.gate.Gate.load_seen.Goals as goal

pub load-requires : goal.load-requires
load-requires g c =
    let i = c.self.invariant in
    let ticket = subst (λ (x : GateId). IsTicket x.shape c.args.request) (sym c.self.view_is) c.requires.is_request in
    let has_slot = subst (λ (x : DeskToken × GateId). (service x.0.desk c.args.request ≡ Waiting) ⊎ (length x.1.shape.widths ≡ x.1.shape.slots)) (λ k. (sym c.desk.view_is k, sym c.self.view_is k)) c.requires.has_slot in
    (search rules, omega (arith, i.has_words, ticket.in_slot, c.word_of-word.ensures), rw (i.same_key, c.desk.invariant.alone, c.word_of-word.ensures, sym c.requires.chosen) (desk_loads_decision _ _ _ _ c.args.request i.shape ticket.inside has_slot))
