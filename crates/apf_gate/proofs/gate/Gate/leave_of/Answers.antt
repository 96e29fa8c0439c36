use Rattle.std.proofs.Common.{rules, ◌≡◌, Some, arith, sym, subst}
use Rattle.apf_words.specs.declared.decision.Decision.TheVariants.{Cancelled}
use Rattle.apf_gate.specs.declared.record.Service.TheVariants.{Waiting}
use Rattle.apf_gate.specs.Records.{told_of, service}
use Rattle.apf_gate.specs.Slots.{IsTicket}
use Rattle.apf_gate.specs.Tokens.{GateId, DeskToken}
use Rattle.apf_gate.proofs.DeskSteps.{desk_subtracts_waiter}
use Rattle.apf_gate.proofs.gate.Gate.leave_of.Goals as goal

pub fetch_sub-requires : goal.fetch_sub-requires
fetch_sub-requires g c =
    let i = c.self.invariant in
    let ticket = subst (λ (x : GateId). IsTicket x.shape c.args.request) (sym c.self.view_is) c.requires.is_request in
    let waits = subst (λ (x : DeskToken). service x.desk c.args.request ≡ Waiting) (sym c.desk.view_is) c.requires.waits in
    let told = subst (λ (x : DeskToken). told_of x.desk.knows.told c.args.request ≡ Some Cancelled) (sym c.desk.view_is) c.requires.seen_cancelled in
    (search rules, omega (arith, i.has_words), rw (i.same_key, c.desk.invariant.alone, sym c.requires.chosen) (desk_subtracts_waiter _ i.shape i.laws _ _ _ c.args.request c.to_leave.result ticket.inside waits told c.to_leave.ensures))
