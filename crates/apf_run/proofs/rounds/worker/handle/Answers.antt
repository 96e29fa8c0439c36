-- The Station knows the slot, of which it closed the level and heard the decision.
use Rattle.std.proofs.Common.{◌≡◌, ◌≢◌, ◌∙◌, ◌++◌, ℕ, List, None, ap, subst, sym}
use Rattle.std.specs.Prelude.{Some, slice_get}
use Rattle.apf_files.specs.declared.requests.Request.{Request}
use Rattle.apf_gate.specs.Records.{told_of}
use Rattle.apf_gate.specs.Slots.{slot_of}
use Rattle.std.proofs.lemmas.List.{append_assoc}
use Rattle.apf_gate.specs.declared.record.Entry.{Entry}
use Rattle.apf_gate.specs.Traces.{asked_in}
use Rattle.apf_run.proofs.Known.{handled, one_more_asked, asked_still}
use Rattle.apf_run.proofs.rounds.worker.handle.Goals as goal

pub returns-clause-known : goal.returns-clause-known
returns-clause-known g c =
    let requests : List Request = g.K.Plan.requests in
    let at : c.slot.result ≡ slot_of c.args.slot.now.pass.number = c.slot.ensures ∙ ap slot_of c.ticket.ensures.number in
    handled requests c.args.operator.now c.close_as_said.new.operator c.finish.new.operator c.hear.new.self c.args.slot.now c.finish.new.slot c.asked-request.result c.args.round
    (subst (λ (i : ℕ). slice_get requests i ≡ Some c.asked-request.result) at c.asked-request.ensures.is) c.asked-request.ensures.width.1 c.requires.before
    c.close_as_said.ensures.knows c.close_as_said.ensures.closed c.finish.ensures.knows c.hear.ensures.knows
    (c.finish.ensures.same ∙ c.next.ensures.number)
    (subst (λ (r : ℕ). told_of c.hear.new.self.station.knows.told r ≢ None) (c.ticket-ticket.ensures.number ∙ sym c.finish.ensures.same) c.hear.ensures.told)
    c.requires.known

pub returns-clause-asked : goal.returns-clause-asked
returns-clause-asked g c =
    let requests : List Request = g.K.Plan.requests in
    let at : c.slot.result ≡ slot_of c.args.slot.now.pass.number = c.slot.ensures ∙ ap slot_of c.ticket.ensures.number in
    let next = c.next.new.slot in
    let done = c.finish.new.slot in
    one_more_asked requests c.args.slot.now done c.asked-request.result c.args.round
    (subst (λ (i : ℕ). slice_get requests i ≡ Some c.asked-request.result) at c.asked-request.ensures.is) c.asked-request.ensures.width.1 c.requires.before
    (c.finish.ensures.same ∙ c.next.ensures.number) (
      c.finish.ensures.goes_on.0 ++ c.next.ensures.goes_on.0,
      append_assoc c.finish.ensures.goes_on.0 c.next.ensures.goes_on.0 c.args.slot.now.pass.knows.trace
          ∙ (ap (λ (es : List Entry). c.finish.ensures.goes_on.0 ++ es) c.next.ensures.goes_on.1 ∙ c.finish.ensures.goes_on.1),
    )
    (ap (asked_in done.pass.knows.trace) c.finish.ensures.same
    ∙ asked_still next.pass.knows.trace done.pass.knows.trace next.pass.number (record { hash = c.asked-request.result.hash; cost = c.asked-request.result.width }) c.finish.ensures.goes_on c.next.ensures.asked)
    c.requires.asked
