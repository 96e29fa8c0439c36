-- The numbers of a level are small, and stay those of the slots.
use Rattle.std.proofs.Common.{rules, arith, sym, ap, ◌∙◌, subst}
use Rattle.apf_local.specs.declared.answer.Ask.{Ask}
use Rattle.apf_service.specs.declared.tally.Tally.{Tally}
use Rattle.apf_service.specs.Tallies.{IsTallied, after_arrival}
use Rattle.apf_service.proofs.Keeps.{arrival_keeps}
use Rattle.apf_service.proofs.Sums.{decided_few, running_few, waiting_few, seats_few}
use Rattle.apf_service.proofs.acting.arrive.Goals as goal

pub after_arrival-notes-requires-clause-few : goal.after_arrival-notes-requires-clause-few
after_arrival-notes-requires-clause-few c = decided_few c.args.level.now c.args.notes.now.tally c.requires.tallied

pub after_arrival-notes-requires-clause-running : goal.after_arrival-notes-requires-clause-running
after_arrival-notes-requires-clause-running c = omega (arith, running_few c.args.level.now c.args.notes.now.tally c.requires.tallied)

pub after_arrival-notes-requires-clause-waiting : goal.after_arrival-notes-requires-clause-waiting
after_arrival-notes-requires-clause-waiting c = omega (arith, waiting_few c.args.level.now c.args.notes.now.tally c.requires.tallied)

pub after_arrival-notes-requires-clause-seats : goal.after_arrival-notes-requires-clause-seats
after_arrival-notes-requires-clause-seats c = omega (arith, seats_few c.args.level.now c.args.notes.now.tally c.requires.tallied, c.requires.range)

pub returns-clause-tallied : goal.returns-clause-tallied
returns-clause-tallied c =
    subst (λ (t : Tally). IsTallied c.arrive-answer.new.self t)
    (sym (c.after_arrival-notes.ensures ∙ ap (λ (a : Ask). after_arrival a.width c.arrive-answer.result.0 c.args.notes.now.tally) (sym c.ask_for.ensures)))
    (arrival_keeps c.args.level.now.owner.gate.shape c.args.slot c.ask_for.result c.args.level.now c.arrive-answer.new.self c.arrive-answer.ensures.same c.args.notes.now.tally c.requires.tallied (search (c.requires.range, rules)) (search (c.requires.range, rules))
    c.ticket-request.result.number c.ticket-request.ensures.is_ticket c.ticket-request.ensures.number _ c.arrive-answer.result.0 c.arrive-answer.result.1 c.arrive-answer.ensures.arrives)
