-- The numbers stay those of the slots.
use Rattle.std.proofs.Common.{rules, ◌≡◌, ◌≤◌, ℕ, Option, get_or, sym, ap, ◌∙◌, subst}
use Rattle.std.proofs.lemmas.List.{with_items_is}
use Rattle.apf_gate.specs.Slots.{coded_width}
use Rattle.apf_book.specs.Life.{charge_in}
use Rattle.apf_history.specs.declared.events.Charge.{Charge}
use Rattle.apf_local.specs.Levels.{LocalView}
use Rattle.apf_service.specs.declared.tally.Tally.{Tally}
use Rattle.apf_service.specs.Tallies.{IsTallied, slots_of, after_finish}
use Rattle.apf_service.specs.Kept.{no_slot, width_in}
use Rattle.apf_service.specs.Turns.{queues_after}
use Rattle.apf_service.proofs.Parts.{state_by_parts}
use Rattle.apf_service.proofs.Slots.{number_of, slot_so}
use Rattle.apf_service.proofs.Keeps.{finish_keeps, seats_there}
use Rattle.apf_service.proofs.acting.finish.Goals as goal

pub after_finish-notes-requires : goal.after_finish-notes-requires
after_finish-notes-requires c = record {
  room = λ released.
      let l : LocalView = c.args.level.now in
      let width : c.width-width.result ≡ width_in (get_or (slots_of l) c.args.slot no_slot) = c.width-width.ensures ∙ ap coded_width (number_of l c.args.slot c.ticket.result.number c.requires.tallied.each_its_pass c.requires.is_slot c.ticket.ensures.number) in
      let there = seats_there c.args.slot l c.release-answer.new.level c.args.notes.now.tally c.requires.tallied c.release-answer.result c.release-answer.ensures.finishes released in
      (there.0, subst (λ (n : ℕ). n ≤ c.args.notes.now.tally.seats) (sym width) there.1);
}

pub returns-clause-turns : goal.returns-clause-turns
returns-clause-turns c =
    let l : LocalView = c.args.level.now in
    let answer = c.release-answer.result in
    let given = c.args.notes.now.queues.items in
    let width : c.width-width.result ≡ width_in (get_or (slots_of l) c.args.slot no_slot) = c.width-width.ensures ∙ ap coded_width (number_of l c.args.slot c.ticket.result.number c.requires.tallied.each_its_pass c.requires.is_slot c.ticket.ensures.number) in
    let charge : c.charge-charge.result ≡ charge_in l.owner.book.queues (get_or (slots_of l) c.args.slot no_slot).number = slot_so l c.args.slot (λ (n : ℕ). c.charge-charge.result ≡ charge_in l.owner.book.queues n) c.requires.tallied.each_its_pass c.requires.is_slot c.charge-charge.ensures in
    record {
      answer = c.release-answer.result;
      level = c.release-answer.new.level;
      finishes = c.release-answer.ensures.finishes;
      same = c.release-answer.ensures.same;
      settles = c.release-answer.ensures.settles;
      told = search rules;
      after = state_by_parts c.release-answer.new.level c.learn.new.notes _ _ _ _ _
          (c.learn.ensures.same.0 ∙ c.after_finish-notes.ensures ∙ ap (λ (n : ℕ). after_finish n answer c.args.notes.now.tally) width)
          (c.learn.ensures.same.1 ∙ with_items_is c.args.notes.now.queues c.settle.new.queues (c.settle.auto.queues ∙ c.as_mut_slice.ensures.len) ∙ c.settle.ensures ∙ ap (queues_after answer c.args.ran c.width-width.result c.charge-charge.result) c.as_mut_slice.ensures.value ∙ ap (λ (n : ℕ). queues_after answer c.args.ran n c.charge-charge.result given) width ∙ ap (λ (o : Option Charge). queues_after answer c.args.ran (width_in (get_or (slots_of l) c.args.slot no_slot)) o given) charge)
          c.learn.ensures.same.2 c.learn.ensures.charges c.learn.ensures.same.3;
    }

pub returns-clause-tallied : goal.returns-clause-tallied
returns-clause-tallied c =
    let l : LocalView = c.args.level.now in
    let answer = c.release-answer.result in
    let width : c.width-width.result ≡ width_in (get_or (slots_of l) c.args.slot no_slot) = c.width-width.ensures ∙ ap coded_width (number_of l c.args.slot c.ticket.result.number c.requires.tallied.each_its_pass c.requires.is_slot c.ticket.ensures.number) in
    subst (λ (t : Tally). IsTallied c.release-answer.new.level t)
    (sym (c.learn.ensures.same.0 ∙ c.after_finish-notes.ensures ∙ ap (λ (n : ℕ). after_finish n answer c.args.notes.now.tally) width))
    (finish_keeps c.args.slot l c.release-answer.new.level c.release-answer.ensures.same c.args.notes.now.tally c.requires.tallied answer c.release-answer.ensures.finishes)
