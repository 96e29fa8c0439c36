-- What a queue was charged is that of the slot's request.
use Rattle.std.proofs.Common.{rules, ◌≡◌, ℕ, Option, get_or, ap, ◌∙◌}
use Rattle.std.proofs.lemmas.List.{with_items_is}
use Rattle.apf_gate.specs.Slots.{coded_width}
use Rattle.apf_history.specs.declared.events.Charge.{Charge}
use Rattle.apf_book.specs.Life.{charge_in}
use Rattle.apf_local.specs.Levels.{LocalView}
use Rattle.apf_line.specs.SeatTime.{seat_time_of}
use Rattle.apf_service.specs.Tallies.{slots_of}
use Rattle.apf_service.specs.Kept.{no_slot, width_in, state_of}
use Rattle.apf_service.specs.Turns.{queues_spent}
use Rattle.apf_service.proofs.Parts.{given_by}
use Rattle.apf_service.proofs.Slots.{number_of, slot_so}
use Rattle.apf_service.proofs.Keeps.{tallied_stays}
use Rattle.apf_service.proofs.acting.spend.Goals as goal

pub returns-clause-turns : goal.returns-clause-turns
returns-clause-turns c =
    let l : LocalView = c.args.level.now in
    let executes = c.spend-executes.result in
    let given = c.args.notes.now.queues.items in
    let width : c.width.result ≡ width_in (get_or (slots_of l) c.args.slot no_slot) = c.width.ensures ∙ ap coded_width (number_of l c.args.slot c.ticket.result.number c.requires.tallied.each_its_pass c.requires.is_slot c.ticket.ensures.number) in
    let took : c.seat_time-took.result ≡ seat_time_of (width_in (get_or (slots_of l) c.args.slot no_slot)) c.args.micros = c.seat_time-took.ensures.value ∙ ap (λ (w : ℕ). seat_time_of w c.args.micros) width in
    let charge : c.charge-charge.result ≡ charge_in l.owner.book.queues (get_or (slots_of l) c.args.slot no_slot).number = slot_so l c.args.slot (λ (n : ℕ). c.charge-charge.result ≡ charge_in l.owner.book.queues n) c.requires.tallied.each_its_pass c.requires.is_slot c.charge-charge.ensures in
    record {
      executes = c.spend-executes.result;
      level = c.spend-executes.new.self;
      does = record {
        is = c.spend-executes.ensures.executes;
        nothing = c.spend-executes.ensures.nothing;
        spends = c.spend-executes.ensures.spends;
        same = c.spend-executes.ensures.same;
        slots = c.spend-executes.ensures.slots;
      };
      told = search rules;
      after = given_by (state_of l c.args.notes.now) c.spend-executes.new.self _ _
          (with_items_is c.args.notes.now.queues c.spend_of.new.queues (c.spend_of.auto.queues ∙ c.as_mut_slice.ensures.len) ∙ c.spend_of.ensures ∙ ap (queues_spent executes c.seat_time-took.result c.charge-charge.result) c.as_mut_slice.ensures.value ∙ ap (λ (n : ℕ). queues_spent executes n c.charge-charge.result given) took ∙ ap (λ (o : Option Charge). queues_spent executes (seat_time_of (width_in (get_or (slots_of l) c.args.slot no_slot)) c.args.micros) o given) charge);
    }

pub returns-clause-tallied : goal.returns-clause-tallied
returns-clause-tallied c = tallied_stays c.args.level.now c.spend-executes.new.self c.args.notes.now.tally c.spend-executes.ensures.same c.spend-executes.ensures.slots c.requires.tallied
