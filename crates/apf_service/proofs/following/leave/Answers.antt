-- The numbers of a level are small, and stay those of the slots.
use Rattle.std.proofs.Common.{rules, arith, ◌≡◌, ◌<◌, ◌≤◌, ℕ, length, get_or, refl, sym, ap, ◌∙◌, subst}
use Rattle.apf_gate.specs.Slots.{coded_width}
use Rattle.apf_local.specs.Levels.{LocalView}
use Rattle.apf_local.specs.declared.answer.Place.TheVariants as places
use Rattle.apf_service.specs.declared.tally.Tally.{Tally}
use Rattle.apf_service.specs.Tallies.{Held, IsTallied, slots_of, after_poll}
use Rattle.apf_service.specs.Kept.{no_slot, width_in, state_of}
use Rattle.apf_service.proofs.Slots.{number_of, held_place, held_all, past_slot}
use Rattle.apf_service.proofs.Keeps.{poll_keeps, some_wait}
use Rattle.apf_service.proofs.Sums.{decided_few, running_few, seats_few, coded_small}
use Rattle.apf_service.proofs.following.leave.Goals as goal

pub after_poll-notes-requires-clause-few : goal.after_poll-notes-requires-clause-few
after_poll-notes-requires-clause-few c = decided_few c.args.level.now c.args.notes.now.tally c.requires.tallied

pub after_poll-notes-requires-clause-running : goal.after_poll-notes-requires-clause-running
after_poll-notes-requires-clause-running c = omega (arith, running_few c.args.level.now c.args.notes.now.tally c.requires.tallied)

pub after_poll-notes-requires-clause-seats : goal.after_poll-notes-requires-clause-seats
after_poll-notes-requires-clause-seats c = omega (arith, seats_few c.args.level.now c.args.notes.now.tally c.requires.tallied, coded_small c.ticket.result.number, c.width-width.ensures)

pub returns-then-slot-slots-clause-leaves : goal.returns-then-slot-slots-clause-leaves
returns-then-slot-slots-clause-leaves c =
    let l : LocalView = c.args.level.now in
    let past : length l.places ≤ c.args.slot = subst (λ n. n ≤ c.args.slot) c.slots.ensures c.if-slot-slots.true in
    let free = ap (λ (h : Held). h.place) (past_slot l c.args.slot past) in
    (λ waits. absurd (let z = sym free ∙ waits in cc), λ not. refl)

pub returns-then-ne-clause-leaves : goal.returns-then-ne-clause-leaves
returns-then-ne-clause-leaves c =
    let l : LocalView = c.args.level.now in
    let at = held_place l.places l.owner.passes c.args.slot c.held.result c.requires.tallied.each_its_pass c.held.ensures in
    (λ waits. absurd (let z = sym at ∙ waits in search (z, rules)), λ not. refl)

pub after_poll-notes-requires-clause-waiting : goal.after_poll-notes-requires-clause-waiting
after_poll-notes-requires-clause-waiting c =
    let l : LocalView = c.args.level.now in
    let inside : c.args.slot < length l.places = (search rules) in
    let waits : c.held.result ≡ places.Waits = (search rules) in
    some_wait c.args.slot l c.args.notes.now.tally c.requires.tallied (subst (λ n. c.args.slot < n) (sym (held_all l.places l.owner.passes c.requires.tallied.each_its_pass)) inside)
    (held_place l.places l.owner.passes c.args.slot c.held.result c.requires.tallied.each_its_pass c.held.ensures ∙ waits)

pub returns-clause-tallied : goal.returns-clause-tallied
returns-clause-tallied c =
    let l : LocalView = c.args.level.now in
    let waits : c.held.result ≡ places.Waits = (search rules) in
    let inside : c.args.slot < length l.places = (search rules) in
    let width : c.width-width.result ≡ width_in (get_or (slots_of l) c.args.slot no_slot) = c.width-width.ensures ∙ ap coded_width (number_of l c.args.slot c.ticket.result.number c.requires.tallied.each_its_pass inside c.ticket.ensures.number) in
    subst (λ (t : Tally). IsTallied c.place-place.new.self t)
    (sym (c.after_poll-notes.ensures ∙ ap (λ (n : ℕ). after_poll n c.place-place.result c.args.notes.now.tally) width))
    (poll_keeps c.args.slot l c.place-place.new.self c.place-place.ensures.same c.args.notes.now.tally c.requires.tallied c.place-place.result
    (held_place l.places l.owner.passes c.args.slot c.held.result c.requires.tallied.each_its_pass c.held.ensures ∙ waits) c.place-place.ensures.reads)

pub returns-clause-leaves : goal.returns-clause-leaves
returns-clause-leaves c =
    let l : LocalView = c.args.level.now in
    let waits : c.held.result ≡ places.Waits = (search rules) in
    let inside : c.args.slot < length l.places = (search rules) in
    let width : c.width-width.result ≡ width_in (get_or (slots_of l) c.args.slot no_slot) = c.width-width.ensures ∙ ap coded_width (number_of l c.args.slot c.ticket.result.number c.requires.tallied.each_its_pass inside c.ticket.ensures.number) in
    let at = held_place l.places l.owner.passes c.args.slot c.held.result c.requires.tallied.each_its_pass c.held.ensures ∙ waits in (
      λ is. record {
        place = c.place-place.result;
        level = c.place-place.new.self;
        reads = c.place-place.ensures.reads;
        continues = record { same = c.place-place.ensures.same; history = c.place-place.ensures.history };
        after = ap (λ (t : Tally). record (state_of c.place-place.new.self c.args.notes.now) { tally = t }) (c.after_poll-notes.ensures ∙ ap (λ (n : ℕ). after_poll n c.place-place.result c.args.notes.now.tally) width);
      },
      λ not. absurd (not at),
    )
