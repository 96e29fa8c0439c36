-- A book that was made is the level's.
use Rattle.std.proofs.Common.{◌*◌, ◌<◌, ◌∙◌, ℕ, refl, sym, ap, subst}
use Rattle.std.specs.Prelude.{◌==◌, not, slice_index_or}
use Rattle.apf_flow.specs.Sizes.{Sizes}
use Rattle.apf_gate.specs.Gauges.{IsShape}
use Rattle.apf_book.specs.Life.{places_of}
use Rattle.apf_gate.specs.Tokens.{GateId, desk_gate}
use Rattle.apf_level.proofs.LifeHistories.{beginning, is_beginning, first_ticket, opened}
use Rattle.apf_level.proofs.life.level.queued.Goals as goal

pub invariant_of-queued : goal.invariant_of-queued
invariant_of-queued g c =
    let k = g.K.Naming.level in
    let config = c.args.config.now in
    let shape = c.args.desk.desk.knows.shape in
    let made = c.in_ok-book.ensures in
    let v = beginning shape config.queues config.queue_length_limit in
    let kept = made.opens v (is_beginning shape config.queues config.queue_length_limit c.is_of_a_gate.ensures.shape) refl in
    let given = ap desk_gate c.requires.opening.desk in
    record {
      has_queues = c.requires.has_queues;
      tied = record {
        gate = ap desk_gate made.desk ∙ given;
        queues = kept.of_life.deck ∙ sym (ap (λ (s : Sizes). s.deck) c.requires.opening.sizes);
        limit = kept.of_life.limit ∙ sym c.requires.opening.queue_limit;
        hand = made.hand ∙ sym (ap (λ (s : Sizes). s.hand) c.requires.opening.sizes);
        settles = ap (λ (n : ℕ). not (n == 0)) made.places ∙ ap (λ (n : ℕ). not (places_of c.args.settling n == 0)) c.requires.slots ∙ sym c.requires.opening.settles;
        known = made.known_is;
      };
      stopped = (opened c.every_level_has_histories.ensures).begins v c.in_ok-book.book refl kept;
      room = made.room ∙ ap (λ (n : ℕ). 2 * n) c.requires.slots;
      each_slot = record {
        count = c.in_ok-first_tickets.ensures.count ∙ c.requires.slots;
        tickets = λ i t low. first_ticket k.gate.shape (subst IsShape (ap (λ (x : GateId). x.shape) given) c.is_of_a_gate.ensures.shape) (slice_index_or c.in_ok-first_tickets.field-0.items i t).number (subst (λ (n : ℕ). (slice_index_or c.in_ok-first_tickets.field-0.items i t).number < n) c.requires.slots (c.in_ok-first_tickets.ensures.own i t low));
      };
    }
