-- One turn: the chosen head, what was tried with it, and what every history has of that.
use Rattle.std.proofs.Common.{ℕ, refl, sym, ap, ◌∙◌, subst, arith}
use Rattle.apf_gate.specs.declared.record.Shape.{Shape}
use Rattle.apf_gate.specs.Slots.{IsTicket}
use Rattle.apf_gate.specs.Tokens.{GateId}
use Rattle.apf_book.specs.Moves.{LastFound}
use Rattle.apf_book.specs.Life.{IsLifeOf, then_came}
use Rattle.apf_history.specs.declared.events.Event.TheVariants.{Dispatch, Strike}
use Rattle.apf_gate.specs.Records.{KnowsMore}
use Rattle.std.specs.Prelude.{Contains}
use Rattle.apf_model.specs.History.{waiting}
use Rattle.apf_book.specs.LifeBook.{LifeBookView, IsLifeKept}
use Rattle.apf_book.proofs.Opened.{opened}
use Rattle.apf_book.proofs.LifeKeeping.{life_waits, holder_waits, holder_ticket, life_head}
use Rattle.apf_book.proofs.LifeTurning.{chosen_stands, next_is_first, life_dispatched, life_struck}
use Rattle.apf_book.proofs.life_book.LifeBook.serve_head_once.Goals as goal

-- the slot that was chosen has a holder
pub holder-request-requires : goal.holder-request-requires
holder-request-requires g c = c.self.invariant.kept.of_life.in_place c.in-Some.chosen.queue c.in-Some.chosen.request (chosen_stands c.self.inside.ledger c.in-Some.chosen c.in-Some.ensures.chosen)

pub serve-requires-clause-is_request : goal.serve-requires-clause-is_request
serve-requires-clause-is_request g c =
    subst (λ (s : Shape). IsTicket s c.holder-request.result) (ap (λ (b : LifeBookView). b.desk.desk.knows.shape) c.self.view_is ∙ ap (λ (x : GateId). x.shape) c.requires.own)
    (subst (λ (i : ℕ). IsTicket c.self.inside.desk.desk.knows.shape i) (sym c.holder-request.ensures) (holder_ticket (opened c.legal_histories_are_in_order.ensures) c.self.invariant.view _ c.self.invariant.kept c.in-Some.chosen.queue c.in-Some.chosen.request (chosen_stands c.self.inside.ledger c.in-Some.chosen c.in-Some.ensures.chosen) c.is_of_a_gate.ensures.shape))

pub serve-requires-clause-waits : goal.serve-requires-clause-waits
serve-requires-clause-waits g c = life_waits (opened c.legal_histories_are_in_order.ensures) c.self.invariant.view _ c.self.invariant.kept c.in-Some.chosen.queue c.holder-request.result (subst (λ (i : ℕ). Contains (waiting c.self.invariant.view.history c.in-Some.chosen.queue) i) (sym c.holder-request.ensures) (holder_waits (opened c.legal_histories_are_in_order.ensures) c.self.invariant.view _ c.self.invariant.kept c.in-Some.chosen.queue c.in-Some.chosen.request (chosen_stands c.self.inside.ledger c.in-Some.chosen c.in-Some.ensures.chosen)))

pub invariant_of-self : goal.invariant_of-self
invariant_of-self g c =
    let came = subst (λ (i : ℕ). IsLifeOf (then_came c.self.invariant.view (Dispatch i c.in-Some.chosen.queue)) c.dispatch.new.self) (sym c.holder-request.ensures) (c.dispatch.ensures.dispatches c.self.invariant.view c.self.invariant.kept.of_life) in
    record {
      view = then_came c.self.invariant.view (Dispatch c.holder-request.result c.in-Some.chosen.queue);
      kept = life_dispatched c.self.invariant.view (record { desk = c.self.inside.desk; queues = c.self.inside.ledger; notes = c.self.inside.notes }) _ c.holder-request.result c.in-Some.chosen.queue c.self.invariant.kept c.dispatch.ensures.slots came (c.note.ensures.notes c.self.invariant.view.history c.self.invariant.kept.notes)
          c.in-Dispatched.ensures.moves c.in-Dispatched.ensures.says c.in-Dispatched.ensures.holds_none;
    }

pub returns-in-Dispatched-clause-turns : goal.returns-in-Dispatched-clause-turns
returns-in-Dispatched-clause-turns g c v is =
    let kept = (subst (λ (b : LifeBookView). IsLifeKept v b) (sym c.self.view_is) is) in
    let came = subst (λ (i : ℕ). IsLifeOf (then_came v (Dispatch i c.in-Some.chosen.queue)) c.dispatch.new.self) (sym c.holder-request.ensures) (c.dispatch.ensures.dispatches v kept.of_life) in (
      c.holder-request.result,
      c.in-Some.chosen.queue,
      life_dispatched v (record { desk = c.self.inside.desk; queues = c.self.inside.ledger; notes = c.self.inside.notes }) _ c.holder-request.result c.in-Some.chosen.queue kept c.dispatch.ensures.slots came (c.note.ensures.notes v.history kept.notes)
          c.in-Dispatched.ensures.moves c.in-Dispatched.ensures.says c.in-Dispatched.ensures.holds_none,
    )

pub strike-requires : goal.strike-requires
strike-requires g c = record {
  has_slot = (let here = c.self.invariant.kept.of_life.in_slots c.in-Some.chosen.queue c.in-Some.chosen.request (chosen_stands c.self.inside.ledger c.in-Some.chosen c.in-Some.ensures.chosen) in
      let place = c.self.invariant.kept.of_life.in_place c.in-Some.chosen.queue c.in-Some.chosen.request (chosen_stands c.self.inside.ledger c.in-Some.chosen c.in-Some.ensures.chosen) in
      let is = c.holder-request.ensures in omega arith);
}

pub unreachable-requires : goal.unreachable-requires
unreachable-requires g c = c.in_default-strike.ensures.nowhere c.self.invariant.view c.self.invariant.kept.of_life c.in-Some.chosen.queue (subst (λ (i : ℕ). Contains (waiting c.self.invariant.view.history c.in-Some.chosen.queue) i) (sym c.holder-request.ensures) (holder_waits (opened c.legal_histories_are_in_order.ensures) c.self.invariant.view _ c.self.invariant.kept c.in-Some.chosen.queue c.in-Some.chosen.request (chosen_stands c.self.inside.ledger c.in-Some.chosen c.in-Some.ensures.chosen)))

pub invariant_of-self-in-Struck : goal.invariant_of-self-in-Struck
invariant_of-self-in-Struck g c = record {
  view = then_came c.self.invariant.view (Strike c.holder-request.result c.in-Some-strike.queue);
  kept = life_struck c.self.invariant.view (record { desk = c.self.inside.desk; queues = c.self.inside.ledger; notes = c.self.inside.notes }) _ c.holder-request.result c.in-Some-strike.queue c.self.invariant.kept c.in-Some-strike.ensures.slots (c.in-Some-strike.ensures.some c.self.invariant.view c.self.invariant.kept.of_life) (c.note-in-Struck.ensures.notes c.self.invariant.view.history c.self.invariant.kept.notes)
      c.in-Struck.ensures.moves c.in-Struck.ensures.says c.in-Struck.ensures.holds_none (c.in-Struck.ensures.struck refl);
}

pub returns-in-Some-strike-clause-turns : goal.returns-in-Some-strike-clause-turns
returns-in-Some-strike-clause-turns g c v is =
    let kept = (subst (λ (b : LifeBookView). IsLifeKept v b) (sym c.self.view_is) is) in (
      c.holder-request.result,
      c.in-Some-strike.queue,
      life_struck v (record { desk = c.self.inside.desk; queues = c.self.inside.ledger; notes = c.self.inside.notes }) _ c.holder-request.result c.in-Some-strike.queue kept c.in-Some-strike.ensures.slots (c.in-Some-strike.ensures.some v kept.of_life) (c.note-in-Struck.ensures.notes v.history kept.notes)
          c.in-Struck.ensures.moves c.in-Struck.ensures.says c.in-Struck.ensures.holds_none (c.in-Struck.ensures.struck refl),
    )

pub invariant_of-self-in-NoRoom : goal.invariant_of-self-in-NoRoom
invariant_of-self-in-NoRoom g c = record {
  view = c.self.invariant.view;
  kept = life_head (opened c.legal_histories_are_in_order.ensures) c.self.invariant.view _ c.self.invariant.kept c.serve.new.desk c.in-Some.chosen.queue c.holder-request.result (subst (λ (i : ℕ). Contains (waiting c.self.invariant.view.history c.in-Some.chosen.queue) i) (sym c.holder-request.ensures) (holder_waits (opened c.legal_histories_are_in_order.ensures) c.self.invariant.view _ c.self.invariant.kept c.in-Some.chosen.queue c.in-Some.chosen.request (chosen_stands c.self.inside.ledger c.in-Some.chosen c.in-Some.ensures.chosen))) c.in-NoRoom.ensures.moves c.in-NoRoom.ensures.says c.in-NoRoom.ensures.holds_none;
}

pub returns-in-NoRoom-clause-turns : goal.returns-in-NoRoom-clause-turns
returns-in-NoRoom-clause-turns g c v is =
    let kept = (subst (λ (b : LifeBookView). IsLifeKept v b) (sym c.self.view_is) is) in (
      life_head (opened c.legal_histories_are_in_order.ensures) v _ kept c.serve.new.desk c.in-Some.chosen.queue c.holder-request.result (subst (λ (i : ℕ). Contains (waiting v.history c.in-Some.chosen.queue) i) (sym c.holder-request.ensures) (holder_waits (opened c.legal_histories_are_in_order.ensures) v _ kept c.in-Some.chosen.queue c.in-Some.chosen.request (chosen_stands c.self.inside.ledger c.in-Some.chosen c.in-Some.ensures.chosen))) c.in-NoRoom.ensures.moves c.in-NoRoom.ensures.says c.in-NoRoom.ensures.holds_none,
      record {
        request = c.holder-request.result;
        queue = c.in-Some.chosen.queue;
        is_next = next_is_first v c.self.inside.ledger c.in-Some.chosen c.holder-request.result c.holder-request.ensures (c.in-Some.ensures.next v kept.of_life);
        misses = subst (λ (b : LifeBookView). LastFound b.desk.desk.knows b.desk.desk.knows.shape.widths c.holder-request.result c.serve.new.desk.desk.knows) c.self.view_is
            (subst (λ (s : Shape). LastFound c.self.inside.desk.desk.knows s.widths c.holder-request.result c.serve.new.desk.desk.knows) (sym (ap (λ (b : LifeBookView). b.desk.desk.knows.shape) c.self.view_is ∙ ap (λ (x : GateId). x.shape) c.requires.own)) (c.in-NoRoom.ensures.no_room refl));
      },
    )

pub invariant_of-self-in-Raced : goal.invariant_of-self-in-Raced
invariant_of-self-in-Raced g c = record {
  view = c.self.invariant.view;
  kept = life_head (opened c.legal_histories_are_in_order.ensures) c.self.invariant.view _ c.self.invariant.kept c.serve.new.desk c.in-Some.chosen.queue c.holder-request.result (subst (λ (i : ℕ). Contains (waiting c.self.invariant.view.history c.in-Some.chosen.queue) i) (sym c.holder-request.ensures) (holder_waits (opened c.legal_histories_are_in_order.ensures) c.self.invariant.view _ c.self.invariant.kept c.in-Some.chosen.queue c.in-Some.chosen.request (chosen_stands c.self.inside.ledger c.in-Some.chosen c.in-Some.ensures.chosen))) c.in-Raced.ensures.moves c.in-Raced.ensures.says c.in-Raced.ensures.holds_none;
}

pub returns-in-Raced-clause-turns : goal.returns-in-Raced-clause-turns
returns-in-Raced-clause-turns g c v is =
    let kept = (subst (λ (b : LifeBookView). IsLifeKept v b) (sym c.self.view_is) is) in
    life_head (opened c.legal_histories_are_in_order.ensures) v _ kept c.serve.new.desk c.in-Some.chosen.queue c.holder-request.result (subst (λ (i : ℕ). Contains (waiting v.history c.in-Some.chosen.queue) i) (sym c.holder-request.ensures) (holder_waits (opened c.legal_histories_are_in_order.ensures) v _ kept c.in-Some.chosen.queue c.in-Some.chosen.request (chosen_stands c.self.inside.ledger c.in-Some.chosen c.in-Some.ensures.chosen))) c.in-Raced.ensures.moves c.in-Raced.ensures.says c.in-Raced.ensures.holds_none

pub returns-in-Raced-clause-raced : goal.returns-in-Raced-clause-raced
returns-in-Raced-clause-raced g c _ =
    let lost = c.in-Raced.ensures.raced refl in
    record {
      request = c.holder-request.result;
      before = lost.0;
      more = subst (λ (b : LifeBookView). KnowsMore b.desk.desk.knows lost.0.knows) c.self.view_is lost.1;
      raced = lost.2;
    }
