-- What every history has of an arrival.
use Rattle.std.proofs.Common.{rules, ◌≡◌, ◌≢◌, ◌<◌, ℕ, false, true, length, Option, Some, inl, inr, refl, sym, ap, ◌∙◌, subst}
use Rattle.apf_words.specs.declared.decision.Decision.{Decision}
use Rattle.apf_words.specs.declared.decision.Decision.TheVariants.{QueueFull, Closed, Cancelled}
use Rattle.apf_model.specs.History.{has_arrived}
use Rattle.apf_gate.specs.declared.record.Shape.{Shape}
use Rattle.apf_gate.specs.Records.{service, KnowsMore}
use Rattle.apf_gate.specs.Requests.{WaitsAlone}
use Rattle.apf_gate.specs.Tokens.{GateId}
use Rattle.apf_queue.specs.View.{queue_count}
use Rattle.apf_book.specs.declared.arrived.Arrived.TheVariants as arrived
use Rattle.apf_gate.specs.JoinedSteps.{JoinedLoadsDecision}
use Rattle.apf_book.specs.Moves.{LastTold}
use Rattle.apf_book.specs.Arrivals.{BothTold}
use Rattle.apf_book.specs.BookView.{logged}
use Rattle.apf_book.specs.LifeBook.{LifeBookView, IsLifeKept, arrived_in}
use Rattle.apf_book.specs.Tries.{IsNewTo}
use Rattle.apf_book.proofs.Opened.{opened}
use Rattle.apf_book.proofs.Saying.{hears_quiet}
use Rattle.apf_book.proofs.Knowing.{more_then, told_then, heard_own, joined_tells}
use Rattle.apf_book.specs.Life.{IsAskedBy, sizes_of}
use Rattle.apf_book.proofs.LifeAsks.{heard_trace, heard_then, asked_now}
use Rattle.apf_book.proofs.LifeKeeping.{life_quiet}
use Rattle.apf_book.proofs.LifeArriving.{has_queues, is_away, is_new, comes, stands_nowhere, life_refused, life_entered, life_full}
use Rattle.apf_book.proofs.life_book.LifeBook.try_arrive.Goals as goal

pub enter-requires-clause-is_nowhere : goal.enter-requires-clause-is_nowhere
enter-requires-clause-is_nowhere g c =
    stands_nowhere (opened c.legal_histories_are_in_order.ensures) c.self.invariant.view (record { desk = c.self.inside.desk; queues = c.self.inside.ledger; notes = c.self.inside.notes }) c.self.invariant.kept c.number-request.result (is_away (record { desk = c.self.inside.desk; queues = c.self.inside.ledger; notes = c.self.inside.notes }) c.args.pass.now c.number-request.result c.number-request.ensures.number (subst (λ (b : LifeBookView). IsNewTo b c.args.pass.now) (sym c.self.view_is) c.requires.is_new) c.hear-found.ensures.same.not_handed)
    (subst (λ (s : Shape). WaitsAlone s c.self.inside.desk.desk c.number-request.result) (sym (ap (λ (b : LifeBookView). b.desk.desk.knows.shape) c.self.view_is ∙ (ap (λ (x : GateId). x.shape) c.requires.own.own ∙ sym (ap (λ (x : GateId). x.shape) c.requires.own.own_pass)))) (subst (λ (i : ℕ). WaitsAlone c.args.pass.now.pass.knows.shape c.self.inside.desk.desk i) (sym c.number-request.ensures.number) c.hear-found.ensures.after.alone))

pub invariant_of-self : goal.invariant_of-self
invariant_of-self g c = record { view = c.self.invariant.view; kept = life_quiet c.self.invariant.view (record { desk = c.self.inside.desk; queues = c.self.inside.ledger; notes = c.self.inside.notes }) c.hear-found.new.desk c.self.invariant.kept c.hear-found.ensures.after.served c.hear-found.ensures.same.more (hears_quiet c.args.pass.now.pass c.hear-found.new.pass.pass c.self.inside.desk.desk c.hear-found.new.desk.desk c.hear-found.result c.hear-found.ensures.answer) }

pub invariant_of-self-in-Entered : goal.invariant_of-self-in-Entered
invariant_of-self-in-Entered g c = record {
  view = _;
  kept = life_entered (opened c.legal_histories_are_in_order.ensures) c.self.invariant.view (record { desk = c.self.inside.desk; queues = c.self.inside.ledger; notes = c.self.inside.notes }) c.self.invariant.kept c.number-request.result (is_away (record { desk = c.self.inside.desk; queues = c.self.inside.ledger; notes = c.self.inside.notes }) c.args.pass.now c.number-request.result c.number-request.ensures.number (subst (λ (b : LifeBookView). IsNewTo b c.args.pass.now) (sym c.self.view_is) c.requires.is_new) c.hear-found.ensures.same.not_handed) c.hear-found.new.desk c.hear-found.ensures.after.served c.hear-found.ensures.same.more (hears_quiet c.args.pass.now.pass c.hear-found.new.pass.pass c.self.inside.desk.desk c.hear-found.new.desk.desk c.hear-found.result c.hear-found.ensures.answer) c.hear-found.new.pass.pass.number (c.hear-found.ensures.same.number ∙ sym c.number-request.ensures.number) (has_queues c.self.inside.desk.desk.knows.shape c.args.gate.now.shape (ap (λ (b : LifeBookView). b.desk.desk.knows.shape) c.self.view_is ∙ ap (λ (x : GateId). x.shape) c.requires.own.own) c.requires.has_queues)
      (record { desk = c.try_hand.new.desk; queues = c.enter.new.self; notes = c.note.new.self }) c.args.dealt.now c.shortest-queue.result c.args.cost c.enter.ensures.slots (c.enter.ensures.enters c.self.invariant.view c.args.dealt.now c.self.invariant.kept.of_life (comes (opened c.legal_histories_are_in_order.ensures) c.self.invariant.view (record { desk = c.self.inside.desk; queues = c.self.inside.ledger; notes = c.self.inside.notes }) c.self.invariant.kept c.number-request.result (is_away (record { desk = c.self.inside.desk; queues = c.self.inside.ledger; notes = c.self.inside.notes }) c.args.pass.now c.number-request.result c.number-request.ensures.number (subst (λ (b : LifeBookView). IsNewTo b c.args.pass.now) (sym c.self.view_is) c.requires.is_new) c.hear-found.ensures.same.not_handed) c.args.dealt.now c.shortest-queue.result (subst (λ (s : Shape). c.number-request.result < length s.widths) (sym (ap (λ (b : LifeBookView). b.desk.desk.knows.shape) c.self.view_is ∙ (ap (λ (x : GateId). x.shape) c.requires.own.own ∙ sym (ap (λ (x : GateId). x.shape) c.requires.own.own_pass)))) c.number-request.ensures.inside) c.shortest-queue.ensures.is_queue (c.shortest-queue.ensures.shortest c.self.invariant.view c.self.invariant.kept.of_life)))
      (c.note.ensures.notes c.self.invariant.view.history c.self.invariant.kept.notes) c.in-Entered.ensures.moves c.in-Entered.ensures.says c.in-Entered.ensures.held (λ none. asked_now c.self.invariant.view c.self.inside.ledger c.enter.new.self c.args.pass.now.pass.knows.trace c.try_hand.new.desk.desk.knows.trace c.args.dealt.now c.args.cost c.args.pass.now.pass.number c.number-request.result c.self.invariant.kept.of_life.deck c.enter.ensures.slots.1 c.number-request.ensures.number (heard_then c.args.pass.now.pass.knows.trace c.hear-found.new.desk.desk.knows c.try_hand.new.desk.desk.knows (heard_trace (record { pass = c.args.pass.now.pass; desk = c.self.inside.desk.desk }) c.hear-found.result (record { pass = c.hear-found.new.pass.pass; desk = c.hear-found.new.desk.desk }) c.hear-found.ensures.answer) c.in-Entered.ensures.moves.more) (subst (λ (b : LifeBookView). b.queues.known ≡ false → IsAskedBy (sizes_of b.queues) c.args.pass.now.pass.knows.trace c.args.dealt.now c.args.cost c.args.pass.now.pass.number) (sym c.self.view_is) c.requires.asked (sym c.enter.ensures.slots.2 ∙ none)));
}

pub invariant_of-self-in-Full : goal.invariant_of-self-in-Full
invariant_of-self-in-Full g c = record {
  view = _;
  kept = life_full (opened c.legal_histories_are_in_order.ensures) c.self.invariant.view (record { desk = c.self.inside.desk; queues = c.self.inside.ledger; notes = c.self.inside.notes }) c.self.invariant.kept c.number-request.result (is_away (record { desk = c.self.inside.desk; queues = c.self.inside.ledger; notes = c.self.inside.notes }) c.args.pass.now c.number-request.result c.number-request.ensures.number (subst (λ (b : LifeBookView). IsNewTo b c.args.pass.now) (sym c.self.view_is) c.requires.is_new) c.hear-found.ensures.same.not_handed) c.hear-found.new.desk c.hear-found.ensures.after.served c.hear-found.ensures.same.more (hears_quiet c.args.pass.now.pass c.hear-found.new.pass.pass c.self.inside.desk.desk c.hear-found.new.desk.desk c.hear-found.result c.hear-found.ensures.answer) c.hear-found.new.pass.pass.number (c.hear-found.ensures.same.number ∙ sym c.number-request.ensures.number) (has_queues c.self.inside.desk.desk.knows.shape c.args.gate.now.shape (ap (λ (b : LifeBookView). b.desk.desk.knows.shape) c.self.view_is ∙ ap (λ (x : GateId). x.shape) c.requires.own.own) c.requires.has_queues)
      (record { desk = c.try_hand.new.desk; queues = c.self.inside.ledger; notes = c.note-in-Full.new.self }) c.args.dealt.now c.shortest-queue.result c.args.cost (refl, refl, refl) (c.refuse.ensures c.self.invariant.view c.args.dealt.now c.args.cost c.self.invariant.kept.of_life (comes (opened c.legal_histories_are_in_order.ensures) c.self.invariant.view (record { desk = c.self.inside.desk; queues = c.self.inside.ledger; notes = c.self.inside.notes }) c.self.invariant.kept c.number-request.result (is_away (record { desk = c.self.inside.desk; queues = c.self.inside.ledger; notes = c.self.inside.notes }) c.args.pass.now c.number-request.result c.number-request.ensures.number (subst (λ (b : LifeBookView). IsNewTo b c.args.pass.now) (sym c.self.view_is) c.requires.is_new) c.hear-found.ensures.same.not_handed) c.args.dealt.now c.shortest-queue.result (subst (λ (s : Shape). c.number-request.result < length s.widths) (sym (ap (λ (b : LifeBookView). b.desk.desk.knows.shape) c.self.view_is ∙ (ap (λ (x : GateId). x.shape) c.requires.own.own ∙ sym (ap (λ (x : GateId). x.shape) c.requires.own.own_pass)))) c.number-request.ensures.inside) c.shortest-queue.ensures.is_queue (c.shortest-queue.ensures.shortest c.self.invariant.view c.self.invariant.kept.of_life)) c.requires.ask.low)
      (c.note-in-Full.ensures.notes c.self.invariant.view.history c.self.invariant.kept.notes) c.in-Full.ensures.moves c.in-Full.ensures.says c.in-Full.ensures.held (λ none. asked_now c.self.invariant.view c.self.inside.ledger c.self.inside.ledger c.args.pass.now.pass.knows.trace c.try_hand.new.desk.desk.knows.trace c.args.dealt.now c.args.cost c.args.pass.now.pass.number c.number-request.result c.self.invariant.kept.of_life.deck refl c.number-request.ensures.number (heard_then c.args.pass.now.pass.knows.trace c.hear-found.new.desk.desk.knows c.try_hand.new.desk.desk.knows (heard_trace (record { pass = c.args.pass.now.pass; desk = c.self.inside.desk.desk }) c.hear-found.result (record { pass = c.hear-found.new.pass.pass; desk = c.hear-found.new.desk.desk }) c.hear-found.ensures.answer) c.in-Full.ensures.moves.more) (subst (λ (b : LifeBookView). b.queues.known ≡ false → IsAskedBy (sizes_of b.queues) c.args.pass.now.pass.knows.trace c.args.dealt.now c.args.cost c.args.pass.now.pass.number) (sym c.self.view_is) c.requires.asked none));
}

pub invariant_of-self-in-Closed : goal.invariant_of-self-in-Closed
invariant_of-self-in-Closed g c = record { view = c.self.invariant.view; kept = life_refused (opened c.legal_histories_are_in_order.ensures) c.self.invariant.view (record { desk = c.self.inside.desk; queues = c.self.inside.ledger; notes = c.self.inside.notes }) c.self.invariant.kept c.number-request.result (is_away (record { desk = c.self.inside.desk; queues = c.self.inside.ledger; notes = c.self.inside.notes }) c.args.pass.now c.number-request.result c.number-request.ensures.number (subst (λ (b : LifeBookView). IsNewTo b c.args.pass.now) (sym c.self.view_is) c.requires.is_new) c.hear-found.ensures.same.not_handed) c.hear-found.new.desk c.hear-found.ensures.after.served c.hear-found.ensures.same.more (hears_quiet c.args.pass.now.pass c.hear-found.new.pass.pass c.self.inside.desk.desk c.hear-found.new.desk.desk c.hear-found.result c.hear-found.ensures.answer) c.hear-found.new.pass.pass.number (c.hear-found.ensures.same.number ∙ sym c.number-request.ensures.number) c.try_hand.new.desk c.in-Closed.ensures.moves c.in-Closed.ensures.says c.in-Closed.ensures.held }

pub invariant_of-self-in-Cancelled : goal.invariant_of-self-in-Cancelled
invariant_of-self-in-Cancelled g c = record { view = c.self.invariant.view; kept = life_refused (opened c.legal_histories_are_in_order.ensures) c.self.invariant.view (record { desk = c.self.inside.desk; queues = c.self.inside.ledger; notes = c.self.inside.notes }) c.self.invariant.kept c.number-request.result (is_away (record { desk = c.self.inside.desk; queues = c.self.inside.ledger; notes = c.self.inside.notes }) c.args.pass.now c.number-request.result c.number-request.ensures.number (subst (λ (b : LifeBookView). IsNewTo b c.args.pass.now) (sym c.self.view_is) c.requires.is_new) c.hear-found.ensures.same.not_handed) c.hear-found.new.desk c.hear-found.ensures.after.served c.hear-found.ensures.same.more (hears_quiet c.args.pass.now.pass c.hear-found.new.pass.pass c.self.inside.desk.desk c.hear-found.new.desk.desk c.hear-found.result c.hear-found.ensures.answer) c.hear-found.new.pass.pass.number (c.hear-found.ensures.same.number ∙ sym c.number-request.ensures.number) c.try_hand.new.desk c.in-Cancelled.ensures.moves c.in-Cancelled.ensures.says c.in-Cancelled.ensures.held }

pub returns-then-eq-clause-answer : goal.returns-then-eq-clause-answer
returns-then-eq-clause-answer g c = record {
  history = λ v is. life_quiet v (record { desk = c.self.inside.desk; queues = c.self.inside.ledger; notes = c.self.inside.notes }) c.hear-found.new.desk (subst (λ (b : LifeBookView). IsLifeKept v b) (sym c.self.view_is) is) c.hear-found.ensures.after.served c.hear-found.ensures.same.more (hears_quiet c.args.pass.now.pass c.hear-found.new.pass.pass c.self.inside.desk.desk c.hear-found.new.desk.desk c.hear-found.result c.hear-found.ensures.answer);
  is_new = λ v is. subst (λ (i : ℕ). has_arrived v.history i ≡ false) c.number-request.ensures.number (is_new (opened c.legal_histories_are_in_order.ensures) v (record { desk = c.self.inside.desk; queues = c.self.inside.ledger; notes = c.self.inside.notes }) (subst (λ (b : LifeBookView). IsLifeKept v b) (sym c.self.view_is) is) c.number-request.result (is_away (record { desk = c.self.inside.desk; queues = c.self.inside.ledger; notes = c.self.inside.notes }) c.args.pass.now c.number-request.result c.number-request.ensures.number (subst (λ (b : LifeBookView). IsNewTo b c.args.pass.now) (sym c.self.view_is) c.requires.is_new) c.hear-found.ensures.same.not_handed));
  told =
      let found : c.hear-found.result ≡ Some Cancelled = search rules in
      let loads = subst (λ (x : Option Decision). JoinedLoadsDecision (record { pass = c.args.pass.now.pass; desk = c.self.inside.desk.desk }) x (record { pass = c.hear-found.new.pass.pass; desk = c.hear-found.new.desk.desk })) found c.hear-found.ensures.answer in
      let last = joined_tells (record { pass = c.args.pass.now.pass; desk = c.self.inside.desk.desk }) (record { pass = c.hear-found.new.pass.pass; desk = c.hear-found.new.desk.desk }) Cancelled loads in (
        subst (λ (b : LifeBookView). LastTold b.desk.desk.knows c.hear-found.new.pass.pass.number Cancelled c.hear-found.new.desk.desk.knows) c.self.view_is
            (subst (λ (r : ℕ). LastTold c.self.inside.desk.desk.knows r Cancelled c.hear-found.new.desk.desk.knows) (sym c.hear-found.ensures.same.number) last),
        heard_own (record { pass = c.args.pass.now.pass; desk = c.self.inside.desk.desk }) (record { pass = c.hear-found.new.pass.pass; desk = c.hear-found.new.desk.desk }) c.hear-found.result c.hear-found.ensures.answer ∙ found,
      );
  first = λ e. cc;
}

pub returns-in-Entered-clause-answer : goal.returns-in-Entered-clause-answer
returns-in-Entered-clause-answer g c = record {
  history = λ v is. let kept = (subst (λ (b : LifeBookView). IsLifeKept v b) (sym c.self.view_is) is) in
      subst (λ (i : ℕ). IsLifeKept (arrived_in v i c.args.dealt.now c.args.cost (arrived.Queued c.shortest-queue.result)) (record { desk = c.try_hand.new.desk; queues = c.enter.new.self; notes = c.note.new.self })) c.number-request.ensures.number (life_entered (opened c.legal_histories_are_in_order.ensures) v (record { desk = c.self.inside.desk; queues = c.self.inside.ledger; notes = c.self.inside.notes }) kept c.number-request.result (is_away (record { desk = c.self.inside.desk; queues = c.self.inside.ledger; notes = c.self.inside.notes }) c.args.pass.now c.number-request.result c.number-request.ensures.number (subst (λ (b : LifeBookView). IsNewTo b c.args.pass.now) (sym c.self.view_is) c.requires.is_new) c.hear-found.ensures.same.not_handed) c.hear-found.new.desk c.hear-found.ensures.after.served c.hear-found.ensures.same.more (hears_quiet c.args.pass.now.pass c.hear-found.new.pass.pass c.self.inside.desk.desk c.hear-found.new.desk.desk c.hear-found.result c.hear-found.ensures.answer) c.hear-found.new.pass.pass.number (c.hear-found.ensures.same.number ∙ sym c.number-request.ensures.number) (has_queues c.self.inside.desk.desk.knows.shape c.args.gate.now.shape (ap (λ (b : LifeBookView). b.desk.desk.knows.shape) c.self.view_is ∙ ap (λ (x : GateId). x.shape) c.requires.own.own) c.requires.has_queues)
      (record { desk = c.try_hand.new.desk; queues = c.enter.new.self; notes = c.note.new.self }) c.args.dealt.now c.shortest-queue.result c.args.cost c.enter.ensures.slots (c.enter.ensures.enters v c.args.dealt.now kept.of_life (comes (opened c.legal_histories_are_in_order.ensures) v (record { desk = c.self.inside.desk; queues = c.self.inside.ledger; notes = c.self.inside.notes }) kept c.number-request.result (is_away (record { desk = c.self.inside.desk; queues = c.self.inside.ledger; notes = c.self.inside.notes }) c.args.pass.now c.number-request.result c.number-request.ensures.number (subst (λ (b : LifeBookView). IsNewTo b c.args.pass.now) (sym c.self.view_is) c.requires.is_new) c.hear-found.ensures.same.not_handed) c.args.dealt.now c.shortest-queue.result (subst (λ (s : Shape). c.number-request.result < length s.widths) (sym (ap (λ (b : LifeBookView). b.desk.desk.knows.shape) c.self.view_is ∙ (ap (λ (x : GateId). x.shape) c.requires.own.own ∙ sym (ap (λ (x : GateId). x.shape) c.requires.own.own_pass)))) c.number-request.ensures.inside) c.shortest-queue.ensures.is_queue (c.shortest-queue.ensures.shortest v kept.of_life)))
      (c.note.ensures.notes v.history kept.notes) c.in-Entered.ensures.moves c.in-Entered.ensures.says c.in-Entered.ensures.held (λ none. asked_now v c.self.inside.ledger c.enter.new.self c.args.pass.now.pass.knows.trace c.try_hand.new.desk.desk.knows.trace c.args.dealt.now c.args.cost c.args.pass.now.pass.number c.number-request.result kept.of_life.deck c.enter.ensures.slots.1 c.number-request.ensures.number (heard_then c.args.pass.now.pass.knows.trace c.hear-found.new.desk.desk.knows c.try_hand.new.desk.desk.knows (heard_trace (record { pass = c.args.pass.now.pass; desk = c.self.inside.desk.desk }) c.hear-found.result (record { pass = c.hear-found.new.pass.pass; desk = c.hear-found.new.desk.desk }) c.hear-found.ensures.answer) c.in-Entered.ensures.moves.more) (subst (λ (b : LifeBookView). b.queues.known ≡ false → IsAskedBy (sizes_of b.queues) c.args.pass.now.pass.knows.trace c.args.dealt.now c.args.cost c.args.pass.now.pass.number) (sym c.self.view_is) c.requires.asked (sym c.enter.ensures.slots.2 ∙ none))));
  is_new = λ v is. subst (λ (i : ℕ). has_arrived v.history i ≡ false) c.number-request.ensures.number (is_new (opened c.legal_histories_are_in_order.ensures) v (record { desk = c.self.inside.desk; queues = c.self.inside.ledger; notes = c.self.inside.notes }) (subst (λ (b : LifeBookView). IsLifeKept v b) (sym c.self.view_is) is) c.number-request.result (is_away (record { desk = c.self.inside.desk; queues = c.self.inside.ledger; notes = c.self.inside.notes }) c.args.pass.now c.number-request.result c.number-request.ensures.number (subst (λ (b : LifeBookView). IsNewTo b c.args.pass.now) (sym c.self.view_is) c.requires.is_new) c.hear-found.ensures.same.not_handed));
  told = search rules;
  first = λ e. cc;
}

pub returns-in-Full-clause-answer : goal.returns-in-Full-clause-answer
returns-in-Full-clause-answer g c = record {
  history = λ v is. let kept = (subst (λ (b : LifeBookView). IsLifeKept v b) (sym c.self.view_is) is) in
      subst (λ (i : ℕ). IsLifeKept (arrived_in v i c.args.dealt.now c.args.cost (arrived.Full c.shortest-queue.result)) (record { desk = c.try_hand.new.desk; queues = c.self.inside.ledger; notes = c.note-in-Full.new.self })) c.number-request.ensures.number (life_full (opened c.legal_histories_are_in_order.ensures) v (record { desk = c.self.inside.desk; queues = c.self.inside.ledger; notes = c.self.inside.notes }) kept c.number-request.result (is_away (record { desk = c.self.inside.desk; queues = c.self.inside.ledger; notes = c.self.inside.notes }) c.args.pass.now c.number-request.result c.number-request.ensures.number (subst (λ (b : LifeBookView). IsNewTo b c.args.pass.now) (sym c.self.view_is) c.requires.is_new) c.hear-found.ensures.same.not_handed) c.hear-found.new.desk c.hear-found.ensures.after.served c.hear-found.ensures.same.more (hears_quiet c.args.pass.now.pass c.hear-found.new.pass.pass c.self.inside.desk.desk c.hear-found.new.desk.desk c.hear-found.result c.hear-found.ensures.answer) c.hear-found.new.pass.pass.number (c.hear-found.ensures.same.number ∙ sym c.number-request.ensures.number) (has_queues c.self.inside.desk.desk.knows.shape c.args.gate.now.shape (ap (λ (b : LifeBookView). b.desk.desk.knows.shape) c.self.view_is ∙ ap (λ (x : GateId). x.shape) c.requires.own.own) c.requires.has_queues)
      (record { desk = c.try_hand.new.desk; queues = c.self.inside.ledger; notes = c.note-in-Full.new.self }) c.args.dealt.now c.shortest-queue.result c.args.cost (refl, refl, refl) (c.refuse.ensures v c.args.dealt.now c.args.cost kept.of_life (comes (opened c.legal_histories_are_in_order.ensures) v (record { desk = c.self.inside.desk; queues = c.self.inside.ledger; notes = c.self.inside.notes }) kept c.number-request.result (is_away (record { desk = c.self.inside.desk; queues = c.self.inside.ledger; notes = c.self.inside.notes }) c.args.pass.now c.number-request.result c.number-request.ensures.number (subst (λ (b : LifeBookView). IsNewTo b c.args.pass.now) (sym c.self.view_is) c.requires.is_new) c.hear-found.ensures.same.not_handed) c.args.dealt.now c.shortest-queue.result (subst (λ (s : Shape). c.number-request.result < length s.widths) (sym (ap (λ (b : LifeBookView). b.desk.desk.knows.shape) c.self.view_is ∙ (ap (λ (x : GateId). x.shape) c.requires.own.own ∙ sym (ap (λ (x : GateId). x.shape) c.requires.own.own_pass)))) c.number-request.ensures.inside) c.shortest-queue.ensures.is_queue (c.shortest-queue.ensures.shortest v kept.of_life)) c.requires.ask.low)
      (c.note-in-Full.ensures.notes v.history kept.notes) c.in-Full.ensures.moves c.in-Full.ensures.says c.in-Full.ensures.held (λ none. asked_now v c.self.inside.ledger c.self.inside.ledger c.args.pass.now.pass.knows.trace c.try_hand.new.desk.desk.knows.trace c.args.dealt.now c.args.cost c.args.pass.now.pass.number c.number-request.result kept.of_life.deck refl c.number-request.ensures.number (heard_then c.args.pass.now.pass.knows.trace c.hear-found.new.desk.desk.knows c.try_hand.new.desk.desk.knows (heard_trace (record { pass = c.args.pass.now.pass; desk = c.self.inside.desk.desk }) c.hear-found.result (record { pass = c.hear-found.new.pass.pass; desk = c.hear-found.new.desk.desk }) c.hear-found.ensures.answer) c.in-Full.ensures.moves.more) (subst (λ (b : LifeBookView). b.queues.known ≡ false → IsAskedBy (sizes_of b.queues) c.args.pass.now.pass.knows.trace c.args.dealt.now c.args.cost c.args.pass.now.pass.number) (sym c.self.view_is) c.requires.asked none)));
  is_new = λ v is. subst (λ (i : ℕ). has_arrived v.history i ≡ false) c.number-request.ensures.number (is_new (opened c.legal_histories_are_in_order.ensures) v (record { desk = c.self.inside.desk; queues = c.self.inside.ledger; notes = c.self.inside.notes }) (subst (λ (b : LifeBookView). IsLifeKept v b) (sym c.self.view_is) is) c.number-request.result (is_away (record { desk = c.self.inside.desk; queues = c.self.inside.ledger; notes = c.self.inside.notes }) c.args.pass.now c.number-request.result c.number-request.ensures.number (subst (λ (b : LifeBookView). IsNewTo b c.args.pass.now) (sym c.self.view_is) c.requires.is_new) c.hear-found.ensures.same.not_handed));
  told = subst (λ (b : LifeBookView). BothTold QueueFull c.try_hand.new.pass.pass b.desk.desk.knows c.try_hand.new.desk.desk.knows) c.self.view_is
      (told_then c.self.inside.desk.desk.knows c.hear-found.new.desk.desk.knows c.try_hand.new.desk.desk.knows c.try_hand.new.pass.pass.number QueueFull c.hear-found.ensures.same.more c.in-Full.ensures.told.0, c.in-Full.ensures.told.1);
  first = λ e. cc;
}

pub returns-in-Closed-clause-answer : goal.returns-in-Closed-clause-answer
returns-in-Closed-clause-answer g c = record {
  history = λ v is. life_refused (opened c.legal_histories_are_in_order.ensures) v (record { desk = c.self.inside.desk; queues = c.self.inside.ledger; notes = c.self.inside.notes }) (subst (λ (b : LifeBookView). IsLifeKept v b) (sym c.self.view_is) is) c.number-request.result (is_away (record { desk = c.self.inside.desk; queues = c.self.inside.ledger; notes = c.self.inside.notes }) c.args.pass.now c.number-request.result c.number-request.ensures.number (subst (λ (b : LifeBookView). IsNewTo b c.args.pass.now) (sym c.self.view_is) c.requires.is_new) c.hear-found.ensures.same.not_handed) c.hear-found.new.desk c.hear-found.ensures.after.served c.hear-found.ensures.same.more (hears_quiet c.args.pass.now.pass c.hear-found.new.pass.pass c.self.inside.desk.desk c.hear-found.new.desk.desk c.hear-found.result c.hear-found.ensures.answer) c.hear-found.new.pass.pass.number (c.hear-found.ensures.same.number ∙ sym c.number-request.ensures.number) c.try_hand.new.desk c.in-Closed.ensures.moves c.in-Closed.ensures.says c.in-Closed.ensures.held;
  is_new = λ v is. subst (λ (i : ℕ). has_arrived v.history i ≡ false) c.number-request.ensures.number (is_new (opened c.legal_histories_are_in_order.ensures) v (record { desk = c.self.inside.desk; queues = c.self.inside.ledger; notes = c.self.inside.notes }) (subst (λ (b : LifeBookView). IsLifeKept v b) (sym c.self.view_is) is) c.number-request.result (is_away (record { desk = c.self.inside.desk; queues = c.self.inside.ledger; notes = c.self.inside.notes }) c.args.pass.now c.number-request.result c.number-request.ensures.number (subst (λ (b : LifeBookView). IsNewTo b c.args.pass.now) (sym c.self.view_is) c.requires.is_new) c.hear-found.ensures.same.not_handed));
  told = subst (λ (b : LifeBookView). BothTold Closed c.try_hand.new.pass.pass b.desk.desk.knows c.try_hand.new.desk.desk.knows) c.self.view_is
      (told_then c.self.inside.desk.desk.knows c.hear-found.new.desk.desk.knows c.try_hand.new.desk.desk.knows c.try_hand.new.pass.pass.number Closed c.hear-found.ensures.same.more c.in-Closed.ensures.told.0, c.in-Closed.ensures.told.1);
  first = λ e. cc;
}

pub returns-in-Cancelled-clause-answer : goal.returns-in-Cancelled-clause-answer
returns-in-Cancelled-clause-answer g c = record {
  history = λ v is. life_refused (opened c.legal_histories_are_in_order.ensures) v (record { desk = c.self.inside.desk; queues = c.self.inside.ledger; notes = c.self.inside.notes }) (subst (λ (b : LifeBookView). IsLifeKept v b) (sym c.self.view_is) is) c.number-request.result (is_away (record { desk = c.self.inside.desk; queues = c.self.inside.ledger; notes = c.self.inside.notes }) c.args.pass.now c.number-request.result c.number-request.ensures.number (subst (λ (b : LifeBookView). IsNewTo b c.args.pass.now) (sym c.self.view_is) c.requires.is_new) c.hear-found.ensures.same.not_handed) c.hear-found.new.desk c.hear-found.ensures.after.served c.hear-found.ensures.same.more (hears_quiet c.args.pass.now.pass c.hear-found.new.pass.pass c.self.inside.desk.desk c.hear-found.new.desk.desk c.hear-found.result c.hear-found.ensures.answer) c.hear-found.new.pass.pass.number (c.hear-found.ensures.same.number ∙ sym c.number-request.ensures.number) c.try_hand.new.desk c.in-Cancelled.ensures.moves c.in-Cancelled.ensures.says c.in-Cancelled.ensures.held;
  is_new = λ v is. subst (λ (i : ℕ). has_arrived v.history i ≡ false) c.number-request.ensures.number (is_new (opened c.legal_histories_are_in_order.ensures) v (record { desk = c.self.inside.desk; queues = c.self.inside.ledger; notes = c.self.inside.notes }) (subst (λ (b : LifeBookView). IsLifeKept v b) (sym c.self.view_is) is) c.number-request.result (is_away (record { desk = c.self.inside.desk; queues = c.self.inside.ledger; notes = c.self.inside.notes }) c.args.pass.now c.number-request.result c.number-request.ensures.number (subst (λ (b : LifeBookView). IsNewTo b c.args.pass.now) (sym c.self.view_is) c.requires.is_new) c.hear-found.ensures.same.not_handed));
  told = subst (λ (b : LifeBookView). BothTold Cancelled c.try_hand.new.pass.pass b.desk.desk.knows c.try_hand.new.desk.desk.knows) c.self.view_is
      (told_then c.self.inside.desk.desk.knows c.hear-found.new.desk.desk.knows c.try_hand.new.desk.desk.knows c.try_hand.new.pass.pass.number Cancelled c.hear-found.ensures.same.more c.in-Cancelled.ensures.told.0, c.in-Cancelled.ensures.told.1);
  first = λ e. cc;
}

pub returns-in-Entered-clause-same : goal.returns-in-Entered-clause-same
returns-in-Entered-clause-same g c = record {
  gate = search rules;
  more = subst (λ (b : LifeBookView). KnowsMore b.desk.desk.knows c.try_hand.new.desk.desk.knows) c.self.view_is
      (more_then c.self.inside.desk.desk.knows c.hear-found.new.desk.desk.knows c.try_hand.new.desk.desk.knows c.hear-found.ensures.same.more c.in-Entered.ensures.moves.more);
  queues = (c.enter.ensures.enters c.self.invariant.view c.args.dealt.now c.self.invariant.kept.of_life (comes (opened c.legal_histories_are_in_order.ensures) c.self.invariant.view (record { desk = c.self.inside.desk; queues = c.self.inside.ledger; notes = c.self.inside.notes }) c.self.invariant.kept c.number-request.result (is_away (record { desk = c.self.inside.desk; queues = c.self.inside.ledger; notes = c.self.inside.notes }) c.args.pass.now c.number-request.result c.number-request.ensures.number (subst (λ (b : LifeBookView). IsNewTo b c.args.pass.now) (sym c.self.view_is) c.requires.is_new) c.hear-found.ensures.same.not_handed) c.args.dealt.now c.shortest-queue.result (subst (λ (s : Shape). c.number-request.result < length s.widths) (sym (ap (λ (b : LifeBookView). b.desk.desk.knows.shape) c.self.view_is ∙ (ap (λ (x : GateId). x.shape) c.requires.own.own ∙ sym (ap (λ (x : GateId). x.shape) c.requires.own.own_pass)))) c.number-request.ensures.inside) c.shortest-queue.ensures.is_queue (c.shortest-queue.ensures.shortest c.self.invariant.view c.self.invariant.kept.of_life))).deck ∙ (sym c.self.invariant.kept.of_life.deck ∙ ap (λ (b : LifeBookView). queue_count b.queues.queues) c.self.view_is);
  room = search rules;
  hand = search rules;
  places = search rules;
  known = search rules;
}

pub returns-in-Full-clause-same : goal.returns-in-Full-clause-same
returns-in-Full-clause-same g c = record {
  gate = search rules;
  more = subst (λ (b : LifeBookView). KnowsMore b.desk.desk.knows c.try_hand.new.desk.desk.knows) c.self.view_is
      (more_then c.self.inside.desk.desk.knows c.hear-found.new.desk.desk.knows c.try_hand.new.desk.desk.knows c.hear-found.ensures.same.more c.in-Full.ensures.moves.more);
  queues = search rules;
  room = search rules;
  hand = search rules;
  places = search rules;
  known = search rules;
}

pub returns-in-Closed-clause-same : goal.returns-in-Closed-clause-same
returns-in-Closed-clause-same g c = record {
  gate = search rules;
  more = subst (λ (b : LifeBookView). KnowsMore b.desk.desk.knows c.try_hand.new.desk.desk.knows) c.self.view_is
      (more_then c.self.inside.desk.desk.knows c.hear-found.new.desk.desk.knows c.try_hand.new.desk.desk.knows c.hear-found.ensures.same.more c.in-Closed.ensures.moves.more);
  queues = search rules;
  room = search rules;
  hand = search rules;
  places = search rules;
  known = search rules;
}

pub returns-in-Cancelled-clause-same : goal.returns-in-Cancelled-clause-same
returns-in-Cancelled-clause-same g c = record {
  gate = search rules;
  more = subst (λ (b : LifeBookView). KnowsMore b.desk.desk.knows c.try_hand.new.desk.desk.knows) c.self.view_is
      (more_then c.self.inside.desk.desk.knows c.hear-found.new.desk.desk.knows c.try_hand.new.desk.desk.knows c.hear-found.ensures.same.more c.in-Cancelled.ensures.moves.more);
  queues = search rules;
  room = search rules;
  hand = search rules;
  places = search rules;
  known = search rules;
}

pub returns-in-Entered-clause-after : goal.returns-in-Entered-clause-after
returns-in-Entered-clause-after g c = record {
  in_line = search rules;
  entered = ((λ _. tt), (λ _. c.in-Entered.ensures.entered));
  stays_closed = search rules;
  cancelled_first = search rules;
  cancelled_seen = λ cancelled _.
      let heard = heard_own (record { pass = c.args.pass.now.pass; desk = c.self.inside.desk.desk }) (record { pass = c.hear-found.new.pass.pass; desk = c.hear-found.new.desk.desk }) c.hear-found.result c.hear-found.ensures.answer in
      let seen : c.hear-found.result ≡ Some Cancelled = sym heard ∙ (sym (c.in-Entered.ensures.told_entering (inl refl)) ∙ cancelled) in
      let other : c.hear-found.result ≢ Some Cancelled = (search rules) in
      absurd (other seen);
}

pub returns-in-Full-clause-after : goal.returns-in-Full-clause-after
returns-in-Full-clause-after g c = record {
  in_line = search rules;
  entered = ((λ yes. let bad : true ≡ false = sym yes ∙ c.in-Full.ensures.entered in cc), (λ no. absurd no));
  stays_closed = search rules;
  cancelled_first = search rules;
  cancelled_seen = λ cancelled _. absurd (let bad = sym c.in-Full.ensures.told.1 ∙ cancelled in cc);
}

pub returns-in-Entered-clause-heard : goal.returns-in-Entered-clause-heard
returns-in-Entered-clause-heard g c = (heard_then c.args.pass.now.pass.knows.trace c.hear-found.new.desk.desk.knows c.try_hand.new.desk.desk.knows (heard_trace (record { pass = c.args.pass.now.pass; desk = c.self.inside.desk.desk }) c.hear-found.result (record { pass = c.hear-found.new.pass.pass; desk = c.hear-found.new.desk.desk }) c.hear-found.ensures.answer) c.in-Entered.ensures.moves.more)

pub returns-in-Full-clause-heard : goal.returns-in-Full-clause-heard
returns-in-Full-clause-heard g c = (heard_then c.args.pass.now.pass.knows.trace c.hear-found.new.desk.desk.knows c.try_hand.new.desk.desk.knows (heard_trace (record { pass = c.args.pass.now.pass; desk = c.self.inside.desk.desk }) c.hear-found.result (record { pass = c.hear-found.new.pass.pass; desk = c.hear-found.new.desk.desk }) c.hear-found.ensures.answer) c.in-Full.ensures.moves.more)

pub returns-in-Closed-clause-heard : goal.returns-in-Closed-clause-heard
returns-in-Closed-clause-heard g c = (heard_then c.args.pass.now.pass.knows.trace c.hear-found.new.desk.desk.knows c.try_hand.new.desk.desk.knows (heard_trace (record { pass = c.args.pass.now.pass; desk = c.self.inside.desk.desk }) c.hear-found.result (record { pass = c.hear-found.new.pass.pass; desk = c.hear-found.new.desk.desk }) c.hear-found.ensures.answer) c.in-Closed.ensures.moves.more)

pub returns-in-Cancelled-clause-heard : goal.returns-in-Cancelled-clause-heard
returns-in-Cancelled-clause-heard g c = (heard_then c.args.pass.now.pass.knows.trace c.hear-found.new.desk.desk.knows c.try_hand.new.desk.desk.knows (heard_trace (record { pass = c.args.pass.now.pass; desk = c.self.inside.desk.desk }) c.hear-found.result (record { pass = c.hear-found.new.pass.pass; desk = c.hear-found.new.desk.desk }) c.hear-found.ensures.answer) c.in-Cancelled.ensures.moves.more)

pub invariant_of-self-in-Raced : goal.invariant_of-self-in-Raced
invariant_of-self-in-Raced g c = record { view = c.self.invariant.view; kept = life_refused (opened c.legal_histories_are_in_order.ensures) c.self.invariant.view (record { desk = c.self.inside.desk; queues = c.self.inside.ledger; notes = c.self.inside.notes }) c.self.invariant.kept c.number-request.result (is_away (record { desk = c.self.inside.desk; queues = c.self.inside.ledger; notes = c.self.inside.notes }) c.args.pass.now c.number-request.result c.number-request.ensures.number (subst (λ (b : LifeBookView). IsNewTo b c.args.pass.now) (sym c.self.view_is) c.requires.is_new) c.hear-found.ensures.same.not_handed) c.hear-found.new.desk c.hear-found.ensures.after.served c.hear-found.ensures.same.more (hears_quiet c.args.pass.now.pass c.hear-found.new.pass.pass c.self.inside.desk.desk c.hear-found.new.desk.desk c.hear-found.result c.hear-found.ensures.answer) c.hear-found.new.pass.pass.number (c.hear-found.ensures.same.number ∙ sym c.number-request.ensures.number) c.try_hand.new.desk c.in-Raced.ensures.moves c.in-Raced.ensures.says c.in-Raced.ensures.held }

pub returns-in-Raced-clause-heard : goal.returns-in-Raced-clause-heard
returns-in-Raced-clause-heard g c = heard_then c.args.pass.now.pass.knows.trace c.hear-found.new.desk.desk.knows c.try_hand.new.desk.desk.knows (heard_trace (record { pass = c.args.pass.now.pass; desk = c.self.inside.desk.desk }) c.hear-found.result (record { pass = c.hear-found.new.pass.pass; desk = c.hear-found.new.desk.desk }) c.hear-found.ensures.answer) c.in-Raced.ensures.moves.more

pub returns-in-Raced-clause-raced : goal.returns-in-Raced-clause-raced
returns-in-Raced-clause-raced g c =
    let heard = heard_trace (record { pass = c.args.pass.now.pass; desk = c.self.inside.desk.desk }) c.hear-found.result (record { pass = c.hear-found.new.pass.pass; desk = c.hear-found.new.desk.desk }) c.hear-found.ensures.answer in
    let found = heard_own (record { pass = c.args.pass.now.pass; desk = c.self.inside.desk.desk }) (record { pass = c.hear-found.new.pass.pass; desk = c.hear-found.new.desk.desk }) c.hear-found.result c.hear-found.ensures.answer in
    record {
      history = λ v is. life_refused (opened c.legal_histories_are_in_order.ensures) v (record { desk = c.self.inside.desk; queues = c.self.inside.ledger; notes = c.self.inside.notes }) (subst (λ (b : LifeBookView). IsLifeKept v b) (sym c.self.view_is) is) c.number-request.result (is_away (record { desk = c.self.inside.desk; queues = c.self.inside.ledger; notes = c.self.inside.notes }) c.args.pass.now c.number-request.result c.number-request.ensures.number (subst (λ (b : LifeBookView). IsNewTo b c.args.pass.now) (sym c.self.view_is) c.requires.is_new) c.hear-found.ensures.same.not_handed) c.hear-found.new.desk c.hear-found.ensures.after.served c.hear-found.ensures.same.more (hears_quiet c.args.pass.now.pass c.hear-found.new.pass.pass c.self.inside.desk.desk c.hear-found.new.desk.desk c.hear-found.result c.hear-found.ensures.answer) c.hear-found.new.pass.pass.number (c.hear-found.ensures.same.number ∙ sym c.number-request.ensures.number) c.try_hand.new.desk c.in-Raced.ensures.moves c.in-Raced.ensures.says c.in-Raced.ensures.held;
      is_new = record {
        in_line = c.in-Raced.ensures.in_line;
        away = inr (c.in-Raced.ensures.entered, ap (λ (i : ℕ). logged (service c.try_hand.new.desk.desk i)) c.in-Raced.ensures.number ∙ c.in-Raced.ensures.moves.here);
      };
      not_cancelled = search rules;
      follows = c.in-Raced.ensures.follows;
      loses = record {
        before = (record { pass = c.hear-found.new.pass.pass; desk = c.hear-found.new.desk.desk });
        number = c.hear-found.ensures.same.number;
        desk_more = subst (λ (b : LifeBookView). KnowsMore b.desk.desk.knows c.hear-found.new.desk.desk.knows) c.self.view_is c.hear-found.ensures.same.more;
        pass_more = (heard.0, heard.1 ∙ sym c.hear-found.ensures.same.follows);
        raced = c.in-Raced.ensures.raced refl;
      };
    }

pub returns-in-Raced-clause-same : goal.returns-in-Raced-clause-same
returns-in-Raced-clause-same g c = record {
  gate = search rules;
  more = subst (λ (b : LifeBookView). KnowsMore b.desk.desk.knows c.try_hand.new.desk.desk.knows) c.self.view_is
      (more_then c.self.inside.desk.desk.knows c.hear-found.new.desk.desk.knows c.try_hand.new.desk.desk.knows c.hear-found.ensures.same.more c.in-Raced.ensures.moves.more);
  queues = search rules;
  room = search rules;
  hand = search rules;
  places = search rules;
  known = search rules;
}
