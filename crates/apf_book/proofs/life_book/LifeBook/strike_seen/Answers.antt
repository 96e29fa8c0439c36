-- Who is struck waited, and every history has its Strike.
use Rattle.std.specs.Prelude.{Contains}
use Rattle.apf_model.specs.History.{waiting}
use Rattle.apf_book.specs.Life.{LifeState}
use Rattle.apf_book.specs.Servings.{Strikes}
use Rattle.std.proofs.Common.{rules, ◌≡◌, ◌≢◌, ℕ, List, Some, None, false, true, refl, sym, ap, ◌∙◌, subst}
use Rattle.apf_words.specs.declared.decision.Decision.TheVariants.{Cancelled}
use Rattle.apf_history.specs.declared.events.Event.TheVariants.{Strike}
use Rattle.apf_gate.specs.declared.record.Service.{Service}
use Rattle.apf_gate.specs.Records.{service_of, told_of, KnowsMore}
use Rattle.apf_queue.specs.View.{queue_count}
use Rattle.apf_book.specs.Life.{then_came}
use Rattle.apf_book.specs.LifeBook.{LifeBookView, IsLifeKept}
use Rattle.apf_book.proofs.Opened.{opened}
use Rattle.apf_book.proofs.Knowing.{more_then}
use Rattle.apf_book.proofs.Saying.{loads_decision}
use Rattle.apf_book.proofs.Agreeing.{agreed_cancelled}
use Rattle.apf_book.proofs.LifeKeeping.{life_waits, life_quiet, life_statuses}
use Rattle.apf_book.proofs.LifeTurning.{life_left}
use Rattle.apf_book.proofs.life_book.LifeBook.strike_seen.Given.{Over}
use Rattle.apf_book.proofs.life_book.LifeBook.strike_seen.Goals as goal

pub invariant_of-self : goal.invariant_of-self
invariant_of-self g c = record {
  view = c.self.invariant.view;
  kept = life_quiet c.self.invariant.view (record { desk = c.self.inside.desk; queues = c.self.inside.ledger; notes = c.self.inside.notes }) c.seen.new.desk c.self.invariant.kept c.seen.ensures.after.served c.seen.ensures.same.more (loads_decision c.self.inside.desk.desk c.seen.new.desk.desk c.args.request.number c.seen.result c.seen.ensures.answer);
}

pub returns-then-ne-clause-answer : goal.returns-then-ne-clause-answer
returns-then-ne-clause-answer g c v is = (
  life_quiet v (record { desk = c.self.inside.desk; queues = c.self.inside.ledger; notes = c.self.inside.notes }) c.seen.new.desk (subst (λ (b : LifeBookView). IsLifeKept v b) (sym c.self.view_is) is) c.seen.ensures.after.served c.seen.ensures.same.more (loads_decision c.self.inside.desk.desk c.seen.new.desk.desk c.args.request.number c.seen.result c.seen.ensures.answer),
  λ told q member.
      let kept = (subst (λ (b : LifeBookView). IsLifeKept v b) (sym c.self.view_is) is) in
      let before = subst (λ (b : LifeBookView). told_of b.desk.desk.knows.told c.args.request.number ≢ None) (sym c.self.view_is) told in
      let cancelled = agreed_cancelled v.history (life_statuses (opened c.legal_histories_are_in_order.ensures) v _ kept) c.self.inside.desk.desk kept.agrees q c.args.request.number c.seen.result member c.seen.ensures.after.waits (λ none. before (sym (c.seen.ensures.after.stays before) ∙ none)) in
      absurd (let bad = rw cancelled at c.if-ne.ensures in cc),
)

-- nothing waits by its name
pub invariant_of-self-in_default : goal.invariant_of-self-in_default
invariant_of-self-in_default g c = record {
  view = c.self.invariant.view;
  kept = subst (λ (s : LifeState). IsLifeKept c.self.invariant.view (record { desk = c.seen.new.desk; queues = s; notes = c.self.inside.notes })) (sym c.in_default.ensures.none)
      (life_quiet c.self.invariant.view (record { desk = c.self.inside.desk; queues = c.self.inside.ledger; notes = c.self.inside.notes }) c.seen.new.desk c.self.invariant.kept c.seen.ensures.after.served c.seen.ensures.same.more (loads_decision c.self.inside.desk.desk c.seen.new.desk.desk c.args.request.number c.seen.result c.seen.ensures.answer));
}

pub returns-in_default-clause-answer : goal.returns-in_default-clause-answer
returns-in_default-clause-answer g c v is =
    let kept = subst (λ (b : LifeBookView). IsLifeKept v b) (sym c.self.view_is) is in (
      subst (λ (s : LifeState). IsLifeKept v (record { desk = c.seen.new.desk; queues = s; notes = c.self.inside.notes })) (sym c.in_default.ensures.none)
          (life_quiet v (record { desk = c.self.inside.desk; queues = c.self.inside.ledger; notes = c.self.inside.notes }) c.seen.new.desk kept c.seen.ensures.after.served c.seen.ensures.same.more (loads_decision c.self.inside.desk.desk c.seen.new.desk.desk c.args.request.number c.seen.result c.seen.ensures.answer)),
      λ told. c.in_default.ensures.nowhere v kept.of_life,
    )

pub returns-in_default-clause-reads : goal.returns-in_default-clause-reads
returns-in_default-clause-reads g c v is =
    let kept = subst (λ (b : LifeBookView). IsLifeKept v b) (sym c.self.view_is) is in
    subst (λ (b : LifeBookView). Strikes b.desk.desk c.args.request.number false ((q : ℕ) × Contains (waiting v.history q) c.args.request.number) c.seen.new.desk.desk) c.self.view_is
    (c.seen.result, c.seen.new.desk.desk, c.seen.ensures.answer, (refl, λ waits found. c.in_default.ensures.nowhere v kept.of_life waits.0 waits.1))

pub leave-requires-clause-waits : goal.leave-requires-clause-waits
leave-requires-clause-waits g c =
    let came = c.in-Some.ensures.some c.self.invariant.view c.self.invariant.kept.of_life in
    ap (λ (services : List (ℕ × Service)). service_of services c.args.request.number) c.seen.ensures.after.served.0 ∙ life_waits (opened c.legal_histories_are_in_order.ensures) c.self.invariant.view _ c.self.invariant.kept c.in-Some.queue c.args.request.number came.fair.0.0

-- the Desk was told cancelled
told_now : (g : Over) (c : goal.After-note g) → told_of c.seen.new.desk.desk.knows.told c.args.request.number ≡ Some Cancelled
told_now g c = search rules

pub invariant_of-self-2 : goal.invariant_of-self-2
invariant_of-self-2 g c =
    let told : told_of c.seen.new.desk.desk.knows.told c.args.request.number ≡ Some Cancelled = told_now g c in
    record {
      view = then_came c.self.invariant.view (Strike c.args.request.number c.in-Some.queue);
      kept = life_left c.self.invariant.view (record { desk = c.self.inside.desk; queues = c.self.inside.ledger; notes = c.self.inside.notes }) c.seen.new.desk c.leave.new.desk c.strike.new.self c.note.new.self c.args.request.number c.in-Some.queue c.seen.result c.leave.ensures.answer.0 c.self.invariant.kept c.seen.ensures.after.served c.seen.ensures.same.more c.seen.ensures.answer
          c.leave.ensures.after.services c.leave.ensures.after.held c.leave.ensures.same.more c.leave.ensures.answer.1 told c.in-Some.ensures.slots (c.in-Some.ensures.some c.self.invariant.view c.self.invariant.kept.of_life) (c.note.ensures.notes c.self.invariant.view.history c.self.invariant.kept.notes);
    }

pub returns-clause-same : goal.returns-clause-same
returns-clause-same g c = record {
  gate = search rules;
  more = subst (λ (b : LifeBookView). KnowsMore b.desk.desk.knows c.leave.new.desk.desk.knows) c.self.view_is
      (more_then c.self.inside.desk.desk.knows c.seen.new.desk.desk.knows c.leave.new.desk.desk.knows c.seen.ensures.same.more c.leave.ensures.same.more);
  queues = (c.in-Some.ensures.some c.self.invariant.view c.self.invariant.kept.of_life).deck ∙ (sym c.self.invariant.kept.of_life.deck ∙ ap (λ (b : LifeBookView). queue_count b.queues.queues) c.self.view_is);
  room = search rules;
  hand = search rules;
  places = search rules;
  known = search rules;
}

pub returns-clause-answer : goal.returns-clause-answer
returns-clause-answer g c v is =
    let kept = (subst (λ (b : LifeBookView). IsLifeKept v b) (sym c.self.view_is) is) in
    let told : told_of c.seen.new.desk.desk.knows.told c.args.request.number ≡ Some Cancelled = told_now g c in
    let came = c.in-Some.ensures.some v kept.of_life in (
      c.in-Some.queue,
      came.fair.0.0,
      life_left v (record { desk = c.self.inside.desk; queues = c.self.inside.ledger; notes = c.self.inside.notes }) c.seen.new.desk c.leave.new.desk c.strike.new.self c.note.new.self c.args.request.number c.in-Some.queue c.seen.result c.leave.ensures.answer.0 kept c.seen.ensures.after.served c.seen.ensures.same.more c.seen.ensures.answer
          c.leave.ensures.after.services c.leave.ensures.after.held c.leave.ensures.same.more c.leave.ensures.answer.1 told c.in-Some.ensures.slots (c.in-Some.ensures.some v kept.of_life) (c.note.ensures.notes v.history kept.notes),
    )

pub returns-clause-reads : goal.returns-clause-reads
returns-clause-reads g c v is =
    subst (λ (b : LifeBookView). Strikes b.desk.desk c.args.request.number true ((q : ℕ) × Contains (waiting v.history q) c.args.request.number) c.leave.new.desk.desk) c.self.view_is
    (c.seen.result, c.seen.new.desk.desk, c.seen.ensures.answer, (sym (c.seen.ensures.after.told (λ none. (let bad = rw none at c.if-ne.ensures in cc))) ∙ told_now g c, c.leave.ensures.answer))
