-- A request that stands in line asked for the hand that was dealt it.
use Rattle.std.proofs.Common.{rules, ◌≡◌, ◌∙◌, ℕ, List, sym, subst}
use Rattle.apf_level.specs.LifeAdmission.{begun_pass}
use Rattle.apf_level.specs.LifeInPlace.{begin_of}
use Rattle.apf_history.specs.declared.events.Event.TheVariants.{Enter, Full}
use Rattle.apf_flow.specs.Deal.{hand_of}
use Rattle.apf_book.specs.Life.{IsAskedBy}
use Rattle.apf_level.specs.LifeArrivals.{Came}
use Rattle.apf_level.proofs.LifeAsks.{asked_more, is_asked, came_more, came_since, keeps, on_of, on_then}
use Rattle.apf_level.proofs.life.level.Level.enqueue.Goals as goal

pub arrive-enqueued-requires-clause-stands : goal.arrive-enqueued-requires-clause-stands
arrive-enqueued-requires-clause-stands g c = λ κs outlive.
    let dealt : c.as_slice.result.now ≡ hand_of g.K.Naming.level.sizes c.args.hash = (search rules) in
    record {
      own = search rules;
      in_line = search rules;
      not_handed = search rules;
      has_cards = search rules;
      are_queues = search rules;
      some_cost = c.requires.some_cost;
      low = c.requires.low_cost;
      asked = subst (λ (xs : List ℕ). IsAskedBy g.K.Naming.level.sizes c.ask.new.pass.pass.knows.trace xs c.args.cost c.ask.new.pass.pass.number) (sym dealt)
          (is_asked g.K.Naming.level.sizes c.ask.new.pass.pass.knows.trace c.ask.new.pass.pass.number c.args.hash c.args.cost
          (asked_more c.args.pass.now.pass.knows c.ask.new.pass.pass.knows c.args.pass.now.pass.number c.ask.new.pass.pass.number (record { hash = c.args.hash; cost = c.args.cost }) c.ask.ensures.same.more c.ask.ensures.same.number c.requires.asked));
    }

pub returns-in-Entered-clause-logs : goal.returns-in-Entered-clause-logs
returns-in-Entered-clause-logs g c =
    let k = g.K.Naming.level in
    let r = c.args.pass.now.pass.number in
    let dealt : c.as_slice.result.now ≡ hand_of k.sizes c.args.hash = (search rules) in
    let number : c.arrive-enqueued.new.pass.pass.number ≡ r = c.in-Entered.ensures.same.number ∙ c.ask.ensures.same.number in
    let ticket : c.ticket-ticket.result.number ≡ r = c.ticket-ticket.ensures.number ∙ c.ask.ensures.same.number in
    let t = c.ask.new.pass.pass.knows.trace in
    let last = c.arrive-enqueued.new.pass.pass.knows.trace in
    let a = subst (λ (xs : List ℕ). Came k t c.arrive-enqueued.new.pass.pass.number xs c.args.cost (Enter c.arrive-enqueued.new.pass.pass.number c.in-Entered.queue) last) dealt c.in-Entered.ensures.stands.1 in
    let b = subst (λ (i : ℕ). Came k t i (hand_of k.sizes c.args.hash) c.args.cost (Enter i c.in-Entered.queue) last) number a in
    let d = subst (λ (i : ℕ). Came k t r (hand_of k.sizes c.args.hash) c.args.cost (Enter i c.in-Entered.queue) last) (sym ticket) b in (
      (ticket, (search rules)),
      came_since k c.args.pass.now.pass.knows.trace r (hand_of k.sizes c.args.hash) c.args.cost (Enter c.ticket-ticket.result.number c.in-Entered.queue) last (begun_pass (begin_of c.read_decision-begun.result c.read_decision-begun.new.pass)).pass.knows.trace (keeps c.read_decision-begun.result c.read_decision-begun.new.pass last c.read_decision-begun.ensures.goes_on)
          (came_more k c.args.pass.now.pass.knows c.ask.new.pass.pass.knows r (hand_of k.sizes c.args.hash) c.args.cost (Enter c.ticket-ticket.result.number c.in-Entered.queue) last c.ask.ensures.same.more d),
    )

pub returns-in-Full-clause-logs : goal.returns-in-Full-clause-logs
returns-in-Full-clause-logs g c =
    let k = g.K.Naming.level in
    let r = c.args.pass.now.pass.number in
    let dealt : c.as_slice.result.now ≡ hand_of k.sizes c.args.hash = (search rules) in
    let number : c.arrive-enqueued.new.pass.pass.number ≡ r = c.in-Full.ensures.same.number ∙ c.ask.ensures.same.number in
    let ticket : c.ticket-ticket.result.number ≡ r = c.ticket-ticket.ensures.number ∙ c.ask.ensures.same.number in
    let t = c.ask.new.pass.pass.knows.trace in
    let last = c.arrive-enqueued.new.pass.pass.knows.trace in
    let a = subst (λ (xs : List ℕ). Came k t c.arrive-enqueued.new.pass.pass.number xs c.args.cost (Full c.arrive-enqueued.new.pass.pass.number c.in-Full.queue) last) dealt c.in-Full.ensures.stands.2 in
    let b = subst (λ (i : ℕ). Came k t i (hand_of k.sizes c.args.hash) c.args.cost (Full i c.in-Full.queue) last) number a in
    let d = subst (λ (i : ℕ). Came k t r (hand_of k.sizes c.args.hash) c.args.cost (Full i c.in-Full.queue) last) (sym ticket) b in
    ((ticket, (search rules)), came_more k c.args.pass.now.pass.knows c.ask.new.pass.pass.knows r (hand_of k.sizes c.args.hash) c.args.cost (Full c.ticket-ticket.result.number c.in-Full.queue) last c.ask.ensures.same.more d)

pub returns-in-Entered-clause-goes_on : goal.returns-in-Entered-clause-goes_on
returns-in-Entered-clause-goes_on g c = on_then c.args.pass.now.pass.knows.trace c.arrive-enqueued.new.pass.pass.knows.trace c.read_decision-begun.new.pass.pass.knows.trace (on_then c.args.pass.now.pass.knows.trace c.ask.new.pass.pass.knows.trace c.arrive-enqueued.new.pass.pass.knows.trace (on_of c.args.pass.now.pass.knows c.ask.new.pass.pass.knows c.ask.ensures.same.more) c.arrive-enqueued.ensures.goes_on) c.read_decision-begun.ensures.goes_on

pub returns-in-Full-clause-goes_on : goal.returns-in-Full-clause-goes_on
returns-in-Full-clause-goes_on g c = on_then c.args.pass.now.pass.knows.trace c.ask.new.pass.pass.knows.trace c.arrive-enqueued.new.pass.pass.knows.trace (on_of c.args.pass.now.pass.knows c.ask.new.pass.pass.knows c.ask.ensures.same.more) c.arrive-enqueued.ensures.goes_on

pub returns-in-Over-clause-goes_on : goal.returns-in-Over-clause-goes_on
returns-in-Over-clause-goes_on g c = on_then c.args.pass.now.pass.knows.trace c.ask.new.pass.pass.knows.trace c.arrive-enqueued.new.pass.pass.knows.trace (on_of c.args.pass.now.pass.knows c.ask.new.pass.pass.knows c.ask.ensures.same.more) c.arrive-enqueued.ensures.goes_on
