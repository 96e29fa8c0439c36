-- What every log has after a settlement.
use Rattle.std.proofs.Common.{ℕ, refl, sym, subst}
use Rattle.apf_book.specs.Life.{LifeView}
use Rattle.apf_book.specs.LifeBook.{LifeBookView, IsLifeKept, SettlesLife}
use Rattle.apf_book.proofs.Knowing.{more_same}
use Rattle.apf_book.proofs.LifeSettling.{settles_life, settles_lived, settles_queues}
use Rattle.apf_book.proofs.life_book.LifeBook.settle.Given.{Over}
use Rattle.apf_book.proofs.life_book.LifeBook.settle.Goals as goal
use Rattle.apf_book.proofs.life_book.LifeBook.settle.Goals.{After-settle}

pub settle-requires-clause-lived : goal.settle-requires-clause-lived
settle-requires-clause-lived g c = (c.self.invariant.view, c.self.invariant.kept.of_life)

abbrev book : (g : Over) (c : After-settle g) → LifeBookView
book g c = record { desk = c.self.inside.desk; queues = c.self.inside.ledger; notes = c.self.inside.notes }

comes_to : (g : Over) (c : After-settle g) (v : LifeView) → IsLifeKept v (book g c) → SettlesLife v (book g c) c.args.pass.now.pass.number c.args.amount c.settle.result (record (book g c) { queues = c.settle.new.self })
comes_to g c v kept =
    subst (λ (r : ℕ). SettlesLife v (book g c) r c.args.amount c.settle.result (record (book g c) { queues = c.settle.new.self })) c.number.ensures.number
    (settles_life v (book g c) c.number.result c.args.amount c.settle.result c.settle.new.self kept c.settle.ensures.slots c.settle.ensures.settles c.settle.ensures.cannot)

pub invariant_of-self : goal.invariant_of-self
invariant_of-self g c =
    let here = (goal.at.invariant_of-self g c).After-settle in
    settles_lived c.self.invariant.view (book g here) c.args.pass.now.pass.number c.args.amount c.settle.result (record (book g here) { queues = c.settle.new.self }) c.self.invariant.kept (comes_to g here c.self.invariant.view c.self.invariant.kept)

pub returns-clause-answer : goal.returns-clause-answer
returns-clause-answer g c v is =
    rw (← c.self.view_is) (comes_to g (goal.at.returns-clause-answer g c).After-settle v (subst (λ (b : LifeBookView). IsLifeKept v b) (sym c.self.view_is) is))

pub returns-clause-same : goal.returns-clause-same
returns-clause-same g c =
    let here = (goal.at.returns-clause-same g c).After-settle in
    rw (← c.self.view_is) (record {
      gate = refl;
      more = more_same c.self.inside.desk.desk.knows;
      queues = settles_queues c.self.invariant.view (book g here) c.args.pass.now.pass.number c.args.amount c.settle.result (record (book g here) { queues = c.settle.new.self }) c.self.invariant.kept (comes_to g here c.self.invariant.view c.self.invariant.kept);
      room = refl;
      hand = c.settle.ensures.slots.1;
      places = c.settle.ensures.places;
      known = c.settle.ensures.slots.2;
    })
