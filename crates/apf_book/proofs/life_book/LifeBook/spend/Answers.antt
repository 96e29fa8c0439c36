-- What every log has after a settlement.
use Rattle.std.proofs.Common.{ℕ, refl, sym, subst}
use Rattle.apf_book.specs.Life.{LifeView}
use Rattle.apf_book.specs.LifeBook.{LifeBookView, IsLifeKept, SpendsLife}
use Rattle.apf_book.proofs.Knowing.{more_same}
use Rattle.apf_book.proofs.LifeSettling.{spends_life, spends_lived, spends_queues}
use Rattle.apf_book.proofs.life_book.LifeBook.spend.Given.{Over}
use Rattle.apf_book.proofs.life_book.LifeBook.spend.Goals as goal
use Rattle.apf_book.proofs.life_book.LifeBook.spend.Goals.{After-spend}

pub spend-requires-clause-lived : goal.spend-requires-clause-lived
spend-requires-clause-lived g c = (c.self.invariant.view, c.self.invariant.kept.of_life)

abbrev book : (g : Over) (c : After-spend g) → LifeBookView
book g c = record { desk = c.self.inside.desk; queues = c.self.inside.ledger; notes = c.self.inside.notes }

comes_to : (g : Over) (c : After-spend g) (v : LifeView) → IsLifeKept v (book g c) → SpendsLife v (book g c) c.args.pass.now.pass.number c.args.amount c.spend.result (record (book g c) { queues = c.spend.new.self })
comes_to g c v kept =
    subst (λ (r : ℕ). SpendsLife v (book g c) r c.args.amount c.spend.result (record (book g c) { queues = c.spend.new.self })) c.number.ensures.number
    (spends_life v (book g c) c.number.result c.args.amount c.spend.result c.spend.new.self kept c.spend.ensures.slots c.spend.ensures.spends c.spend.ensures.cannot)

pub invariant_of-self : goal.invariant_of-self
invariant_of-self g c =
    let here = (goal.at.invariant_of-self g c).After-spend in
    spends_lived c.self.invariant.view (book g here) c.args.pass.now.pass.number c.args.amount c.spend.result (record (book g here) { queues = c.spend.new.self }) c.self.invariant.kept (comes_to g here c.self.invariant.view c.self.invariant.kept)

pub returns-clause-answer : goal.returns-clause-answer
returns-clause-answer g c v is =
    rw (← c.self.view_is) (comes_to g (goal.at.returns-clause-answer g c).After-spend v (subst (λ (b : LifeBookView). IsLifeKept v b) (sym c.self.view_is) is))

pub returns-clause-same : goal.returns-clause-same
returns-clause-same g c =
    let here = (goal.at.returns-clause-same g c).After-spend in
    rw (← c.self.view_is) (record {
      gate = refl;
      more = more_same c.self.inside.desk.desk.knows;
      queues = spends_queues c.self.invariant.view (book g here) c.args.pass.now.pass.number c.args.amount c.spend.result (record (book g here) { queues = c.spend.new.self }) c.self.invariant.kept (comes_to g here c.self.invariant.view c.self.invariant.kept);
      room = refl;
      hand = c.spend.ensures.slots.1;
      places = c.spend.ensures.places;
      known = c.spend.ensures.slots.2;
    })
