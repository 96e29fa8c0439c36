-- What the tries so far appended to every history that the book was of.
use Rattle.apf_book.specs.Life.{LifeView}
use Rattle.apf_book.specs.LifeBook.{IsLifeKept}
use Rattle.apf_book.specs.LifeCalls.{SameLifeBook}
use Rattle.apf_book.specs.Tries.{ServesSome}
use Rattle.apf_book.proofs.life_book.LifeBook.dispatch.Given as goal

abbrev pub invariant-loop : goal.invariant-loop
invariant-loop g l = record {
  iterator : (goal.iterator-loop g).can_next l.iterator' × (goal.iterator-loop g).is_finite l.iterator';
  same : SameLifeBook l.initial.self l.self;
  served : (v : LifeView) → IsLifeKept v l.initial.self → ServesSome v l.count l.self;
}
