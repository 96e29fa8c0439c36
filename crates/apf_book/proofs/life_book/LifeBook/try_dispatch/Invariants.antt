-- What the turns so far appended to every history that the book was of, and who may still be served.
use Rattle.apf_book.specs.Life.{LifeView, how_many}
use Rattle.apf_book.specs.LifeBook.{IsLifeKept}
use Rattle.apf_book.specs.LifeCalls.{SameLifeBook}
use Rattle.apf_book.specs.Tries.{ServesSome}
use Rattle.apf_book.proofs.life_book.LifeBook.try_dispatch.Given as goal

abbrev pub invariant-loop-count : goal.invariant-loop-count
invariant-loop-count g l = record {
  same : SameLifeBook l.initial.self l.self;
  served : (v : LifeView) → IsLifeKept v l.initial.self → ServesSome v l.count l.self;
}

abbrev pub decreases-loop-count : goal.decreases-loop-count
decreases-loop-count g l = how_many l.self.queues.queues
