-- What the tries appended, and where the last one stopped.
use Rattle.apf_book.specs.LifeBook.{then_came_all}
use Rattle.apf_book.proofs.LifeTurning.{served_then, serves_then, same_book_then}
use Rattle.apf_book.proofs.life_book.LifeBook.dispatch.Goals as goal

pub loop-preserved : goal.loop-preserved
loop-preserved g c = record {
  iterator = search;
  same = same_book_then c.args.self.now c.loop.self c.try_dispatch.new.self c.loop.invariant.same c.in-Raced.ensures.same;
  served = λ v is. let far = c.loop.invariant.served v is in
      served_then v c.loop.self c.try_dispatch.new.self c.loop.count c.in-Raced.more far (c.in-Raced.ensures.answer (then_came_all far.events v) far.kept);
}

pub returns-in-Stopped-clause-same : goal.returns-in-Stopped-clause-same
returns-in-Stopped-clause-same g c = same_book_then c.args.self.now c.loop.self c.try_dispatch.new.self c.loop.invariant.same c.in-Stopped.ensures.same

pub returns-in-Stopped-clause-answer : goal.returns-in-Stopped-clause-answer
returns-in-Stopped-clause-answer g c v is =
    let far = c.loop.invariant.served v is in
    serves_then v c.loop.self c.try_dispatch.new.self c.loop.count c.in-Stopped.more far (c.in-Stopped.ensures.answer (then_came_all far.events v) far.kept) c.args.self.now c.loop.invariant.same.more
