-- What the turns appended, and where they stopped.
use Rattle.std.proofs.Common.{inl, inr, Some, ap}
use Rattle.apf_book.specs.declared.serving.Served.{Served}
use Rattle.apf_book.proofs.LifeTurning.{served_dispatch, served_strike, served_same, next_misses_then, same_book_then, loses_then}
use Rattle.apf_book.specs.LifeBook.{then_came_all}
use Rattle.apf_book.proofs.life_book.LifeBook.try_dispatch.Goals as goal

pub loop-count-preserved-in-Some-Dispatched : goal.loop-count-preserved-in-Some-Dispatched
loop-count-preserved-in-Some-Dispatched g c = record {
  same = same_book_then c.args.self.now c.loop-count.self c.serve_head_once.new.self c.loop-count.invariant.same c.in-Some-Dispatched.ensures.same;
  served = λ v is. let far = c.loop-count.invariant.served v is in
      let turned = (rw c.in-Some-Dispatched.field-0-is at c.in-Some-Dispatched.ensures.turns) (then_came_all far.events v) far.kept in
      served_dispatch v c.loop-count.self c.serve_head_once.new.self c.loop-count.count turned.0 turned.1 far turned.2;
}

pub loop-count-preserved : goal.loop-count-preserved
loop-count-preserved g c = record {
  same = same_book_then c.args.self.now c.loop-count.self c.serve_head_once.new.self c.loop-count.invariant.same c.in-Some-Struck.ensures.same;
  served = λ v is. let far = c.loop-count.invariant.served v is in
      let turned = (rw c.in-Some-Struck.field-0-is at c.in-Some-Struck.ensures.turns) (then_came_all far.events v) far.kept in
      served_strike v c.loop-count.self c.serve_head_once.new.self c.loop-count.count turned.0 turned.1 far turned.2;
}

pub returns-in-None-clause-same : goal.returns-in-None-clause-same
returns-in-None-clause-same g c = same_book_then c.args.self.now c.loop-count.self c.serve_head_once.new.self c.loop-count.invariant.same c.in-None.ensures.same

pub returns-in-Some-NoRoom-clause-same : goal.returns-in-Some-NoRoom-clause-same
returns-in-Some-NoRoom-clause-same g c = same_book_then c.args.self.now c.loop-count.self c.serve_head_once.new.self c.loop-count.invariant.same c.in-Some-NoRoom.ensures.same

pub returns-in-None-clause-answer : goal.returns-in-None-clause-answer
returns-in-None-clause-answer g c v is =
    let far = c.loop-count.invariant.served v is in
    let turned = c.in-None.ensures.turns (then_came_all far.events v) far.kept in
    record { events = far.events; kept = turned.0; servings = far.servings; dispatches = far.dispatches; stops = inl turned.1 }

pub returns-in-Some-NoRoom-clause-answer : goal.returns-in-Some-NoRoom-clause-answer
returns-in-Some-NoRoom-clause-answer g c v is =
    let far = c.loop-count.invariant.served v is in
    let turned = (rw c.in-Some-NoRoom.field-0-is at c.in-Some-NoRoom.ensures.turns) (then_came_all far.events v) far.kept in
    record {
      events = far.events;
      kept = turned.0;
      servings = far.servings;
      dispatches = far.dispatches;
      stops = inr (next_misses_then (then_came_all far.events v) c.args.self.now.desk.desk.knows c.loop-count.self.desk.desk.knows c.serve_head_once.new.self.desk.desk.knows c.loop-count.invariant.same.more turned.1);
    }

pub returns-in-Some-Raced-clause-same : goal.returns-in-Some-Raced-clause-same
returns-in-Some-Raced-clause-same g c = same_book_then c.args.self.now c.loop-count.self c.serve_head_once.new.self c.loop-count.invariant.same c.in-Some-Raced.ensures.same

pub returns-in-Some-Raced-clause-answer : goal.returns-in-Some-Raced-clause-answer
returns-in-Some-Raced-clause-answer g c v is =
    let far = c.loop-count.invariant.served v is in
    served_same v c.loop-count.self c.serve_head_once.new.self c.loop-count.count far ((rw c.in-Some-Raced.field-0-is at c.in-Some-Raced.ensures.turns) (then_came_all far.events v) far.kept)

pub returns-in-Some-Raced-clause-raced : goal.returns-in-Some-Raced-clause-raced
returns-in-Some-Raced-clause-raced g c _ _ = loses_then c.args.self.now c.loop-count.self c.serve_head_once.new.self c.loop-count.invariant.same.more (c.in-Some-Raced.ensures.raced (ap (λ (s : Served). Some s) c.in-Some-Raced.field-0-is))
