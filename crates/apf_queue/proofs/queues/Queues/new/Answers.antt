use Rattle.std.proofs.Common.{rules}
use Rattle.apf_queue.specs.View.{IsQueueShape}
use Rattle.apf_queue.proofs.Consistency.{opening_consistent}
use Rattle.apf_queue.proofs.Kept.{opening_finishes}
use Rattle.apf_queue.proofs.queues.Queues.new.Goals as goal

pub invariant_of-result : goal.invariant_of-result
invariant_of-result g c =
    let shape : IsQueueShape c.args.queues c.args.length_limit c.args.requests = search rules in
    rw (c.in_ok-new.ensures, c.in_ok-new-2.ensures) (record {
      consistent = opening_consistent c.args.queues c.args.length_limit c.args.requests shape;
      finishes_are = opening_finishes c.args.queues c.args.requests _ _ _ c.in_ok-new-3.ensures.room c.in_ok-new-3.ensures.empty;
    })
