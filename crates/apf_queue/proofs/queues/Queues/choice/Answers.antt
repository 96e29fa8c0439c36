use Rattle.std.proofs.Common.{sym, ap, ◌∙◌}
use Rattle.apf_queue.specs.View.{queue_count}
use Rattle.apf_queue.proofs.Kept.{choice_found}
use Rattle.apf_queue.proofs.queues.Queues.choice.Goals as goal

pub returns : goal.returns
returns g c =
    let s = c.self.inside in
    rw (← c.self.view_is) (choice_found s.rings s.time s.finishes s.length_limit c.self.invariant c.queue_count.result c.robin.result c.queue_after-after.result
    c.first_least.result (c.queue_count.ensures ∙ ap queue_count (sym c.self.view_is)) c.robin.ensures c.queue_after-after.ensures.round c.first_least.ensures.none c.first_least.ensures.some)
