use Rattle.std.proofs.Common.{◌<◌, refl, sym, subst, arith}
use Rattle.apf_queue.specs.View.{QueuesView, HasTime, queue_count}
use Rattle.apf_queue.specs.Consistent.{AreConsistent}
use Rattle.apf_queue.proofs.Consistency.{settle_consistent}
use Rattle.apf_queue.proofs.Kept.{small_sum, settle_finishes}
use Rattle.apf_queue.proofs.queues.Queues.settle.Goals as goal
use Rattle.apf_queue.proofs.queues.Queues.settle.Goals.{After-settle}
use Rattle.apf_queue.proofs.queues.Queues.settle.Given.{Over}

-- what the settlement leaves is consistent
left : (g : Over) (c : After-settle g) → AreConsistent c.self.inside.rings c.settle.new.self c.self.inside.length_limit
left g c =
    let s = c.self.inside in
    let early = subst (λ (v : QueuesView). HasTime v c.args.queue) (sym c.self.view_is) c.requires.time in
    settle_consistent s.rings s.time s.length_limit c.self.invariant.consistent c.args.queue c.args.charged c.args.measured
    c.requires.low early c.settle.new.self c.settle.ensures.numbers c.settle.ensures.one_for_each

-- its finish fits
pub finish_in-finish_now-requires-clause-fits : goal.finish_in-finish_now-requires-clause-fits
finish_in-finish_now-requires-clause-fits g c =
    let consistent = left g (goal.at.finish_in-finish_now-requires-clause-fits g c).After-settle in
    λ r. let a = small_sum _ _ _ consistent c.args.queue r in omega arith

pub invariant_of-self : goal.invariant_of-self
invariant_of-self g c =
    let s = c.self.inside in
    let is_queue = subst (λ (v : QueuesView). c.args.queue < queue_count v) (sym c.self.view_is) c.requires.is_queue in
    let finishes = settle_finishes s.rings s.time c.settle.new.self s.finishes s.length_limit c.args.queue c.args.charged c.args.measured c.self.invariant is_queue c.settle.ensures.numbers in
    rw (c.set.ensures, c.finish_in-finish_now.ensures) (record { consistent = left g (goal.at.invariant_of-self g c).After-settle; finishes_are = finishes })

pub returns : goal.returns
returns g c = rw (← c.self.view_is) (record { queues = refl; costs = refl; numbers = c.settle.ensures.numbers; length_limit = refl })
