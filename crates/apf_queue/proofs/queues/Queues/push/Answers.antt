use Rattle.std.proofs.Common.{◌≢◌, ◌<◌, ℕ, List, [], length, refl, sym, ap, ◌∙◌, subst, arith}
use Rattle.apf_queue.specs.RingsView.{RingsView, ring}
use Rattle.apf_queue.specs.View.{QueuesView, StandsNowhere}
use Rattle.apf_queue.proofs.Consistency.{push_consistent}
use Rattle.apf_queue.proofs.Kept.{small_sum, push_finishes, busy_finishes}
use Rattle.apf_queue.proofs.queues.Queues.push.Goals as goal

pub push-requires-clause-is_nowhere : goal.push-requires-clause-is_nowhere
push-requires-clause-is_nowhere g c = subst (λ (v : QueuesView). StandsNowhere v c.args.request) (sym c.self.view_is) c.requires.is_nowhere

pub finish_in-finish-requires-clause-fits : goal.finish_in-finish-requires-clause-fits
finish_in-finish-requires-clause-fits g c =
    let s = c.self.inside in
    let queues = ap (λ (v : QueuesView). length v.queues) c.self.view_is in
    let requests = ap (λ (v : QueuesView). length v.costs) c.self.view_is in
    let is_queue : c.args.queue < length s.rings.queues = omega (arith, c.requires.is_queue) in
    let is_request : c.args.request < length s.rings.costs = omega (arith, c.requires.is_request) in
    let consistent = push_consistent s.rings s.time s.length_limit c.self.invariant.consistent c.args.queue c.args.request c.args.cost
    is_queue is_request (let f = c.ranges.cost.fits in omega arith) (λ full. c.if-len-self.false (c.len-len.ensures ∙ full))
    c.enter.new.self (c.enter.ensures.numbers (ring s.rings c.args.queue) (sym c.len-len.ensures)) c.enter.ensures.one_for_each in
    λ r. let a = small_sum _ _ _ consistent c.args.queue r in rw c.push.ensures (omega arith)

pub invariant_of-self : goal.invariant_of-self
invariant_of-self g c =
    let s = c.self.inside in
    let queues = ap (λ (v : QueuesView). length v.queues) c.self.view_is in
    let requests = ap (λ (v : QueuesView). length v.costs) c.self.view_is in
    let is_queue : c.args.queue < length s.rings.queues = omega (arith, c.requires.is_queue) in
    let is_request : c.args.request < length s.rings.costs = omega (arith, c.requires.is_request) in
    let numbers = c.enter.ensures.numbers (ring s.rings c.args.queue) (sym c.len-len.ensures) in
    let nowhere = subst (λ (v : QueuesView). StandsNowhere v c.args.request) (sym c.self.view_is) c.requires.is_nowhere in
    let consistent = push_consistent s.rings s.time s.length_limit c.self.invariant.consistent c.args.queue c.args.request c.args.cost
    is_queue is_request (let f = c.ranges.cost.fits in omega arith) (λ full. c.if-len-self.false (c.len-len.ensures ∙ full))
    c.enter.new.self numbers c.enter.ensures.one_for_each in
    let some : ring s.rings c.args.queue ≢ [] = λ none. (let n = ap (λ (xs : List ℕ). length xs) none in let l = c.len-len.ensures in absurd (omega (arith, c.if-len-gt0.true))) in
    let finishes = busy_finishes s.rings s.time c.enter.new.self s.finishes s.length_limit c.args.queue c.args.request c.args.cost c.self.invariant is_queue some nowhere numbers in
    rw c.push.ensures (record { consistent = consistent; finishes_are = finishes })

pub invariant_of-self-2 : goal.invariant_of-self-2
invariant_of-self-2 g c =
    let s = c.self.inside in
    let queues = ap (λ (v : QueuesView). length v.queues) c.self.view_is in
    let requests = ap (λ (v : QueuesView). length v.costs) c.self.view_is in
    let is_queue : c.args.queue < length s.rings.queues = omega (arith, c.requires.is_queue) in
    let is_request : c.args.request < length s.rings.costs = omega (arith, c.requires.is_request) in
    let numbers = c.enter.ensures.numbers (ring s.rings c.args.queue) (sym c.len-len.ensures) in
    let nowhere = subst (λ (v : QueuesView). StandsNowhere v c.args.request) (sym c.self.view_is) c.requires.is_nowhere in
    let consistent = push_consistent s.rings s.time s.length_limit c.self.invariant.consistent c.args.queue c.args.request c.args.cost
    is_queue is_request (let f = c.ranges.cost.fits in omega arith) (λ full. c.if-len-self.false (c.len-len.ensures ∙ full))
    c.enter.new.self numbers c.enter.ensures.one_for_each in
    let finishes = push_finishes s.rings s.time c.enter.new.self s.finishes s.length_limit c.args.queue c.args.request c.args.cost c.self.invariant is_queue nowhere numbers in
    rw (c.set.ensures, c.finish_in-finish.ensures, c.push.ensures) (record { consistent = consistent; finishes_are = finishes })

pub returns-then-len-gt0-clause-enters : goal.returns-then-len-gt0-clause-enters
returns-then-len-gt0-clause-enters g c =
    rw (← c.self.view_is) (record {
      queues = ap (λ (v : RingsView). v.queues) c.push.ensures;
      costs = ap (λ (v : RingsView). v.costs) c.push.ensures;
      numbers = c.enter.ensures.numbers (ring c.self.inside.rings c.args.queue) (sym c.len-len.ensures);
      length_limit = refl;
    })

pub returns-clause-enters : goal.returns-clause-enters
returns-clause-enters g c =
    rw (← c.self.view_is) (record {
      queues = ap (λ (v : RingsView). v.queues) c.push.ensures;
      costs = ap (λ (v : RingsView). v.costs) c.push.ensures;
      numbers = c.enter.ensures.numbers (ring c.self.inside.rings c.args.queue) (sym c.len-len.ensures);
      length_limit = refl;
    })
