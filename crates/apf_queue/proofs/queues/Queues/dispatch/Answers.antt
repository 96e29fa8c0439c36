use Rattle.std.proofs.Common.{◌≡◌, ℕ, List, [], get_or, set, drop, refl, sym, ap, ◌∙◌, subst, arith}
use Rattle.std.specs.Prelude.{slice_get}
use Rattle.apf_queue.specs.RingsView.{RingsView, ring, without}
use Rattle.apf_queue.specs.View.{QueuesView, HasTime}
use Rattle.apf_queue.specs.Consistent.{AreConsistent}
use Rattle.apf_queue.proofs.Places.{first_split, first_contains}
use Rattle.apf_queue.proofs.Consistency.{with_queue, stands_in, dispatch_consistent}
use Rattle.apf_queue.proofs.Kept.{small_sum, left_finishes, dispatch_other}
use Rattle.apf_queue.proofs.queues.Queues.dispatch.Goals as goal
use Rattle.apf_queue.proofs.queues.Queues.dispatch.Goals.{After-remove, After-dispatch}
use Rattle.apf_queue.proofs.queues.Queues.dispatch.Given.{Over}

-- it is one of the requests
pub remove-requires : goal.remove-requires
remove-requires g c =
    let s = c.self.inside in
    let first = ap (λ (v : QueuesView). slice_get (get_or v.queues c.args.chosen.queue []) 0) c.self.view_is ∙ c.requires.chosen.is_head.is_first in
    let inside = c.self.invariant.consistent.are_requests c.args.chosen.queue c.args.chosen.request (first_contains (ring s.rings c.args.chosen.queue) c.args.chosen.request first) in
    let requests = c.self.invariant.consistent.one_cost_each in
    omega arith

-- what the dispatch leaves is consistent
left : (g : Over) (c : After-dispatch g) → AreConsistent (with_queue c.self.inside.rings c.args.chosen.queue (without c.args.chosen.request (ring c.self.inside.rings c.args.chosen.queue)))
    c.dispatch.new.self c.self.inside.length_limit
left g c =
    let s = c.self.inside in
    let q = c.args.chosen.queue in
    let r = c.args.chosen.request in
    let first = ap (λ (v : QueuesView). slice_get (get_or v.queues q []) 0) c.self.view_is ∙ c.requires.chosen.is_head.is_first in
    let stands = first_contains (ring s.rings q) r first in
    let wide = c.requires.chosen.is_head.cost_is ∙ sym (ap (λ (v : QueuesView). get_or v.costs r 0) c.self.view_is) in
    let early = subst (λ (v : QueuesView). HasTime v q) (sym c.self.view_is) c.requires.time in
    dispatch_consistent s.rings s.time s.length_limit c.self.invariant.consistent q r stands (c.remove.ensures.in_place q)
    c.args.chosen.cost wide early c.dispatch.new.self c.dispatch.ensures.numbers c.dispatch.ensures.one_for_each

-- the rings without it
taken : (g : Over) (c : After-remove g) → c.remove.new.self ≡ with_queue c.self.inside.rings c.args.chosen.queue (without c.args.chosen.request (ring c.self.inside.rings c.args.chosen.queue))
taken g c =
    let first = ap (λ (v : QueuesView). slice_get (get_or v.queues c.args.chosen.queue []) 0) c.self.view_is ∙ c.requires.chosen.is_head.is_first in
    let took = (c.remove.ensures.stood c.args.chosen.queue).1 (first_contains (ring c.self.inside.rings c.args.chosen.queue) c.args.chosen.request first) in
    rw took at c.remove.ensures.some

-- its finish fits
pub finish_in-finish_left-requires-clause-fits : goal.finish_in-finish_left-requires-clause-fits
finish_in-finish_left-requires-clause-fits g c =
    let at = goal.at.finish_in-finish_left-requires-clause-fits g c in
    let consistent = left g at.After-dispatch in
    let new = taken g at.After-remove in
    λ x. let a = small_sum _ _ _ consistent c.args.chosen.queue x in rw new (omega arith)

pub invariant_of-self : goal.invariant_of-self
invariant_of-self g c =
    let at = goal.at.invariant_of-self g c in
    let s = c.self.inside in
    let q = c.args.chosen.queue in
    let r = c.args.chosen.request in
    let first = ap (λ (v : QueuesView). slice_get (get_or v.queues q []) 0) c.self.view_is ∙ c.requires.chosen.is_head.is_first in
    let stands = first_contains (ring s.rings q) r first in
    let is_queue = stands_in s.rings s.time s.length_limit c.self.invariant.consistent q r stands (c.remove.ensures.in_place q) in
    let finishes = left_finishes s.rings s.time c.dispatch.new.self s.finishes s.length_limit q (without r (ring s.rings q)) c.self.invariant is_queue
    (dispatch_other s.time c.dispatch.new.self q c.args.chosen.cost c.dispatch.ensures.numbers) in
    rw (c.set.ensures, c.finish_in-finish_left.ensures, taken g at.After-remove) (record { consistent = left g at.After-dispatch; finishes_are = finishes })

pub returns : goal.returns
returns g c =
    let s = c.self.inside in
    let q = c.args.chosen.queue in
    let r = c.args.chosen.request in
    let first = ap (λ (v : QueuesView). slice_get (get_or v.queues q []) 0) c.self.view_is ∙ c.requires.chosen.is_head.is_first in
    let new = taken g (goal.at.returns g c).After-remove in
    let rest = c.remove.ensures.in_place q [] (drop 1 (ring s.rings q)) (first_split (ring s.rings q) r first) in
    rw (← c.self.view_is) (record {
      queues = ap (λ (v : RingsView). v.queues) new ∙ ap (λ (rs : List ℕ). set s.rings.queues q rs) rest;
      costs = ap (λ (v : RingsView). v.costs) new;
      numbers = c.dispatch.ensures.numbers;
      length_limit = refl;
    })
