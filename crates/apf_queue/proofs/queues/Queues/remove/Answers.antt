use Rattle.std.proofs.Common.{refl, Some, length-set, arith}
use Rattle.apf_queue.specs.RingsView.{ring, without}
use Rattle.apf_queue.proofs.Consistency.{stands_in, strike_consistent}
use Rattle.apf_queue.proofs.Kept.{small_sum, left_finishes}
use Rattle.apf_queue.proofs.queues.Queues.remove.Goals as goal

pub returns-in_err-queue-clause-stood : goal.returns-in_err-queue-clause-stood
returns-in_err-queue-clause-stood g c = rw (c.from_residual.ensures, ← c.self.view_is) c.in_err-queue.ensures.stood

pub finish_in-finish_left-requires-clause-is_queue : goal.finish_in-finish_left-requires-clause-is_queue
finish_in-finish_left-requires-clause-is_queue g c =
    let s = c.self.inside in
    let q = c.in_ok-queue.queue in
    let stands = (c.in_ok-queue.ensures.stood q).0 (refl {a = Some q}) in
    let is_queue = stands_in s.rings s.time s.length_limit c.self.invariant.consistent q c.args.request stands (c.in_ok-queue.ensures.in_place q) in
    let queues = length-set s.rings.queues q (without c.args.request (ring s.rings q)) in
    rw c.in_ok-queue.ensures.some (omega arith)

pub set-requires : goal.set-requires
set-requires g c =
    let s = c.self.inside in
    let q = c.in_ok-queue.queue in
    let stands = (c.in_ok-queue.ensures.stood q).0 (refl {a = Some q}) in
    let is_queue = stands_in s.rings s.time s.length_limit c.self.invariant.consistent q c.args.request stands (c.in_ok-queue.ensures.in_place q) in
    let room = c.self.invariant.finishes_are.room in
    omega arith

-- its finish fits
pub finish_in-finish_left-requires-clause-fits : goal.finish_in-finish_left-requires-clause-fits
finish_in-finish_left-requires-clause-fits g c =
    let s = c.self.inside in
    λ r. let a = small_sum s.rings s.time s.length_limit c.self.invariant.consistent c.in_ok-queue.queue r in rw c.in_ok-queue.ensures.some (omega arith)

pub invariant_of-self-2 : goal.invariant_of-self-2
invariant_of-self-2 g c =
    let s = c.self.inside in
    let q = c.in_ok-queue.queue in
    let r = c.args.request in
    let stands = (c.in_ok-queue.ensures.stood q).0 (refl {a = Some q}) in
    let consistent = strike_consistent s.rings s.time s.length_limit c.self.invariant.consistent q r stands (c.in_ok-queue.ensures.in_place q) in
    let is_queue = stands_in s.rings s.time s.length_limit c.self.invariant.consistent q r stands (c.in_ok-queue.ensures.in_place q) in
    let finishes = left_finishes s.rings s.time s.time s.finishes s.length_limit q (without r (ring s.rings q)) c.self.invariant is_queue (λ p ne. refl) in
    rw (c.set.ensures, c.finish_in-finish_left.ensures, c.in_ok-queue.ensures.some) (record { consistent = consistent; finishes_are = finishes })

pub returns-clause-stood : goal.returns-clause-stood
returns-clause-stood g c = rw (← c.self.view_is) c.in_ok-queue.ensures.stood
