-- The log after a settlement.
use Rattle.std.proofs.Common.{rules, ◌≡◌, ◌<◌, ◌≤◌, Some, slice_index, sym, subst, ◌∙◌, arith}
use Rattle.apf_queue.specs.View.{queue_count}
use Rattle.apf_book.specs.Life.{LifeState, charge_in}
use Rattle.apf_book.proofs.Opened.{stands}
use Rattle.apf_book.proofs.LifeSettling.{charge_queue, charge_covered, spends_one}
use Rattle.apf_book.proofs.life.LifeLedger.spend.Given.{Over}
use Rattle.apf_book.proofs.life.LifeLedger.spend.Goals as goal
use Rattle.apf_book.proofs.life.LifeLedger.spend.Goals.{In-Some}

-- what is kept of the request
kept : (g : Over) (c : In-Some g) → charge_in c.args.self.now c.args.request ≡ Some c.in-Some.charge
kept g c = sym c.charge.ensures ∙ c.in-Some.is

is_queue : (g : Over) (c : In-Some g) → c.in-Some.charge.queue < queue_count c.self.inside.queues
is_queue g c =
    let is = c.requires.lived in
    subst (λ (x : LifeState). c.in-Some.charge.queue < queue_count x.queues) (sym c.self.view_is) (charge_queue (stands c.settled_logs_stand.ensures) is.0 c.args.self.now is.1 c.args.request c.in-Some.charge (kept g c))

pub may_settle-requires : goal.may_settle-requires
may_settle-requires g c = is_queue g (goal.at.may_settle-requires g c).In-Some

pub settle-requires-clause-is_queue : goal.settle-requires-clause-is_queue
settle-requires-clause-is_queue g c = is_queue g (goal.at.settle-requires-clause-is_queue g c).In-Some

pub settle-requires-clause-covered : goal.settle-requires-clause-covered
settle-requires-clause-covered g c =
    let is = c.requires.lived in
    subst (λ (x : LifeState). c.in-Some.charge.amount ≤ slice_index x.queues.next c.in-Some.charge.queue) (sym c.self.view_is)
    (charge_covered (stands c.settled_logs_stand.ensures) is.0 c.args.self.now is.1 c.args.request c.in-Some.charge (kept g (goal.at.settle-requires-clause-covered g c).In-Some))

pub returns-clause-spends : goal.returns-clause-spends
returns-clause-spends g c _ =
    let s : LifeState = record { queues = c.self.inside.queues; holders = c.self.inside.holders.items; hand = c.self.inside.hand; known = c.self.inside.known; running = c.self.inside.running.items } in
    let own = subst (λ (x : LifeState). charge_in x c.args.request ≡ Some c.in-Some.charge) (sym c.self.view_is) (kept g (goal.at.returns-clause-spends g c).In-Some) in
    rw (← c.self.view_is) (spends_one (stands c.settled_logs_stand.ensures) s c.args.request c.in-Some.charge own c.args.amount c.settle.new.self c.keep.new.running.items c.keep.ensures (omega (arith, c.if-amount-charge.false)) c.settle.ensures (search rules) c.requires.low)
