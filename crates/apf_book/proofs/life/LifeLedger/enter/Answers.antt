-- The history after an Enter.
use Rattle.std.proofs.Common.{◌≢◌, ◌<◌, length, sym, subst}
use Rattle.apf_gate.specs.Slots.{slot_of}
use Rattle.apf_queue.specs.View.{queue_in, StandsNowhere}
use Rattle.apf_book.specs.Life.{LifeState, IsLifeOf}
use Rattle.apf_book.proofs.Opened.{opened, stands}
use Rattle.apf_book.proofs.Entering.{life_enters}
use Rattle.apf_book.proofs.life.LifeLedger.enter.Goals as goal

pub push-requires-clause-is_nowhere : goal.push-requires-clause-is_nowhere
push-requires-clause-is_nowhere g c = subst (λ (x : LifeState). StandsNowhere x.queues (slot_of c.args.request)) (sym c.self.view_is) c.requires.is_nowhere

pub returns-clause-enters : goal.returns-clause-enters
returns-clause-enters g c v hand is comes =
    let laws = opened c.legal_histories_are_in_order.ensures in
    let stand = stands c.settled_logs_stand.ensures in
    let was = subst (λ (x : LifeState). IsLifeOf v x) (sym c.self.view_is) is in
    let slot = subst (λ (x : LifeState). slot_of c.args.request < length x.holders) (sym c.self.view_is) c.requires.has_slot in
    let nowhere = subst (λ (x : LifeState). StandsNowhere x.queues (slot_of c.args.request)) (sym c.self.view_is) c.requires.is_nowhere in
    let room = subst (λ (x : LifeState). length (queue_in x.queues c.args.queue) ≢ x.queues.length_limit) (sym c.self.view_is) c.requires.room in
    rw c.keep.ensures (life_enters laws stand v _ was c.args.request hand c.args.queue c.args.cost comes c.requires.low slot nowhere room c.push.new.self c.in-Ok.ensures.enters)
