-- The history after a Strike.
use Rattle.std.proofs.Common.{◌≡◌, ◌<◌, length, slice_index, sym, subst, ◌∙◌, arith}
use Rattle.std.proofs.lemmas.List.{get_or_read}
use Rattle.apf_gate.specs.Slots.{slot_of}
use Rattle.apf_book.specs.Life.{LifeState, IsLifeOf}
use Rattle.apf_book.proofs.Opened.{opened}
use Rattle.apf_book.proofs.Fewer.{fewer_struck}
use Rattle.apf_book.proofs.LifeStrikes.{held_by_other, strike_none, strike_some}
use Rattle.apf_book.proofs.life.LifeLedger.strike.Goals as goal

pub returns-then-index-request-clause-nowhere : goal.returns-then-index-request-clause-nowhere
returns-then-index-request-clause-nowhere g c v is =
    let s = c.self.inside in
    let slot = subst (λ (x : LifeState). slot_of c.args.request < length x.holders) (sym c.self.view_is) c.requires.has_slot in
    let read = get_or_read s.holders.items (slot_of c.args.request) c.index.result.now slot c.index.ensures 0 in
    let was = subst (λ (x : LifeState). IsLifeOf v x) (sym c.self.view_is) is in
    held_by_other v _ was c.args.request (λ same. c.if-index-request.true (read ∙ same))

pub returns-clause-nowhere : goal.returns-clause-nowhere
returns-clause-nowhere g c = rw (← c.self.view_is) (strike_none c.remove.result _ c.args.request c.remove.ensures.stood)

pub returns-clause-some : goal.returns-clause-some
returns-clause-some g c =
    let s = c.self.inside in
    let slot = subst (λ (x : LifeState). slot_of c.args.request < length x.holders) (sym c.self.view_is) c.requires.has_slot in
    let read = get_or_read s.holders.items (slot_of c.args.request) c.index.result.now slot c.index.ensures 0 in
    let holds : slice_index s.holders.items (slot_of c.args.request) ≡ c.args.request = omega (arith, c.if-index-request.false) in
    rw (← c.self.view_is) (strike_some (opened c.legal_histories_are_in_order.ensures) c.remove.result (record { queues = s.queues; holders = s.holders.items; hand = s.hand; known = s.known; running = s.running.items }) c.remove.new.self c.args.request
    holds c.remove.ensures.stood c.remove.ensures.some)

pub returns-clause-fewer : goal.returns-clause-fewer
returns-clause-fewer g c =
    let s = c.self.inside in
    rw (← c.self.view_is) (fewer_struck c.remove.result (record { queues = s.queues; holders = s.holders.items; hand = s.hand; known = s.known; running = s.running.items }) (record { queues = c.remove.new.self; holders = s.holders.items; hand = s.hand; known = s.known; running = s.running.items }) (slot_of c.args.request) c.remove.ensures.stood c.remove.ensures.some)
