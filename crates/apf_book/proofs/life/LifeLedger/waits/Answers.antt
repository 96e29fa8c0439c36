-- Who stands in a queue waits, and no other.
use Rattle.std.proofs.Common.{◌≡◌, ◌<◌, length, slice_index, sym, refl, subst, ◌∙◌, arith}
use Rattle.std.proofs.lemmas.List.{get_or_read}
use Rattle.apf_gate.specs.Slots.{slot_of}
use Rattle.apf_book.specs.Life.{LifeState, IsLifeOf}
use Rattle.apf_book.proofs.LifeStrikes.{held_by_other, waits_in_none, stands_and_waits}
use Rattle.apf_book.proofs.life.LifeLedger.waits.Goals as goal

pub returns-then-index-request : goal.returns-then-index-request
returns-then-index-request g c v is =
    let s = c.self.inside in
    let slot = subst (λ (x : LifeState). slot_of c.args.request < length x.holders) (sym c.self.view_is) c.requires.has_slot in
    let read = get_or_read s.holders.items (slot_of c.args.request) c.index.result.now slot c.index.ensures 0 in
    let was = subst (λ (x : LifeState). IsLifeOf v x) (sym c.self.view_is) is in
    held_by_other v _ was c.args.request (λ same. c.if-index-request.true (read ∙ same))

pub returns-in-Some : goal.returns-in-Some
returns-in-Some g c v is =
    let s = c.self.inside in
    let slot = subst (λ (x : LifeState). slot_of c.args.request < length x.holders) (sym c.self.view_is) c.requires.has_slot in
    let read = get_or_read s.holders.items (slot_of c.args.request) c.index.result.now slot c.index.ensures 0 in
    let holds : slice_index s.holders.items (slot_of c.args.request) ≡ c.args.request = omega (arith, c.if-index-request.false) in
    let was = subst (λ (x : LifeState). IsLifeOf v x) (sym c.self.view_is) is in
    (c.in-Some._queue, stands_and_waits v _ was c.args.request c.in-Some._queue holds ((c.in-Some.ensures.stands c.in-Some._queue).0 refl))

pub returns-in-None : goal.returns-in-None
returns-in-None g c v is =
    waits_in_none v _ (subst (λ (x : LifeState). IsLifeOf v x) (sym c.self.view_is) is) c.args.request c.in-None.ensures.nowhere
