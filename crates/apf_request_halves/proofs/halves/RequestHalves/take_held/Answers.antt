-- The line is held.
use Rattle.std.proofs.Common.{map}
use Rattle.apf_request_halves.specs.Held.{Placed, placed}
use Rattle.apf_request_halves.specs.Reading.{HalvesView}
use Rattle.apf_request_halves.proofs.Taking.{held_went}
use Rattle.apf_request_halves.proofs.halves.RequestHalves.take_held.Goals as goal

pub returns : goal.returns
returns c =
    let v : HalvesView = record { lines = c.self.inside.lines; held = map placed c.self.inside.store.entries; number = c.self.inside.number; dropped = c.self.inside.dropped; limit = c.self.inside.limit; is_ended = c.self.inside.is_ended } in
    let p : Placed = placed (c.in-Some.audit_id, c.in-Some.held) in
    let new = map placed c.take.new.store.entries in
    rw (← c.self.view_is) (λ bytes asked left h. (
      c.in-Some.held.number,
      rw c.limit_behind-self-inside.ensures (held_went bytes asked left v h c.args.id.now p new c.in-Some.ensures.some c.in-Some.ensures.order c.in-Some.ensures.id),
    ))
