-- No grant is lost.
use Rattle.std.proofs.Common.{refl, arith}
use Rattle.apf_book.specs.LifeBook.{LifeBookView}
use Rattle.apf_book.specs.Tries.{LosesGrant}
use Rattle.apf_local.proofs.Places.{not_less}
use Rattle.apf_local.proofs.owner.Owner.dispatch.Goals as goal

pub unreachable-requires : goal.unreachable-requires
unreachable-requires c =
    let here = c.gather.ensures.here in
    let b0 : LifeBookView = c.self.inside.book in
    let b1 : LifeBookView = c.try_dispatch.new.self in
    let loses : LosesGrant b0 b1 = c.in-Raced.ensures.raced c.in-Raced._count refl in
    let more = not_less b0.desk.desk.knows loses.before.knows loses.more in
    c.no_exchange_is_lost.ensures.grant c.self.inside.gate loses.before b1.desk.desk c.self.inside.passes.items c.self.inside.stations.items here.0 loses.request here.1
    (λ k t at. let l = c.self.invariant.newest k t at in omega arith)
    (λ k t at. let l = c.self.invariant.stations_newest k t at in omega arith)
    loses.raced
