-- A request that is cancelled is struck, and is decided still.
use Rattle.std.proofs.Common.{refl, sym, subst}
use Rattle.apf_local.specs.Worlds.{IsDecidedIn}
use Rattle.apf_local.specs.Owners.{OwnerView}
use Rattle.apf_local.proofs.Places.{same_owner}
use Rattle.apf_local.proofs.Slots.{owner_then}
use Rattle.apf_local.proofs.Worlds.{decided_more}
use Rattle.apf_local.proofs.owner.Owner.cancel.Goals as goal

pub returns-then-eq-clause-same : goal.returns-then-eq-clause-same
returns-then-eq-clause-same c =
    let o : OwnerView = record { gate = c.self.inside.gate; response = c.self.inside.response; book = c.self.inside.book; passes = c.self.inside.passes.items; stations = c.self.inside.stations.items } in
    let after : OwnerView = record { gate = c.self.inside.gate; response = c.self.inside.response; book = c.strike.new.self; passes = c.self.inside.passes.items; stations = c.self.inside.stations.items } in
    owner_then c.args.self.now c.decide_cancelled-answer.new.self after c.decide_cancelled-answer.ensures.same (same_owner o c.decide_cancelled-answer.new.self c.self.view_is c.strike.new.self c.strike.ensures.same _ refl _ refl)

pub returns-then-eq-clause-decides : goal.returns-then-eq-clause-decides
returns-then-eq-clause-decides c = λ d is.
    decided_more c.self.inside.book.desk.desk.knows c.strike.new.self.desk.desk.knows c.strike.ensures.same.more c.args.ticket.number
    (subst (λ (x : OwnerView). IsDecidedIn x.book c.args.ticket.number) (sym c.self.view_is) (c.decide_cancelled-answer.ensures.decides d is))

pub returns-then-eq-clause-ends : goal.returns-then-eq-clause-ends
returns-then-eq-clause-ends c = λ came.
    decided_more c.self.inside.book.desk.desk.knows c.strike.new.self.desk.desk.knows c.strike.ensures.same.more c.args.ticket.number
    (subst (λ (x : OwnerView). IsDecidedIn x.book c.args.ticket.number) (sym c.self.view_is) (c.decide_cancelled-answer.ensures.ends came))
