-- The level after a cancel and a dispatch.
use Rattle.std.proofs.Common.{◌≡◌, ℕ, refl, sym, subst}
use Rattle.std.specs.Prelude.{slice_get, Some}
use Rattle.apf_book.specs.LifeBook.{IsLifeKept, then_came_all}
use Rattle.apf_local.specs.declared.answer.Place.TheVariants as places
use Rattle.apf_local.specs.Worlds.{HasComeIn}
use Rattle.apf_local.specs.Levels.{LocalView, SameLocal}
use Rattle.apf_local.proofs.Beginning.{opened}
use Rattle.apf_local.proofs.Logging.{goes_on_then, struck_on}
use Rattle.apf_local.proofs.Slots.{owner_then, local_stays}
use Rattle.apf_local.proofs.Worlds.{decided_more}
use Rattle.apf_local.proofs.level.LocalLevel.cancel.Goals as goal

pub invariant_of-self : goal.invariant_of-self
invariant_of-self c =
    let l : LocalView = record { owner = c.self.inside.owner; sizes = c.self.inside.dealer; places = c.self.inside.places.items } in
    let h = c.has_a_history.ensures in
    let on = struck_on h.view c.cancel-answer.new.self.book c.args.request.number (c.cancel-answer.ensures.history h.view h.kept) in
    let stopped = (opened c.every_level_has_histories.ensures).served (then_came_all on.events h.view) c.cancel-answer.new.self.book c.dispatch.new.self.book c.dispatch.result c.dispatch.ensures.same.book (c.dispatch.ensures.served (then_came_all on.events h.view) on.kept) in
    local_stays l c.self.invariant c.cancel-answer.new.self c.dispatch.new.self c.cancel-answer.ensures.same c.dispatch.ensures.same c.dispatch.ensures.stay c.cancel-answer.ensures.passes stopped

pub returns-clause-same : goal.returns-clause-same
returns-clause-same c =
    let l : LocalView = record { owner = c.self.inside.owner; sizes = c.self.inside.dealer; places = c.self.inside.places.items } in
    subst (λ (x : LocalView). SameLocal x (record { owner = c.dispatch.new.self; sizes = c.self.inside.dealer; places = c.self.inside.places.items })) c.self.view_is (record { owner = owner_then l.owner c.cancel-answer.new.self c.dispatch.new.self c.cancel-answer.ensures.same c.dispatch.ensures.same; sizes = refl })

pub returns-clause-history : goal.returns-clause-history
returns-clause-history c = λ v is.
    let kept = subst (λ (x : LocalView). IsLifeKept v x.owner.book) (sym c.self.view_is) is in
    goes_on_then v c.cancel-answer.new.self.book c.dispatch.new.self.book c.dispatch.result (struck_on v c.cancel-answer.new.self.book c.args.request.number (c.cancel-answer.ensures.history v kept)) c.dispatch.ensures.served

pub returns-clause-decides : goal.returns-clause-decides
returns-clause-decides c = λ d is. decided_more c.cancel-answer.new.self.book.desk.desk.knows c.dispatch.new.self.book.desk.desk.knows c.dispatch.ensures.same.book.more c.args.request.number (c.cancel-answer.ensures.decides d is)

pub returns-clause-ends : goal.returns-clause-ends
returns-clause-ends c = λ i waits t at same.
    let here = subst (λ (x : LocalView). slice_get x.places i ≡ Some places.Waits) (sym c.self.view_is) waits in
    let there = subst (λ (x : LocalView). slice_get x.owner.passes i ≡ Some t) (sym c.self.view_is) at in
    let came : HasComeIn c.self.inside.owner.book c.args.request.number = subst (λ (r : ℕ). HasComeIn c.self.inside.owner.book r) same (c.self.invariant.came i t here there) in
    decided_more c.cancel-answer.new.self.book.desk.desk.knows c.dispatch.new.self.book.desk.desk.knows c.dispatch.ensures.same.book.more c.args.request.number (c.cancel-answer.ensures.ends came)
