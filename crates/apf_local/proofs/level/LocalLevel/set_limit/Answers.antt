-- The level after its limit was set, and a dispatch.
use Rattle.std.proofs.Common.{refl, subst}
use Rattle.apf_local.specs.Levels.{LocalView, SameLocal}
use Rattle.apf_local.proofs.Beginning.{opened}
use Rattle.apf_local.proofs.Slots.{owner_then, local_stays}
use Rattle.apf_local.proofs.level.LocalLevel.set_limit.Goals as goal

pub invariant_of-self : goal.invariant_of-self
invariant_of-self c =
    let l : LocalView = record { owner = c.self.inside.owner; sizes = c.self.inside.dealer; places = c.self.inside.places.items } in
    let h = c.has_a_history.ensures in
    let stopped = (opened c.every_level_has_histories.ensures).served h.view c.set_limit-old.new.self.book c.dispatch.new.self.book c.dispatch.result c.dispatch.ensures.same.book (c.dispatch.ensures.served h.view (c.set_limit-old.ensures.history h.view h.kept)) in
    local_stays l c.self.invariant c.set_limit-old.new.self c.dispatch.new.self c.set_limit-old.ensures.same c.dispatch.ensures.same c.dispatch.ensures.stay c.set_limit-old.ensures.passes stopped

pub returns-clause-same : goal.returns-clause-same
returns-clause-same c =
    let l : LocalView = record { owner = c.self.inside.owner; sizes = c.self.inside.dealer; places = c.self.inside.places.items } in
    subst (λ (x : LocalView). SameLocal x (record { owner = c.dispatch.new.self; sizes = c.self.inside.dealer; places = c.self.inside.places.items })) c.self.view_is (record { owner = owner_then l.owner c.set_limit-old.new.self c.dispatch.new.self c.set_limit-old.ensures.same c.dispatch.ensures.same; sizes = refl })
