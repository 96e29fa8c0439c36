-- A slot whose request never came is free.
use Rattle.std.proofs.Common.{◌≡◌, set, Some, sym, subst}
use Rattle.std.specs.Prelude.{slice_get}
use Rattle.apf_local.specs.declared.answer.Place.TheVariants as places
use Rattle.apf_local.specs.Levels.{LocalView, SameLocal}
use Rattle.apf_local.specs.Seats.{KeepsSeats}
use Rattle.apf_local.proofs.Giving.{none_given_up}
use Rattle.apf_local.proofs.Seats.{left_seated}
use Rattle.apf_local.proofs.Slots.{local_left}
use Rattle.apf_local.proofs.level.LocalLevel.leave.Goals as goal

pub invariant_of-self : goal.invariant_of-self
invariant_of-self c =
    let l : LocalView = record { owner = c.self.inside.owner; sizes = c.self.inside.dealer; places = c.self.inside.places.items } in
    local_left l c.self.invariant c.args.slot c.args.ask (subst (λ (x : LocalView). slice_get x.places c.args.slot ≡ Some (places.Fresh c.args.ask)) (sym c.self.view_is) c.requires.fresh)

pub returns-clause-same : goal.returns-clause-same
returns-clause-same c =
    let l : LocalView = record { owner = c.self.inside.owner; sizes = c.self.inside.dealer; places = c.self.inside.places.items } in
    let same = (none_given_up l).same in
    subst (λ (x : LocalView). SameLocal x (record l { places = set l.places c.args.slot places.Free })) c.self.view_is (record { owner = same.owner; sizes = same.sizes })

pub returns-clause-seats : goal.returns-clause-seats
returns-clause-seats c =
    let l : LocalView = record { owner = c.self.inside.owner; sizes = c.self.inside.dealer; places = c.self.inside.places.items } in
    let same = (none_given_up l).same in
    let here = subst (λ (x : LocalView). slice_get x.places c.args.slot ≡ Some (places.Fresh c.args.ask)) (sym c.self.view_is) c.requires.fresh in
    subst (λ (x : LocalView). KeepsSeats x (record l { places = set l.places c.args.slot places.Free })) c.self.view_is
    (left_seated l c.args.slot (places.Fresh c.args.ask) (record { owner = same.owner; sizes = same.sizes }) here (λ is. let z : places.Fresh c.args.ask ≡ places.Runs = is in cc))
