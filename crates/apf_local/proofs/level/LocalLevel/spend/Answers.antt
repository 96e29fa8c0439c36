-- A slot whose request is charged what it has taken.
use Rattle.std.proofs.Common.{rules, ◌≡◌, ◌<◌, ℕ, length, get_or, Some, refl, sym, ap, ◌∙◌, subst}
use Rattle.std.specs.Prelude.{slice_get}
use Rattle.std.proofs.lemmas.Option.{slice_get-get_or}
use Rattle.apf_model.specs.World.{width}
use Rattle.apf_book.specs.LifeBook.{IsLifeKept}
use Rattle.apf_local.specs.declared.answer.Place.{Place}
use Rattle.apf_local.specs.declared.answer.Place.TheVariants as places
use Rattle.apf_local.specs.Levels.{LocalView, SameLocal, SpendsOn}
use Rattle.apf_line.specs.SeatTime.{seat_time_of}
use Rattle.apf_local.proofs.Beginning.{opened}
use Rattle.apf_local.proofs.Charged.{spends_on}
use Rattle.apf_local.proofs.Slots.{owner_then, local_stays}
use Rattle.apf_local.proofs.level.LocalLevel.spend.Goals as goal

pub spend-requires-clause-runs : goal.spend-requires-clause-runs
spend-requires-clause-runs c = λ t at.
    let inside : c.args.slot < length c.self.inside.places.items = (search rules) in
    let is : get_or c.self.inside.places.items c.args.slot places.Runs ≡ places.Runs = (search rules) in
    let here : slice_get c.self.inside.places.items c.args.slot ≡ Some places.Runs = slice_get-get_or c.self.inside.places.items c.args.slot places.Runs inside ∙ ap (λ (p : Place). Some p) is in
    c.self.invariant.at c.args.slot places.Runs t here at

pub invariant_of-self : goal.invariant_of-self
invariant_of-self c =
    let l : LocalView = record { owner = c.self.inside.owner; sizes = c.self.inside.dealer; places = c.self.inside.places.items } in
    let h = c.has_a_history-2.ensures in
    let stopped = (opened c.every_level_has_histories.ensures).served h.view c.spend.new.self.book c.dispatch.new.self.book c.dispatch.result c.dispatch.ensures.same.book (c.dispatch.ensures.served h.view h.kept) in
    local_stays l c.self.invariant c.spend.new.self c.dispatch.new.self c.spend.ensures.same c.dispatch.ensures.same c.dispatch.ensures.stay c.spend.ensures.stay.passes stopped

pub returns-clause-same : goal.returns-clause-same
returns-clause-same c =
    let l : LocalView = record { owner = c.self.inside.owner; sizes = c.self.inside.dealer; places = c.self.inside.places.items } in
    subst (λ (x : LocalView). SameLocal x (record { owner = c.dispatch.new.self; sizes = c.self.inside.dealer; places = c.self.inside.places.items })) c.self.view_is (record { owner = owner_then l.owner c.spend.new.self c.dispatch.new.self c.spend.ensures.same c.dispatch.ensures.same; sizes = refl })

pub returns-clause-executes : goal.returns-clause-executes
returns-clause-executes c =
    let inside : c.args.slot < length c.self.inside.places.items = (search rules) in
    let is : get_or c.self.inside.places.items c.args.slot places.Runs ≡ places.Runs = (search rules) in
    let here : slice_get c.self.inside.places.items c.args.slot ≡ Some places.Runs = slice_get-get_or c.self.inside.places.items c.args.slot places.Runs inside ∙ ap (λ (p : Place). Some p) is in
    ((λ yes. subst (λ (x : LocalView). slice_get x.places c.args.slot ≡ Some places.Runs) c.self.view_is here), (λ runs. refl))

pub returns-clause-spends : goal.returns-clause-spends
returns-clause-spends c = λ executes t at v is.
    let here : slice_get c.self.inside.owner.passes c.args.slot ≡ Some t = subst (λ (x : LocalView). slice_get x.owner.passes c.args.slot ≡ Some t) (sym c.self.view_is) at in
    let kept : IsLifeKept v c.self.inside.owner.book = subst (λ (x : LocalView). IsLifeKept v x.owner.book) (sym c.self.view_is) is in
    let amount : c.seat_time-amount.result ≡ seat_time_of (width c.self.inside.owner.gate.shape.widths t.pass.number) c.args.micros = c.seat_time-amount.ensures.value ∙ ap (λ (w : ℕ). seat_time_of w c.args.micros) (c.width.ensures.width t here) in
    subst (λ (x : LocalView). SpendsOn v x.owner.book t.pass.number (seat_time_of (width x.owner.gate.shape.widths t.pass.number) c.args.micros) c.dispatch.new.self.book) c.self.view_is
    (subst (λ (m : ℕ). SpendsOn v c.self.inside.owner.book t.pass.number m c.dispatch.new.self.book) amount
    (spends_on v c.self.inside.owner.book c.spend.new.self.book c.spend.new.self.book c.dispatch.new.self.book t.pass.number c.seat_time-amount.result c.dispatch.result kept (λ w on. on) c.dispatch.ensures.served c.spend.result (c.spend.ensures.spends t here v kept)))
