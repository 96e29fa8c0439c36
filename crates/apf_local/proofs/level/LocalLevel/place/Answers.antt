-- A slot whose request read its decision.
use Rattle.std.proofs.Common.{rules, ◌≡◌, ◌<◌, ℕ, length, get_or, set, inl, Some, refl, sym, ap, ◌∙◌, subst}
use Rattle.std.specs.Prelude.{slice_get}
use Rattle.std.proofs.lemmas.Option.{slice_get-get_or}
use Rattle.apf_book.specs.LifeBook.{IsLifeKept, then_came_all}
use Rattle.apf_local.specs.declared.answer.Place.{Place}
use Rattle.apf_local.specs.declared.answer.Place.TheVariants as places
use Rattle.apf_local.specs.Worlds.{HasComeIn, IsDecidedIn}
use Rattle.apf_local.specs.Levels.{LocalView, SameLocal}
use Rattle.apf_local.specs.Tries.{IsReading}
use Rattle.apf_local.proofs.Beginning.{opened}
use Rattle.apf_local.proofs.Logging.{goes_on_then}
use Rattle.apf_local.proofs.Slots.{owner_then, local_kept, came_still}
use Rattle.apf_local.proofs.level.LocalLevel.place.Goals as goal

pub read_place-place-requires-clause-waits : goal.read_place-place-requires-clause-waits
read_place-place-requires-clause-waits c = λ t at.
    let inside : c.args.slot < length c.self.inside.places.items = (search rules) in
    let is : get_or c.self.inside.places.items c.args.slot places.Waits ≡ places.Waits = (search rules) in
    let here : slice_get c.self.inside.places.items c.args.slot ≡ Some places.Waits = slice_get-get_or c.self.inside.places.items c.args.slot places.Waits inside ∙ ap (λ (p : Place). Some p) is in
    c.self.invariant.at c.args.slot places.Waits t here at

pub invariant_of-self : goal.invariant_of-self
invariant_of-self c =
    let l : LocalView = record { owner = c.self.inside.owner; sizes = c.self.inside.dealer; places = c.self.inside.places.items } in
    let h = c.has_a_history.ensures in
    let moves = c.read_place-place.ensures.reads in
    let inside : c.args.slot < length c.self.inside.places.items = (search rules) in
    let is : get_or c.self.inside.places.items c.args.slot places.Waits ≡ places.Waits = (search rules) in
    let here : slice_get c.self.inside.places.items c.args.slot ≡ Some places.Waits = slice_get-get_or c.self.inside.places.items c.args.slot places.Waits inside ∙ ap (λ (p : Place). Some p) is in
    let on = c.read_place-place.ensures.history h.view h.kept in
    let v = then_came_all on.events h.view in
    let stopped = (opened c.every_level_has_histories.ensures).served v c.read_place-place.new.owner.book c.dispatch.new.self.book c.dispatch.result c.dispatch.ensures.same.book (c.dispatch.ensures.served v on.kept) in
    local_kept l c.self.invariant c.read_place-place.new.owner c.dispatch.new.self c.read_place-place.ensures.same c.dispatch.ensures.same c.dispatch.ensures.stay c.args.slot c.read_place-place.result moves.after moves.now moves.does.is
    (λ waits. subst (λ (r : ℕ). HasComeIn c.dispatch.new.self.book r) (sym moves.does.number) (came_still l c.self.invariant c.read_place-place.new.owner c.dispatch.new.self c.read_place-place.ensures.same c.dispatch.ensures.same c.dispatch.ensures.stay moves.before.pass.number (c.self.invariant.came c.args.slot moves.before here moves.was))) stopped

pub returns-clause-same : goal.returns-clause-same
returns-clause-same c =
    let l : LocalView = record { owner = c.self.inside.owner; sizes = c.self.inside.dealer; places = c.self.inside.places.items } in
    subst (λ (x : LocalView). SameLocal x (record { owner = c.dispatch.new.self; sizes = c.self.inside.dealer; places = set c.self.inside.places.items c.args.slot c.read_place-place.result })) c.self.view_is
    (record { owner = owner_then l.owner c.read_place-place.new.owner c.dispatch.new.self c.read_place-place.ensures.same c.dispatch.ensures.same; sizes = refl })

pub returns-clause-reads : goal.returns-clause-reads
returns-clause-reads c =
    let moves = c.read_place-place.ensures.reads in
    let inside : c.args.slot < length c.self.inside.places.items = (search rules) in
    let is : get_or c.self.inside.places.items c.args.slot places.Waits ≡ places.Waits = (search rules) in
    let here : slice_get c.self.inside.places.items c.args.slot ≡ Some places.Waits = slice_get-get_or c.self.inside.places.items c.args.slot places.Waits inside ∙ ap (λ (p : Place). Some p) is in
    subst (λ (x : LocalView). IsReading c.args.slot x c.read_place-place.result (record { owner = c.dispatch.new.self; sizes = c.self.inside.dealer; places = set c.self.inside.places.items c.args.slot c.read_place-place.result })) c.self.view_is (inl (record {
      before = moves.before;
      after = moves.after;
      place = places.Waits;
      place' = c.read_place-place.result;
      was = moves.was;
      was_at = here;
      now = c.dispatch.ensures.stay.passes ∙ moves.now;
      now_at = refl;
      does = record { waited = refl; place_is = refl; reads = moves.does };
    }))

pub returns-clause-decided : goal.returns-clause-decided
returns-clause-decided c = λ t at decided.
    c.read_place-place.ensures.decided t (subst (λ (x : LocalView). slice_get x.owner.passes c.args.slot ≡ Some t) (sym c.self.view_is) at) (subst (λ (x : LocalView). IsDecidedIn x.owner.book t.pass.number) (sym c.self.view_is) decided)

pub returns-clause-history : goal.returns-clause-history
returns-clause-history c = λ v is.
    let kept = subst (λ (x : LocalView). IsLifeKept v x.owner.book) (sym c.self.view_is) is in
    goes_on_then v c.read_place-place.new.owner.book c.dispatch.new.self.book c.dispatch.result (c.read_place-place.ensures.history v kept) c.dispatch.ensures.served
