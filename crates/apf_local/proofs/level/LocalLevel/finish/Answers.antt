-- A slot whose request gave its seats back.
use Rattle.std.proofs.Common.{rules, ◌≡◌, ◌<◌, length, get_or, set, Some, refl, sym, ap, ◌∙◌, subst}
use Rattle.std.specs.Prelude.{slice_get}
use Rattle.std.proofs.lemmas.Option.{slice_get-get_or}
use Rattle.apf_book.specs.LifeBook.{IsLifeKept}
use Rattle.apf_local.specs.declared.answer.Place.{Place}
use Rattle.apf_local.specs.declared.answer.Place.TheVariants as places
use Rattle.apf_local.specs.Levels.{LocalView, SameLocal, SlotMoves, Finishes}
use Rattle.apf_local.proofs.Beginning.{opened}
use Rattle.apf_local.proofs.Seats.{held_then}
use Rattle.apf_local.proofs.Slots.{owner_then, local_kept}
use Rattle.apf_local.proofs.level.LocalLevel.finish.Goals as goal

pub give_back-requires-clause-runs : goal.give_back-requires-clause-runs
give_back-requires-clause-runs c = λ t at.
    let inside : c.args.slot < length c.self.inside.places.items = (search rules) in
    let is : get_or c.self.inside.places.items c.args.slot places.Runs ≡ places.Runs = (search rules) in
    let here : slice_get c.self.inside.places.items c.args.slot ≡ Some places.Runs = slice_get-get_or c.self.inside.places.items c.args.slot places.Runs inside ∙ ap (λ (p : Place). Some p) is in
    c.self.invariant.at c.args.slot places.Runs t here at

pub invariant_of-self : goal.invariant_of-self
invariant_of-self c =
    let l : LocalView = record { owner = c.self.inside.owner; sizes = c.self.inside.dealer; places = c.self.inside.places.items } in
    let h = c.has_a_history.ensures in
    let moves = c.give_back.ensures.gives in
    let kept = c.give_back.ensures.history h.view h.kept in
    let stopped = (opened c.every_level_has_histories.ensures).served h.view c.give_back.new.self.book c.dispatch.new.self.book c.dispatch.result c.dispatch.ensures.same.book (c.dispatch.ensures.served h.view kept) in
    local_kept l c.self.invariant c.give_back.new.self c.dispatch.new.self c.give_back.ensures.same c.dispatch.ensures.same c.dispatch.ensures.stay c.args.slot places.Free moves.after moves.now moves.does.is (λ e. absurd (let z : places.Free ≡ places.Waits = e in cc)) stopped

pub returns-clause-same : goal.returns-clause-same
returns-clause-same c =
    let l : LocalView = record { owner = c.self.inside.owner; sizes = c.self.inside.dealer; places = c.self.inside.places.items } in
    subst (λ (x : LocalView). SameLocal x (record { owner = c.dispatch.new.self; sizes = c.self.inside.dealer; places = set c.self.inside.places.items c.args.slot places.Free })) c.self.view_is (record { owner = owner_then l.owner c.give_back.new.self c.dispatch.new.self c.give_back.ensures.same c.dispatch.ensures.same; sizes = refl })

pub returns-clause-finishes : goal.returns-clause-finishes
returns-clause-finishes c =
    let moves = c.give_back.ensures.gives in
    let inside : c.args.slot < length c.self.inside.places.items = (search rules) in
    let is : get_or c.self.inside.places.items c.args.slot places.Runs ≡ places.Runs = (search rules) in
    let here : slice_get c.self.inside.places.items c.args.slot ≡ Some places.Runs = slice_get-get_or c.self.inside.places.items c.args.slot places.Runs inside ∙ ap (λ (p : Place). Some p) is in
    subst (λ (x : LocalView). SlotMoves c.args.slot x (record { owner = c.dispatch.new.self; sizes = c.self.inside.dealer; places = set c.self.inside.places.items c.args.slot places.Free }) Finishes) c.self.view_is (record {
      before = moves.before;
      after = moves.after;
      place = places.Runs;
      place' = places.Free;
      was = moves.was;
      was_at = here;
      now = c.dispatch.ensures.stay.passes ∙ moves.now;
      now_at = refl;
      does = record { ran = refl; place_is = refl; waiting = c.give_back.result; gives = moves.does };
    })

pub returns-clause-held : goal.returns-clause-held
returns-clause-held c = λ released t at v is.
    let here : slice_get c.self.inside.owner.passes c.args.slot ≡ Some t = subst (λ (x : LocalView). slice_get x.owner.passes c.args.slot ≡ Some t) (sym c.self.view_is) at in
    let kept : IsLifeKept v c.self.inside.owner.book = subst (λ (x : LocalView). IsLifeKept v x.owner.book) (sym c.self.view_is) is in
    held_then c.give_back.new.self c.dispatch.new.self c.dispatch.ensures.same v.history t.pass.number (c.give_back.ensures.held t here v kept)
