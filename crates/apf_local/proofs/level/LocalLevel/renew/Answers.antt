-- A slot whose next request is there.
use Rattle.std.proofs.Common.{rules, ◌≡◌, ◌<◌, length, get_or, set, Some, refl, ap, ◌∙◌, subst}
use Rattle.std.specs.Prelude.{slice_get}
use Rattle.std.proofs.lemmas.Option.{slice_get-get_or}
use Rattle.apf_local.specs.declared.answer.Place.{Place}
use Rattle.apf_local.specs.declared.answer.Place.TheVariants as places
use Rattle.apf_local.specs.Levels.{LocalView, SameLocal, SlotMoves, BecomesFresh}
use Rattle.apf_local.proofs.Beginning.{opened}
use Rattle.apf_local.proofs.Slots.{owner_then, local_kept}
use Rattle.apf_local.proofs.level.LocalLevel.renew.Goals as goal

pub renew-requires-clause-free : goal.renew-requires-clause-free
renew-requires-clause-free c = λ t at.
    let inside : c.args.slot < length c.self.inside.places.items = (search rules) in
    let is : get_or c.self.inside.places.items c.args.slot places.Free ≡ places.Free = (search rules) in
    let here : slice_get c.self.inside.places.items c.args.slot ≡ Some places.Free = slice_get-get_or c.self.inside.places.items c.args.slot places.Free inside ∙ ap (λ (p : Place). Some p) is in
    c.self.invariant.at c.args.slot places.Free t here at

pub invariant_of-self-2 : goal.invariant_of-self-2
invariant_of-self-2 c =
    let l : LocalView = record { owner = c.self.inside.owner; sizes = c.self.inside.dealer; places = c.self.inside.places.items } in
    let h = c.has_a_history.ensures in
    let moves = c.renew.ensures.renews (search rules) in
    let stopped = (opened c.every_level_has_histories.ensures).served h.view c.renew.new.self.book c.dispatch.new.self.book c.dispatch.result c.dispatch.ensures.same.book (c.dispatch.ensures.served h.view (c.renew.ensures.history h.view h.kept)) in
    local_kept l c.self.invariant c.renew.new.self c.dispatch.new.self c.renew.ensures.same c.dispatch.ensures.same c.dispatch.ensures.stay c.args.slot (places.Fresh c.args.ask) moves.after moves.now
    (moves.does.is, c.requires.some_cost, c.requires.low_cost) (λ is. absurd (let z : places.Fresh c.args.ask ≡ places.Waits = is in cc)) stopped

pub returns-clause-same : goal.returns-clause-same
returns-clause-same c =
    let l : LocalView = record { owner = c.self.inside.owner; sizes = c.self.inside.dealer; places = c.self.inside.places.items } in
    subst (λ (x : LocalView). SameLocal x (record { owner = c.dispatch.new.self; sizes = c.self.inside.dealer; places = set c.self.inside.places.items c.args.slot (places.Fresh c.args.ask) })) c.self.view_is
    (record { owner = owner_then l.owner c.renew.new.self c.dispatch.new.self c.renew.ensures.same c.dispatch.ensures.same; sizes = refl })

pub returns-clause-renews : goal.returns-clause-renews
returns-clause-renews c =
    let l : LocalView = record { owner = c.self.inside.owner; sizes = c.self.inside.dealer; places = c.self.inside.places.items } in
    let l' : LocalView = record { owner = c.dispatch.new.self; sizes = c.self.inside.dealer; places = set c.self.inside.places.items c.args.slot (places.Fresh c.args.ask) } in
    let moves = c.renew.ensures.renews (search rules) in
    let inside : c.args.slot < length c.self.inside.places.items = (search rules) in
    let is : get_or c.self.inside.places.items c.args.slot places.Free ≡ places.Free = (search rules) in
    let here : slice_get c.self.inside.places.items c.args.slot ≡ Some places.Free = slice_get-get_or c.self.inside.places.items c.args.slot places.Free inside ∙ ap (λ (p : Place). Some p) is in
    let renews : SlotMoves c.args.slot l l' (BecomesFresh c.args.ask) = record {
      before = moves.before;
      after = moves.after;
      place = places.Free;
      place' = places.Fresh c.args.ask;
      was = moves.was;
      was_at = here;
      now = c.dispatch.ensures.stay.passes ∙ moves.now;
      now_at = refl;
      does = record { was_free = refl; place_is = refl; renews = moves.does };
    } in
    subst (λ (x : LocalView). SlotMoves c.args.slot x l' (BecomesFresh c.args.ask)) c.self.view_is renews
