-- A slot whose next request tried.
use Rattle.std.proofs.Common.{rules, ◌≡◌, ◌<◌, length, get_or, set, Some, refl, sym, ap, ◌∙◌, subst}
use Rattle.std.specs.Prelude.{slice_get}
use Rattle.std.proofs.lemmas.Option.{slice_get-get_or}
use Rattle.apf_local.specs.declared.answer.Answer.{Answer}
use Rattle.apf_local.specs.declared.answer.Place.{Place}
use Rattle.apf_local.specs.declared.answer.Place.TheVariants as places
use Rattle.apf_local.specs.Levels.{LocalView, SameLocal, IsAt}
use Rattle.apf_local.specs.Tries.{IsTry, answer_of_try}
use Rattle.apf_local.proofs.Beginning.{opened}
use Rattle.apf_local.proofs.Slots.{owner_then, local_kept, at_of_try, try_waits_not, is_try}
use Rattle.apf_local.proofs.level.LocalLevel.try_arrive.Goals as goal

pub begin-requires-clause-free : goal.begin-requires-clause-free
begin-requires-clause-free c = λ t at.
    let inside : c.args.slot < length c.self.inside.places.items = (search rules) in
    let is : get_or c.self.inside.places.items c.args.slot places.Free ≡ places.Free = (search rules) in
    let here : slice_get c.self.inside.places.items c.args.slot ≡ Some places.Free = slice_get-get_or c.self.inside.places.items c.args.slot places.Free inside ∙ ap (λ (p : Place). Some p) is in
    c.self.invariant.at c.args.slot places.Free t here at

pub invariant_of-self-2 : goal.invariant_of-self-2
invariant_of-self-2 c =
    let l : LocalView = record { owner = c.self.inside.owner; sizes = c.self.inside.dealer; places = c.self.inside.places.items } in
    let h = c.has_a_history.ensures in
    let moves = c.in-Some.ensures.begins in
    let stopped = (opened c.every_level_has_histories.ensures).served h.view c.begin.new.self.book c.dispatch.new.self.book c.dispatch.result c.dispatch.ensures.same.book (c.dispatch.ensures.served h.view (c.in-Some.ensures.history h.view h.kept)) in
    local_kept l c.self.invariant c.begin.new.self c.dispatch.new.self c.in-Some.ensures.same c.dispatch.ensures.same c.dispatch.ensures.stay c.args.slot c.of_try.result moves.after moves.now
    (subst (λ (p : Place). IsAt p moves.after) (sym c.of_try.ensures) (at_of_try c.args.ask c.in-Some.tried moves.after moves.does.is)) (λ is. absurd (try_waits_not c.in-Some.tried (sym c.of_try.ensures ∙ is))) stopped

pub returns-clause-same : goal.returns-clause-same
returns-clause-same c =
    let l : LocalView = record { owner = c.self.inside.owner; sizes = c.self.inside.dealer; places = c.self.inside.places.items } in
    subst (λ (x : LocalView). SameLocal x (record { owner = c.dispatch.new.self; sizes = c.self.inside.dealer; places = set c.self.inside.places.items c.args.slot c.of_try.result })) c.self.view_is
    (record { owner = owner_then l.owner c.begin.new.self c.dispatch.new.self c.in-Some.ensures.same c.dispatch.ensures.same; sizes = refl })

pub returns-clause-tries : goal.returns-clause-tries
returns-clause-tries c =
    let l : LocalView = record { owner = c.self.inside.owner; sizes = c.self.inside.dealer; places = c.self.inside.places.items } in
    let l' : LocalView = record { owner = c.dispatch.new.self; sizes = c.self.inside.dealer; places = set c.self.inside.places.items c.args.slot c.of_try.result } in
    let moves = c.in-Some.ensures.begins in
    let inside : c.args.slot < length c.self.inside.places.items = (search rules) in
    let is : get_or c.self.inside.places.items c.args.slot places.Free ≡ places.Free = (search rules) in
    let here : slice_get c.self.inside.places.items c.args.slot ≡ Some places.Free = slice_get-get_or c.self.inside.places.items c.args.slot places.Free inside ∙ ap (λ (p : Place). Some p) is in
    let tries : IsTry c.args.slot c.args.ask l (answer_of_try c.in-Some.tried) l' = is_try c.args.slot c.args.ask l l' c.in-Some.tried (record {
      before = moves.before;
      after = moves.after;
      place = places.Free;
      place' = c.of_try.result;
      was = moves.was;
      was_at = here;
      now = c.dispatch.ensures.stay.passes ∙ moves.now;
      now_at = refl;
      does = record { was_free = refl; number = moves.does.number; took = c.in-Some.tried; answer_is = refl; place_is = c.of_try.ensures; is = moves.does.is };
    }) in
    subst (λ (x : LocalView). IsTry c.args.slot c.args.ask x c.of_try-2.result l') c.self.view_is (subst (λ (y : Answer). IsTry c.args.slot c.args.ask l y l') (sym c.of_try-2.ensures) tries)
