-- A slot whose next request arrived.
use Rattle.std.proofs.Common.{rules, ◌≡◌, ◌<◌, length, get_or, set, Some, refl, sym, ap, ◌∙◌, subst}
use Rattle.std.specs.Prelude.{slice_get}
use Rattle.std.proofs.lemmas.Option.{slice_get-get_or}
use Rattle.apf_flow.specs.Deal.{hand_of}
use Rattle.apf_local.specs.declared.answer.Answer.{Answer}
use Rattle.apf_local.specs.declared.answer.Place.{Place}
use Rattle.apf_local.specs.declared.answer.Place.TheVariants as places
use Rattle.apf_local.specs.Levels.{LocalView, SameLocal, IsArrival, IsAt, answer_of}
use Rattle.apf_local.proofs.Beginning.{opened}
use Rattle.apf_local.proofs.Logging.{logged, logs_in}
use Rattle.apf_local.proofs.Slots.{owner_then, local_kept, at_of, waits_of, is_arrival}
use Rattle.apf_local.proofs.Worlds.{came_more}
use Rattle.apf_local.proofs.level.LocalLevel.arrive.Goals as goal

pub admit-requires-clause-free : goal.admit-requires-clause-free
admit-requires-clause-free c = λ t at.
    let inside : c.args.slot < length c.self.inside.places.items = (search rules) in
    let is : get_or c.self.inside.places.items c.args.slot places.Free ≡ places.Free = (search rules) in
    let here : slice_get c.self.inside.places.items c.args.slot ≡ Some places.Free = slice_get-get_or c.self.inside.places.items c.args.slot places.Free inside ∙ ap (λ (p : Place). Some p) is in
    c.self.invariant.at c.args.slot places.Free t here at

pub invariant_of-self-2 : goal.invariant_of-self-2
invariant_of-self-2 c =
    let l : LocalView = record { owner = c.self.inside.owner; sizes = c.self.inside.dealer; places = c.self.inside.places.items } in
    let h = c.has_a_history.ensures in
    let moves = c.in-Some.ensures.admits in
    let a = c.in-Some.admitted in
    let b1 = c.admit.new.owner.book in
    let b2 = c.dispatch.new.self.book in
    let logs = logged h.view moves.after.pass.number (hand_of l.sizes c.args.ask.hash) c.args.ask.cost a b1 b2 c.in-Some.event (moves.does.history h.view h.kept) in
    let stopped = (opened c.every_level_has_histories.ensures).served logs.0 b1 b2 c.dispatch.result c.dispatch.ensures.same.book (c.dispatch.ensures.served logs.0 logs.1) in
    local_kept l c.self.invariant c.admit.new.owner c.dispatch.new.self c.in-Some.ensures.same c.dispatch.ensures.same c.dispatch.ensures.stay c.args.slot c.place.result moves.after moves.now
    (subst (λ (p : Place). IsAt p moves.after) (sym c.place.ensures) (at_of a moves.after moves.does.is))
    (λ is. came_more b1.desk.desk.knows b2.desk.desk.knows c.dispatch.ensures.same.book.more moves.after.pass.number (moves.does.came (waits_of a (sym c.place.ensures ∙ is)))) stopped

pub returns-clause-same : goal.returns-clause-same
returns-clause-same c =
    let l : LocalView = record { owner = c.self.inside.owner; sizes = c.self.inside.dealer; places = c.self.inside.places.items } in
    subst (λ (x : LocalView). SameLocal x (record { owner = c.dispatch.new.self; sizes = c.self.inside.dealer; places = set c.self.inside.places.items c.args.slot c.place.result })) c.self.view_is (record { owner = owner_then l.owner c.admit.new.owner c.dispatch.new.self c.in-Some.ensures.same c.dispatch.ensures.same; sizes = refl })

pub returns-clause-arrives : goal.returns-clause-arrives
returns-clause-arrives c =
    let l : LocalView = record { owner = c.self.inside.owner; sizes = c.self.inside.dealer; places = c.self.inside.places.items } in
    let l' : LocalView = record { owner = c.dispatch.new.self; sizes = c.self.inside.dealer; places = set c.self.inside.places.items c.args.slot c.place.result } in
    let moves = c.in-Some.ensures.admits in
    let a = c.in-Some.admitted in
    let b1 = c.admit.new.owner.book in
    let b2 = c.dispatch.new.self.book in
    let hand = hand_of l.sizes c.args.ask.hash in
    let inside : c.args.slot < length c.self.inside.places.items = (search rules) in
    let is : get_or c.self.inside.places.items c.args.slot places.Free ≡ places.Free = (search rules) in
    let here : slice_get c.self.inside.places.items c.args.slot ≡ Some places.Free = slice_get-get_or c.self.inside.places.items c.args.slot places.Free inside ∙ ap (λ (p : Place). Some p) is in
    let arrives : IsArrival c.args.slot c.args.ask hand l (answer_of a) c.in-Some.event l' = is_arrival c.args.slot c.args.ask hand l c.in-Some.event l' a (record {
      before = moves.before;
      after = moves.after;
      place = places.Free;
      place' = c.place.result;
      was = moves.was;
      was_at = here;
      now = c.dispatch.ensures.stay.passes ∙ moves.now;
      now_at = refl;
      does = record {
        was_free = refl;
        number = moves.does.number;
        admitted = a;
        answer_is = refl;
        place_is = c.place.ensures;
        is = moves.does.is;
        tried = moves.does.tried;
        history = λ v kept. logs_in v moves.after.pass.number hand c.args.ask.cost a b1 b2 c.dispatch.result c.dispatch.ensures.served c.in-Some.event (moves.does.history v kept);
      };
    }) in
    subst (λ (x : LocalView). IsArrival c.args.slot c.args.ask (hand_of x.sizes c.args.ask.hash) x c.answer.result c.in-Some.event l') c.self.view_is
    (subst (λ (y : Answer). IsArrival c.args.slot c.args.ask hand l y c.in-Some.event l') (sym c.answer.ensures) arrives)
