-- A slot whose request was there, and arrived.
use Rattle.std.proofs.Common.{rules, ◌≡◌, ◌<◌, List, length, get_or, set, Some, refl, sym, ap, ◌∙◌, subst}
use Rattle.std.specs.Prelude.{slice_get}
use Rattle.std.proofs.lemmas.Option.{slice_get-get_or}
use Rattle.apf_flow.specs.Deal.{hand_of}
use Rattle.apf_gate.specs.Tokens.{PassToken}
use Rattle.apf_local.specs.declared.answer.Answer.{Answer}
use Rattle.apf_local.specs.declared.answer.Place.{Place}
use Rattle.apf_local.specs.declared.answer.Place.TheVariants as places
use Rattle.apf_local.specs.Owners.{IsFresh}
use Rattle.apf_local.specs.Levels.{LocalView, SameLocal, IsArrivalOfRenewed, IsAt, answer_of}
use Rattle.apf_local.proofs.Beginning.{opened}
use Rattle.apf_local.proofs.Logging.{logged, logs_in}
use Rattle.apf_local.proofs.Places.{set_again}
use Rattle.apf_local.proofs.Slots.{owner_then, local_kept, at_of, waits_of, get_same, is_arrival_of_renewed}
use Rattle.apf_local.proofs.Worlds.{came_more}
use Rattle.apf_local.proofs.level.LocalLevel.arrive_renewed.Goals as goal

pub hear-requires-clause-fresh : goal.hear-requires-clause-fresh
hear-requires-clause-fresh c = λ t at.
    let ask = c.in-Fresh.ask in
    let inside : c.args.slot < length c.self.inside.places.items = (search rules) in
    let is : get_or c.self.inside.places.items c.args.slot (places.Fresh ask) ≡ places.Fresh ask = (search rules) in
    let here : slice_get c.self.inside.places.items c.args.slot ≡ Some (places.Fresh ask) = slice_get-get_or c.self.inside.places.items c.args.slot (places.Fresh ask) inside ∙ ap (λ (p : Place). Some p) is in
    (c.self.invariant.at c.args.slot (places.Fresh ask) t here at).0

pub come-admitted-requires-clause-fresh : goal.come-admitted-requires-clause-fresh
come-admitted-requires-clause-fresh c = λ t at.
    let hears = c.hear.ensures.hears in
    let is : t ≡ hears.after = get_same c.self.inside.owner.passes c.args.slot hears.after t (subst (λ (ts : List PassToken). slice_get ts c.args.slot ≡ Some t) hears.now at) in
    subst (IsFresh c.in-Fresh.ask) (sym is) hears.does.is

pub come-admitted-requires-clause-some_cost : goal.come-admitted-requires-clause-some_cost
come-admitted-requires-clause-some_cost c =
    let ask = c.in-Fresh.ask in
    let inside : c.args.slot < length c.self.inside.places.items = (search rules) in
    let is : get_or c.self.inside.places.items c.args.slot (places.Fresh ask) ≡ places.Fresh ask = (search rules) in
    let here : slice_get c.self.inside.places.items c.args.slot ≡ Some (places.Fresh ask) = slice_get-get_or c.self.inside.places.items c.args.slot (places.Fresh ask) inside ∙ ap (λ (p : Place). Some p) is in
    (c.self.invariant.at c.args.slot (places.Fresh ask) c.hear.ensures.hears.before here c.hear.ensures.hears.was).1

pub come-admitted-requires-clause-low_cost : goal.come-admitted-requires-clause-low_cost
come-admitted-requires-clause-low_cost c =
    let ask = c.in-Fresh.ask in
    let inside : c.args.slot < length c.self.inside.places.items = (search rules) in
    let is : get_or c.self.inside.places.items c.args.slot (places.Fresh ask) ≡ places.Fresh ask = (search rules) in
    let here : slice_get c.self.inside.places.items c.args.slot ≡ Some (places.Fresh ask) = slice_get-get_or c.self.inside.places.items c.args.slot (places.Fresh ask) inside ∙ ap (λ (p : Place). Some p) is in
    (c.self.invariant.at c.args.slot (places.Fresh ask) c.hear.ensures.hears.before here c.hear.ensures.hears.was).2

pub invariant_of-self : goal.invariant_of-self
invariant_of-self c =
    let l : LocalView = record { owner = c.self.inside.owner; sizes = c.self.inside.dealer; places = c.self.inside.places.items } in
    let h = c.has_a_history.ensures in
    let hears = c.hear.ensures.hears in
    let stands = c.come-admitted.ensures.stands in
    let a = c.come-admitted.result.0 in
    let b1 = c.come-admitted.new.owner.book in
    let b2 = c.dispatch.new.self.book in
    let logs = logged h.view stands.after.pass.number (hand_of l.sizes c.in-Fresh.ask.hash) c.in-Fresh.ask.cost a b1 b2 c.come-admitted.result.1 (stands.does.history h.view (c.hear.ensures.history h.view h.kept)) in
    let stopped = (opened c.every_level_has_histories.ensures).served logs.0 b1 b2 c.dispatch.result c.dispatch.ensures.same.book (c.dispatch.ensures.served logs.0 logs.1) in
    local_kept l c.self.invariant c.come-admitted.new.owner c.dispatch.new.self (owner_then l.owner c.hear.new.self c.come-admitted.new.owner c.hear.ensures.same c.come-admitted.ensures.same) c.dispatch.ensures.same c.dispatch.ensures.stay c.args.slot c.place.result stands.after
    (stands.now ∙ (ap (λ (ts : List PassToken). set ts c.args.slot stands.after) hears.now ∙ set_again l.owner.passes c.args.slot hears.after stands.after))
    (subst (λ (p : Place). IsAt p stands.after) (sym c.place.ensures) (at_of a stands.after stands.does.is))
    (λ is. came_more b1.desk.desk.knows b2.desk.desk.knows c.dispatch.ensures.same.book.more stands.after.pass.number (stands.does.came (waits_of a (sym c.place.ensures ∙ is)))) stopped

pub returns-clause-same : goal.returns-clause-same
returns-clause-same c =
    let l : LocalView = record { owner = c.self.inside.owner; sizes = c.self.inside.dealer; places = c.self.inside.places.items } in
    subst (λ (x : LocalView). SameLocal x (record { owner = c.dispatch.new.self; sizes = c.self.inside.dealer; places = set c.self.inside.places.items c.args.slot c.place.result })) c.self.view_is
    (record { owner = owner_then l.owner c.come-admitted.new.owner c.dispatch.new.self (owner_then l.owner c.hear.new.self c.come-admitted.new.owner c.hear.ensures.same c.come-admitted.ensures.same) c.dispatch.ensures.same; sizes = refl })

pub returns-clause-arrives : goal.returns-clause-arrives
returns-clause-arrives c =
    let l : LocalView = record { owner = c.self.inside.owner; sizes = c.self.inside.dealer; places = c.self.inside.places.items } in
    let l' : LocalView = record { owner = c.dispatch.new.self; sizes = c.self.inside.dealer; places = set c.self.inside.places.items c.args.slot c.place.result } in
    let ask = c.in-Fresh.ask in
    let hears = c.hear.ensures.hears in
    let stands = c.come-admitted.ensures.stands in
    let a = c.come-admitted.result.0 in
    let event = c.come-admitted.result.1 in
    let b1 = c.come-admitted.new.owner.book in
    let b2 = c.dispatch.new.self.book in
    let hand = hand_of l.sizes ask.hash in
    let inside : c.args.slot < length c.self.inside.places.items = (search rules) in
    let is : get_or c.self.inside.places.items c.args.slot (places.Fresh ask) ≡ places.Fresh ask = (search rules) in
    let here : slice_get c.self.inside.places.items c.args.slot ≡ Some (places.Fresh ask) = slice_get-get_or c.self.inside.places.items c.args.slot (places.Fresh ask) inside ∙ ap (λ (p : Place). Some p) is in
    let same : stands.before ≡ hears.after = get_same l.owner.passes c.args.slot hears.after stands.before (subst (λ (ts : List PassToken). slice_get ts c.args.slot ≡ Some stands.before) hears.now stands.was) in
    let arrives : IsArrivalOfRenewed c.args.slot l (answer_of a) event l' = is_arrival_of_renewed c.args.slot l event l' a (record {
      before = hears.before;
      after = stands.after;
      place = places.Fresh ask;
      place' = c.place.result;
      was = hears.was;
      was_at = here;
      now = c.dispatch.ensures.stay.passes ∙ (stands.now ∙ (ap (λ (ts : List PassToken). set ts c.args.slot stands.after) hears.now ∙ set_again l.owner.passes c.args.slot hears.after stands.after));
      now_at = refl;
      does = record {
        ask = ask;
        was_fresh = refl;
        number = stands.does.number ∙ (ap (λ (t : PassToken). t.pass.number) same ∙ hears.does.number);
        admitted = a;
        answer_is = refl;
        place_is = c.place.ensures;
        is = stands.does.is;
        tried = stands.does.tried;
        history = λ v kept. logs_in v stands.after.pass.number hand ask.cost a b1 b2 c.dispatch.result c.dispatch.ensures.served event (stands.does.history v (c.hear.ensures.history v kept));
      };
    }) in
    subst (λ (x : LocalView). IsArrivalOfRenewed c.args.slot x c.answer.result event l') c.self.view_is
    (subst (λ (y : Answer). IsArrivalOfRenewed c.args.slot l y event l') (sym c.answer.ensures) arrives)
