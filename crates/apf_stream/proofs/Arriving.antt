-- A request has arrived in a free slot.
use Rattle.std.proofs.Common.{◌≡◌, ◌≢◌, ℕ, zero, suc, ◌<◌, ◌≤◌, List, [], ◌∷◌, ◌++◌, length, set, Option, Some, None, refl, sym, ap, ◌∙◌, subst, arith}
use Rattle.std.specs.Prelude.{slice_get}
use Rattle.std.proofs.lemmas.Option.{slice_get_within}
use Rattle.apf_words.specs.declared.decision.Decision.{Decision}
use Rattle.apf_flow.specs.Deal.{hand_of}
use Rattle.apf_book.specs.declared.life_event.LifeEvent.{LifeEvent}
use Rattle.apf_charges.specs.Charging.{cost_for}
use Rattle.apf_local.specs.declared.answer.Answer.{Answer}
use Rattle.apf_local.specs.declared.answer.Answer.TheVariants as answers
use Rattle.apf_local.specs.declared.answer.Place.{Place}
use Rattle.apf_local.specs.declared.answer.Place.TheVariants as places
use Rattle.apf_local.specs.Levels.{LocalView, IsArrival, SameLocal}
use Rattle.apf_calendar.specs.declared.guest.Guest.{Guest}
use Rattle.apf_calendar.specs.declared.guest.Stay.TheVariants.{Waits, Holds}
use Rattle.apf_calendar.specs.Guests.{SlotsView, IsFree, NothingBy, Starts, WaitsIn, with_slot}
use Rattle.apf_stream.specs.declared.asked.Asked.{Asked}
use Rattle.apf_stream.specs.declared.asked.Hold.{Hold}
use Rattle.apf_stream.specs.declared.ended.Ended.{Ended}
use Rattle.apf_stream.specs.Deeds.{FollowsAnswer, queue_in}
use Rattle.apf_stream.specs.Runs.{ArrivesAs}
use Rattle.apf_stream.specs.States.{State, ask_of}
use Rattle.apf_stream.specs.Ties.{AreTied, IsNoted, IsWhere}
use Rattle.apf_stream.proofs.Places.{arrival_sets, get_set, none_is, place_by_answer, some_is}
use Rattle.apf_stream.proofs.Readings.{some_at}
use Rattle.apf_stream.proofs.Tying.{but_of, tied_anew}

free_there : (p : Place) → IsWhere p None → p ≡ places.Free
free_there places.Free at = refl
free_there (places.Fresh ask) at = absurd at
free_there places.Waits at = absurd at
free_there places.Runs at = absurd at

set_twice : {A : Type 0} (xs : List A) (i : ℕ) (x y : A) → set (set xs i x) i y ≡ set xs i y
set_twice [] i x y = refl
set_twice (z ∷ zs) zero x y = refl
set_twice (z ∷ zs) (suc i) x y = ap (λ (l : List _). z ∷ l) (set_twice zs i x y)

module _ (s : State) (slot : ℕ) (a : Asked) (tied : AreTied s) (free : IsFree s.slots slot) where
  -- who arrives
  abbrev pub comer : Guest
  comer = record { line = a.line; times = a.times; stay = Waits }

  -- the slots with it
  abbrev pub with_comer : SlotsView
  with_comer = record { time = a.times.arrives_at; patience = s.slots.patience; slots = set s.slots.slots slot (Some comer) }

  pub low : slot < length s.slots.slots
  low = slice_get_within s.slots.slots slot None free

  comer_in : slice_get (set s.slots.slots slot (Some comer)) slot ≡ Some (Some comer)
  comer_in = get_set s.slots.slots slot (Some comer) low

  pub waits_in : (v : SlotsView) → v ≡ with_comer → WaitsIn v slot
  waits_in v e = subst (λ (w : SlotsView). WaitsIn w slot) (sym e) (record { guest = comer; here = comer_in; waits = tt })

  -- its slot is free by the level
  pub place_free : slice_get s.level.places slot ≡ Some places.Free
  place_free =
      let p = some_at s.level.places slot (let b = tied.count.places in let d = low in omega arith) in
      p.1 ∙ ap (λ (q : Place). Some q) (free_there p.0 ((tied.each slot).at p.0 None p.1 free))

  module _ (l' : LocalView) (hold : Hold) (answer : Answer) (event : Option LifeEvent) (asked : hold.asked ≡ a) (call : IsArrival slot (ask_of hold) (hand_of s.level.sizes a.hash) s.level answer event l') where
    -- an answer that says no place is no answer
    pub never : answer ≢ answers.Spent → place_by_answer answer ≡ None → ⊥
    never some none = let p = arrival_sets slot (ask_of hold) (hand_of s.level.sizes a.hash) s.level l' answer event call place_free some in none_is (sym none ∙ p.1)

    now_at : (place : Place) → answer ≢ answers.Spent → place_by_answer answer ≡ Some place → l'.places ≡ set s.level.places slot place
    now_at place some is =
        let p = arrival_sets slot (ask_of hold) (hand_of s.level.sizes a.hash) s.level l' answer event call place_free some in
        p.2 ∙ ap (set s.level.places slot) (some_is (sym p.1 ∙ is))

    noted : (g : Guest) → g.line ≡ a.line → g.times ≡ a.times → IsNoted hold g
    noted g line times = record { line = ap (λ (x : Asked). x.line) asked ∙ sym line; times = ap (λ (x : Asked). x.times) asked ∙ sym times }

    -- the state with these slots
    abbrev pub then_is : SlotsView → State
    then_is v = record { level = l'; slots = v; holds = set s.holds slot hold; charges = s.charges }

    pub tied_waits : answer ≡ answers.Waits → AreTied (then_is with_comer)
    tied_waits is =
        tied_anew s (then_is with_comer) slot (but_of s slot low tied) places.Waits (Some comer)
        (now_at places.Waits (λ e. absurd (cc)) (ap place_by_answer is)) refl hold refl refl
        (λ g e. subst (IsNoted hold) (some_is e) (noted comer refl refl))

    pub tied_over : (decision : Decision) → answer ≡ answers.Over decision → AreTied (then_is (with_slot with_comer slot None))
    tied_over decision is =
        tied_anew s (then_is (with_slot with_comer slot None)) slot (but_of s slot low tied) places.Free None
        (now_at places.Free (λ e. absurd (cc)) (ap place_by_answer is)) (set_twice s.slots.slots slot (Some comer) None) hold refl tt
        (λ g e. absurd (none_is e))

    pub tied_runs : (v : SlotsView) → answer ≡ answers.Run → Starts with_comer slot v → AreTied (then_is v)
    tied_runs v is starts =
        let started : Guest = record { line = starts.guest.line; times = starts.guest.times; stay = Holds a.times.arrives_at } in
        let e : comer ≡ starts.guest = some_is (some_is (sym comer_in ∙ starts.here)) in
        tied_anew s (then_is v) slot (but_of s slot low tied) places.Runs (Some started)
        (now_at places.Runs (λ e. absurd (cc)) (ap place_by_answer is)) (ap (λ (w : SlotsView). w.slots) starts.then ∙ set_twice s.slots.slots slot (Some comer) (Some started)) hold refl
        (a.times.arrives_at, refl)
        (λ g is_it. subst (IsNoted hold) (some_is is_it) (noted started (ap (λ (x : Guest). x.line) (sym e)) (ap (λ (x : Guest). x.times) (sym e))))

    -- it has arrived so
    pub arrived : (v : SlotsView) (told : List Ended) → s.slots.time ≤ a.times.arrives_at → NothingBy s.slots a.times.arrives_at → hold.cost ≡ cost_for s.charges a.hash a.width a.cost → hold.queue ≡ queue_in event
        → SameLocal s.level l' → l'.owner.stations ≡ s.level.owner.stations → FollowsAnswer answer slot hold with_comer v told → (before after : List Ended) → after ≡ before ++ told → ArrivesAs slot a s before (then_is v) after
    arrived v told forward over cost queue same operators follows before after is = record {
      told = told;
      arrives = record {
        free = free;
        forward = forward;
        over = over;
        hold = hold;
        asked = asked;
        cost = cost;
        answer = answer;
        event = event;
        queue = queue;
        call = call;
        same = same;
        operators = operators;
        follows = follows;
        holds = refl;
        charges = refl;
      };
      told_are = is;
    }
