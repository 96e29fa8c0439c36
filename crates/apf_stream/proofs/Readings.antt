-- A request that waited has read its decision.
use Rattle.std.proofs.Common.{◌≡◌, ℕ, zero, suc, ◌<◌, List, [], ◌∷◌, ◌++◌, length, set, Option, Some, None, refl, sym, ap, ◌∙◌, subst, arith}
use Rattle.std.specs.Prelude.{slice_get}
use Rattle.std.proofs.lemmas.List.{append-nil}
use Rattle.apf_local.specs.declared.answer.Place.{Place}
use Rattle.apf_local.specs.declared.answer.Place.TheVariants as places
use Rattle.apf_local.specs.Levels.{LocalView}
use Rattle.apf_local.specs.Tries.{IsReading, SlotsStay}
use Rattle.apf_calendar.specs.declared.guest.Guest.{Guest}
use Rattle.apf_calendar.specs.declared.guest.Stay.TheVariants.{Holds}
use Rattle.apf_calendar.specs.Guests.{SlotsView, IsWaiting, Starts, WaitsIn, with_slot}
use Rattle.apf_stream.specs.declared.asked.Hold.{Hold}
use Rattle.apf_stream.specs.declared.ended.Ended.{Ended}
use Rattle.apf_stream.specs.Deeds.{FollowsPlace, Serves, unserved}
use Rattle.apf_stream.specs.Runs.{ReadsAs}
use Rattle.apf_stream.specs.States.{State}
use Rattle.apf_stream.specs.Ties.{AreTied, IsNoted, IsReturning, IsWhere, WaitsAt}
use Rattle.apf_words.specs.declared.decision.Decision.TheVariants.{Cancelled}
use Rattle.apf_stream.proofs.Places.{reading_sets, some_is}
use Rattle.apf_stream.proofs.Tying.{but_of, tied_set}

pub some_at : {A : Type 0} (xs : List A) (i : ℕ) → i < length xs → (x : A) × (slice_get xs i ≡ Some x)
some_at [] i low = absurd (omega arith)
some_at (x ∷ xs) zero low = (x, refl)
some_at (x ∷ xs) (suc i) low = some_at xs i (omega arith)

set_same : {A : Type 0} (xs : List A) (i : ℕ) (x : A) → slice_get xs i ≡ Some x → xs ≡ set xs i x
set_same [] i x is = refl
set_same (z ∷ zs) zero x is = ap (λ (y : _). y ∷ zs) (some_is is)
set_same (z ∷ zs) (suc i) x is = ap (λ (ys : _). z ∷ ys) (set_same zs i x is)

nothing : {A : Type 0} (b : A) → ◌≡◌ {A = Option A} None (Some b) → ⊥
nothing b is = cc

module _ (s : State) (slot : ℕ) (w : WaitsAt s slot) (l' : LocalView) (place : Place) (reads : IsReading slot s.level place l') (serves : Serves s.level l') where
  -- the state with these slots
  abbrev pub then_is : SlotsView → State
  then_is v = record { level = l'; slots = v; holds = s.holds; charges = s.charges }

  low : slot < length s.holds
  low = let a = w.but.inside in let b = w.but.count.holds in omega arith

  now_at : l'.places ≡ set s.level.places slot place
  now_at = reading_sets slot s.level l' place reads w.place

  read_as : (v : SlotsView) (told before : List Ended) → ((h : Hold) → slice_get s.holds slot ≡ Some h → FollowsPlace place slot h s.slots v told) → ReadsAs slot place s before (then_is v) (before ++ told)
  read_as v told before follows =
      let h = some_at s.holds slot low in
      record {
        told = told;
        reads = record { waited = w.place; reads = reads; serves = serves; hold = h.0; noted = h.1; follows = follows h.0 h.1; holds = refl; charges = refl };
        told_are = refl;
      }

  pub reads_waits : (before : List Ended) → place ≡ places.Waits → ReadsAs slot place s before (then_is s.slots) before
  reads_waits before is =
      subst (λ (after : List Ended). ReadsAs slot place s before (then_is s.slots) after) (append-nil before)
      (read_as s.slots [] before (λ h noted. subst (λ (p : Place). FollowsPlace p slot h s.slots s.slots []) (sym is) (refl, refl)))

  pub reads_runs : (v : SlotsView) (before : List Ended) → place ≡ places.Runs → Starts s.slots slot v → ReadsAs slot place s before (then_is v) before
  reads_runs v before is starts =
      subst (λ (after : List Ended). ReadsAs slot place s before (then_is v) after) (append-nil before)
      (read_as v [] before (λ h noted. subst (λ (p : Place). FollowsPlace p slot h s.slots v []) (sym is) (starts, refl)))

  pub reads_free : (v : SlotsView) (hold : Hold) (before after : List Ended) → place ≡ places.Free → v ≡ with_slot s.slots slot None → slice_get s.holds slot ≡ Some hold
      → after ≡ before ++ (unserved hold Cancelled s.slots.time ∷ []) → ReadsAs slot place s before (then_is v) after
  reads_free v hold before after is leaves noted told =
      subst (λ (x : List Ended). ReadsAs slot place s before (then_is v) x) (sym told)
      (read_as v (unserved hold Cancelled s.slots.time ∷ []) before (λ h there.
      subst (λ (p : Place). FollowsPlace p slot h s.slots v (unserved hold Cancelled s.slots.time ∷ [])) (sym is)
      (leaves, ap (λ (k : Hold). unserved k Cancelled s.slots.time ∷ []) (some_is (sym noted ∙ there)))))

  pub tied_runs : (v : SlotsView) → place ≡ places.Runs → Starts s.slots slot v → AreTied (then_is v)
  tied_runs v is starts =
      let started : Guest = record { line = starts.guest.line; times = starts.guest.times; stay = Holds s.slots.time } in
      tied_set s (then_is v) slot w.but places.Runs (Some started) (now_at ∙ ap (set s.level.places slot) is) (ap (λ (x : SlotsView). x.slots) starts.then) refl (s.slots.time, refl)
      (λ g h e there.
      let n = w.noted starts.guest h starts.here there in
      subst (IsNoted h) (some_is e) (record { line = n.line; times = n.times }))

  pub tied_free : (v : SlotsView) → place ≡ places.Free → v ≡ with_slot s.slots slot None → AreTied (then_is v)
  tied_free v is leaves =
      tied_set s (then_is v) slot w.but places.Free None (now_at ∙ ap (set s.level.places slot) is) (ap (λ (x : SlotsView). x.slots) leaves) refl tt
      (λ g h e there. absurd (nothing g e))

  pub tied_waits : place ≡ places.Waits → AreTied s → AreTied (then_is s.slots)
  tied_waits is tied =
      let g = w.guest.guest in
      tied_set s (then_is s.slots) slot w.but places.Waits (Some g) (now_at ∙ ap (set s.level.places slot) is) (set_same s.slots.slots slot (Some g) w.guest.here) refl
      ((tied.each slot).at places.Waits (Some g) w.place w.guest.here)
      (λ x h e there. subst (IsNoted h) (some_is e) (w.noted g h w.guest.here there))

-- a request that waits in a slot that is as it should be
waits_in : (s : State) (slot : ℕ) (x : Option Guest) → slice_get s.slots.slots slot ≡ Some x → IsWhere places.Waits x → WaitsIn s.slots slot
waits_in s slot None is at = absurd at
waits_in s slot (Some g) is at = record { guest = g; here = is; waits = subst IsWaiting (sym at) tt }

pub waits_of : (s : State) (slot : ℕ) → AreTied s → slot < length s.slots.slots → slice_get s.level.places slot ≡ Some places.Waits → WaitsAt s slot
waits_of s slot tied low waits =
    let x = some_at s.slots.slots slot low in
    record {
      but = but_of s slot low tied;
      place = waits;
      guest = waits_in s slot x.0 x.1 ((tied.each slot).at places.Waits x.0 waits x.1);
      noted = (tied.each slot).noted;
    }

-- it waits still, where no slot of the level changed
pub waits_still : (s : State) (slot : ℕ) (l' : LocalView) → WaitsAt s slot → SlotsStay s.level l' → WaitsAt (record { level = l'; slots = s.slots; holds = s.holds; charges = s.charges }) slot
waits_still s slot l' w stay = record {
  but = record {
    count = record { places = ap (λ (l : List Place). length l) stay.places ∙ w.but.count.places; holds = w.but.count.holds };
    inside = w.but.inside;
    each = λ i ne. record {
      at = λ p x is here. (w.but.each i ne).at p x (ap (λ (l : List Place). slice_get l i) (sym stay.places) ∙ is) here;
      noted = (w.but.each i ne).noted;
    };
  };
  place = ap (λ (l : List Place). slice_get l slot) stay.places ∙ w.place;
  guest = w.guest;
  noted = w.noted;
}

-- a request that gave its seats back
pub returned_tied : (s s' : State) (slot : ℕ) (g : Guest) → IsReturning s slot g → s'.level.places ≡ set s.level.places slot places.Free → s'.slots ≡ s.slots → s'.holds ≡ s.holds → AreTied s'
returned_tied s s' slot g is at slots holds =
    tied_set s s' slot is.but places.Free None at
    (ap (λ (v : SlotsView). v.slots) slots ∙ set_same s.slots.slots slot None is.left) holds tt
    (λ h x e there. absurd (nothing h e))
