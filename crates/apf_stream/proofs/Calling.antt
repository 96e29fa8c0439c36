-- The call that is due for what was just carried out.
use Rattle.std.proofs.Common.{◌≡◌, ◌≢◌, ℕ, ◌<◌, ◌≤◌, List, [], length, set, Option, Some, refl, sym, ap, ◌∙◌, subst, arith}
use Rattle.std.specs.Prelude.{slice_get}
use Rattle.std.proofs.lemmas.List.{length-set}
use Rattle.std.proofs.lemmas.Option.{slice_get_within}
use Rattle.apf_times.specs.declared.course.Times.{Times}
use Rattle.apf_times.specs.declared.due.Due.{Due}
use Rattle.apf_local.specs.declared.answer.Place.{Place}
use Rattle.apf_local.specs.declared.answer.Place.TheVariants as places
use Rattle.apf_calendar.specs.declared.calendar.Carried.{Carried}
use Rattle.apf_calendar.specs.declared.guest.Guest.{Guest}
use Rattle.apf_calendar.specs.declared.guest.Stay.{Stay}
use Rattle.apf_calendar.specs.declared.guest.Stay.TheVariants.{Waits, Impatient, Holds}
use Rattle.apf_calendar.specs.Guests.{SlotsView, CarriesOut, due_in, then_in, then_of}
use Rattle.apf_stream.specs.declared.deed.Deed.TheVariants.{Finish, GiveUp}
use Rattle.apf_stream.specs.declared.ended.Ended.{Ended}
use Rattle.apf_stream.specs.Deeds.{with_slots}
use Rattle.apf_stream.specs.Runs.{CallsAs, HasRun}
use Rattle.apf_stream.specs.States.{State}
use Rattle.apf_stream.specs.Ties.{AreTied, AreTiedBut, IsCallDue, IsNoted, IsWhere}
use Rattle.apf_stream.proofs.Chains.{ran_one}
use Rattle.apf_stream.proofs.Places.{get_set, get_other, none_is, some_is}
use Rattle.apf_stream.proofs.Readings.{some_at}
use Rattle.apf_stream.proofs.Tying.{still_at}

-- where the level says that a guest is
waits_there : (p : Place) (g : Guest) → IsWhere p (Some g) → g.stay ≡ Waits → p ≡ places.Waits
waits_there places.Free g at is = absurd at
waits_there (places.Fresh ask) g at is = absurd at
waits_there places.Waits g at is = refl
waits_there places.Runs g at is = let e = at.1 in absurd (cc)

runs_there : (p : Place) (g : Guest) (since : ℕ) → IsWhere p (Some g) → g.stay ≡ Holds since → p ≡ places.Runs
runs_there places.Free g since at is = absurd at
runs_there (places.Fresh ask) g since at is = absurd at
runs_there places.Waits g since at is = absurd (cc)
runs_there places.Runs g since at is = refl

nothing_due : (patience line : ℕ) (times : Times) (stay : Stay) (d : Due) → due_in patience line times stay ≡ Some d → stay ≢ Impatient
nothing_due patience line times stay d is e = none_is (ap (due_in patience line times) (sym e) ∙ is)

module _ (s : State) (by : ℕ) (c : Carried) (v' : SlotsView) (tied : AreTied s) (carries : CarriesOut s.slots by c v') where
  here : slice_get s.slots.slots c.slot ≡ Some (Some c.guest)
  here = carries.next.first.here

  low : c.slot < length s.slots.slots
  low = slice_get_within s.slots.slots c.slot (Some c.guest) here

  slots_are : v'.slots ≡ set s.slots.slots c.slot (then_of c.guest)
  slots_are = ap (λ (v : SlotsView). v.slots) carries.then

  there : slice_get v'.slots c.slot ≡ Some (then_of c.guest)
  there = ap (λ (l : List (Option Guest)). slice_get l c.slot) slots_are ∙ get_set s.slots.slots c.slot (then_of c.guest) low

  but : AreTiedBut (with_slots s v') c.slot
  but =
      let n = length-set s.slots.slots c.slot (then_of c.guest) in
      let e = ap (λ (l : List (Option Guest)). length l) slots_are in
      let p = tied.count.places in
      let h = tied.count.holds in
      let l = low in
      record {
        count = record { places = omega arith; holds = omega arith };
        inside = omega arith;
        each = λ i ne. still_at s (with_slots s v') i refl (ap (λ (l : List (Option Guest)). slice_get l i) slots_are ∙ get_other s.slots.slots c.slot i (then_of c.guest) ne) refl (tied.each i);
      }

  place : (p : Place) × (slice_get s.level.places c.slot ≡ Some p)
  place = some_at s.level.places c.slot (let a = tied.count.places in let b = low in omega arith)

  is_where : IsWhere place.0 (Some c.guest)
  is_where = (tied.each c.slot).at place.0 (Some c.guest) place.1 here

  -- the call is due by where it was
  pub call_due : (stay : Stay) → c.guest.stay ≡ stay → IsCallDue (with_slots s v') c.slot c.guest stay
  call_due Waits e =
      let g : Guest = record { line = c.guest.line; times = c.guest.times; stay = Impatient } in
      let now : slice_get v'.slots c.slot ≡ Some (Some g) = there ∙ ap (λ (x : Stay). Some (then_in c.guest.line c.guest.times x)) e in
      record {
        but = but;
        place = place.1 ∙ ap (λ (p : Place). Some p) (waits_there place.0 c.guest is_where e);
        guest = record { guest = g; here = now; waits = tt };
        noted = λ x h is noted.
            let n = (tied.each c.slot).noted c.guest h here noted in
            subst (IsNoted h) (some_is (some_is (sym now ∙ is))) (record { line = n.line; times = n.times });
      }
  call_due Impatient e = absurd (nothing_due s.slots.patience c.guest.line c.guest.times c.guest.stay carries.next.due carries.next.first.is_due e)
  call_due (Holds since) e = record {
    but = but;
    place = place.1 ∙ ap (λ (p : Place). Some p) (runs_there place.0 c.guest since is_where e);
    left = there ∙ ap (λ (x : Stay). Some (then_in c.guest.line c.guest.times x)) e;
    noted = λ h noted. (tied.each c.slot).noted c.guest h here noted;
  }

  in_turn : s.slots.time ≤ v'.time → s.slots.time ≤ c.at
  in_turn forward = let e = ap (λ (v : SlotsView). v.time) carries.then in omega arith

  -- and with it one deed is done
  pub called_run : s.slots.time ≤ v'.time → (s' : State) (before after : List Ended) (stay : Stay) → c.guest.stay ≡ stay → CallsAs c stay (with_slots s v') before s' after → HasRun [] s before s' after
  called_run forward s' before after Waits e calls =
      ran_one (GiveUp c) s s' before calls.told after (record { by = by; between = v'; carries = carries; forward = in_turn forward; waited = e; cancels = calls.cancels }) calls.told_are
  called_run forward s' before after Impatient e calls = absurd calls
  called_run forward s' before after (Holds since) e calls =
      ran_one (Finish c) s s' before calls.told after (record { by = by; between = v'; carries = carries; forward = in_turn forward; since = since; held = e; returns = calls.returns }) calls.told_are
