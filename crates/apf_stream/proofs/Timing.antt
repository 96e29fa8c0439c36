-- Time goes on from deed to deed, and who is told is over by then.
use Rattle.std.proofs.Common.{◌≡◌, ℕ, ◌≤◌, List, [], ◌∷◌, ◌++◌, Some, sym, ap, ◌∙◌, subst, arith}
use Rattle.std.specs.List.{AllByRecursion}
use Rattle.apf_words.specs.declared.decision.Decision.{Decision}
use Rattle.apf_words.specs.declared.decision.Decision.TheVariants.{Cancelled}
use Rattle.apf_times.specs.declared.course.Times.{Times}
use Rattle.apf_times.specs.declared.due.Due.{Due}
use Rattle.apf_local.specs.declared.answer.Answer.{Answer}
use Rattle.apf_local.specs.declared.answer.Answer.TheVariants as answers
use Rattle.apf_local.specs.declared.answer.Place.{Place}
use Rattle.apf_local.specs.declared.answer.Place.TheVariants as places
use Rattle.apf_calendar.specs.declared.calendar.Carried.{Carried}
use Rattle.apf_calendar.specs.declared.guest.Stay.{Stay}
use Rattle.apf_calendar.specs.declared.guest.Stay.TheVariants.{Holds}
use Rattle.apf_calendar.specs.Guests.{SlotsView, Starts, due_in}
use Rattle.apf_stream.specs.declared.asked.Hold.{Hold}
use Rattle.apf_stream.specs.declared.deed.Deed.{Deed}
use Rattle.apf_stream.specs.declared.deed.Deed.TheVariants.{Arrive, Finish, GiveUp, Read, SetLimit}
use Rattle.apf_stream.specs.declared.ended.Ended.{Ended}
use Rattle.apf_stream.specs.Deeds.{Finishes, FollowsAnswer, FollowsPlace, GivesUp, IsDeed, unserved}
use Rattle.apf_stream.specs.Runs.{IsOverBy, IsRun}
use Rattle.apf_stream.specs.States.{State}
use Rattle.apf_stream.proofs.Places.{some_is}

-- the time after something, and that who is told was over by then
record IsInTime (from : ℕ) (v : SlotsView) (told : List Ended) : Type 0 where
  forward : from ≤ v.time
  over : AllByRecursion (IsOverBy v.time) told

none_told : (time : ℕ) (told : List Ended) → told ≡ [] → AllByRecursion (IsOverBy time) told
none_told time told e = subst (λ (l : List Ended). AllByRecursion (IsOverBy time) l) (sym e) tt

unserved_told : (h : Hold) (d : Decision) (at time : ℕ) (told : List Ended) → told ≡ unserved h d at ∷ [] → at ≤ time → AllByRecursion (IsOverBy time) told
unserved_told h d at time told e low = subst (λ (l : List Ended). AllByRecursion (IsOverBy time) l) (sym e) (record { over = low; since = tt }, tt)

time_of : (v v' : SlotsView) → v' ≡ v → v'.time ≡ v.time
time_of v v' e = ap (λ (x : SlotsView). x.time) e

started_time : (v v' : SlotsView) (slot : ℕ) → Starts v slot v' → v'.time ≡ v.time
started_time v v' slot starts = ap (λ (x : SlotsView). x.time) starts.then

by_place : (place : Place) (slot : ℕ) (h : Hold) (v v' : SlotsView) (told : List Ended) → FollowsPlace place slot h v v' told → IsInTime v.time v' told
by_place places.Runs slot h v v' told f = let e = started_time v v' slot f.0 in record { forward = omega arith; over = none_told v'.time told f.1 }
by_place places.Waits slot h v v' told f = let e = time_of v v' f.0 in record { forward = omega arith; over = none_told v'.time told f.1 }
by_place places.Free slot h v v' told f = let e = ap (λ (x : SlotsView). x.time) f.0 in record { forward = omega arith; over = unserved_told h Cancelled v.time v'.time told f.1 (omega arith) }
by_place (places.Fresh ask) slot h v v' told f = absurd f

by_answer : (answer : Answer) (slot : ℕ) (h : Hold) (v v' : SlotsView) (told : List Ended) → FollowsAnswer answer slot h v v' told → IsInTime v.time v' told
by_answer answers.Run slot h v v' told f = let e = started_time v v' slot f.0 in record { forward = omega arith; over = none_told v'.time told f.1 }
by_answer answers.Waits slot h v v' told f = let e = time_of v v' f.0 in record { forward = omega arith; over = none_told v'.time told f.1 }
by_answer (answers.Over decision) slot h v v' told f = let e = ap (λ (x : SlotsView). x.time) f.0 in record { forward = omega arith; over = unserved_told h decision v.time v'.time told f.1 (omega arith) }
by_answer answers.Busy slot h v v' told f = absurd f
by_answer answers.Released slot h v v' told f = absurd f
by_answer answers.Spent slot h v v' told f = absurd f
by_answer answers.Wrong slot h v v' told f = absurd f

-- a request that has its seats finishes no earlier than it was given them
after_start : (patience line : ℕ) (times : Times) (stay : Stay) (since : ℕ) (d : Due) → stay ≡ Holds since → due_in patience line times stay ≡ Some d → since ≤ d.at
after_start patience line times stay since d held is =
    let e = ap (λ (x : Due). x.at) (some_is (ap (due_in patience line times) (sym held) ∙ is)) in omega arith

finish_over : (c : Carried) (s s' : State) (told : List Ended) → Finishes c s s' told → IsInTime s.slots.time s'.slots told
finish_over c s s' told f =
    let e = time_of f.between s'.slots f.returns.slots in
    let b = ap (λ (x : SlotsView). x.time) f.carries.then in
    let w = f.forward in
    let n = f.carries.next in
    let a = after_start s.slots.patience c.guest.line c.guest.times c.guest.stay f.since n.due f.held n.first.is_due in
    let at = n.at in
    record {
      forward = omega arith;
      over = subst (λ (l : List Ended). AllByRecursion (IsOverBy s'.slots.time) l) (sym f.returns.told_is) (record { over = (omega arith); since = (omega arith) }, tt);
    }

gives_up_over : (c : Carried) (s s' : State) (told : List Ended) → GivesUp c s s' told → IsInTime s.slots.time s'.slots told
gives_up_over c s s' told f =
    let b = ap (λ (x : SlotsView). x.time) f.carries.then in
    let w = f.forward in
    let r = f.cancels.read in
    let i = by_place f.cancels.place c.slot r.hold f.between s'.slots told r.follows in
    let t = i.forward in
    record { forward = omega arith; over = i.over }

deed_over : (d : Deed) (s s' : State) (told : List Ended) → IsDeed d s s' told → IsInTime s.slots.time s'.slots told
deed_over (Arrive slot a) s s' told r =
    let i = by_answer r.answer slot r.hold _ s'.slots told r.follows in
    let t = i.forward in
    let w = r.forward in
    record { forward = omega arith; over = i.over }
deed_over (Finish c) s s' told f = finish_over c s s' told f
deed_over (GiveUp c) s s' told f = gives_up_over c s s' told f
deed_over (Read slot) s s' told (place, r) = by_place place slot r.hold s.slots s'.slots told r.follows
deed_over (SetLimit n) s s' told r =
    let e = ap (λ (x : SlotsView). x.time) r.slots in
    let w = r.forward in
    record { forward = omega arith; over = none_told s'.slots.time told r.nobody }

later : (a b : ℕ) (told : List Ended) → a ≤ b → AllByRecursion (IsOverBy a) told → AllByRecursion (IsOverBy b) told
later a b [] low all = tt
later a b (e ∷ told) low all = let o = (all.0).over in (record { over = omega arith; since = (all.0).since }, later a b told low all.1)

both : (time : ℕ) (xs ys : List Ended) → AllByRecursion (IsOverBy time) xs → AllByRecursion (IsOverBy time) ys → AllByRecursion (IsOverBy time) (xs ++ ys)
both time [] ys a b = b
both time (x ∷ xs) ys a b = (a.0, both time xs ys a.1 b)

run_over : (ds : List Deed) (s s' : State) (told : List Ended) → IsRun ds s s' told → IsInTime s.slots.time s'.slots told
run_over [] s s' told run = let e = ap (λ (x : State). x.slots.time) run.0 in record { forward = omega arith; over = none_told s'.slots.time told run.1 }
run_over (d ∷ ds) s s' told run =
    let one = deed_over d s run.0 run.1 run.3 in
    let more = run_over ds run.0 s' run.2 run.4 in
    let a = one.forward in
    let b = more.forward in
    record {
      forward = omega arith;
      over = subst (λ (l : List Ended). AllByRecursion (IsOverBy s'.slots.time) l) (sym run.5)
          (both s'.slots.time run.1 run.2 (later run.0.slots.time s'.slots.time run.1 b one.over) more.over);
    }

pub goes_forward : (ds : List Deed) (s s' : State) (told : List Ended) → IsRun ds s s' told → s.slots.time ≤ s'.slots.time
goes_forward ds s s' told run = (run_over ds s s' told run).forward

pub are_over : (ds : List Deed) (s s' : State) (told : List Ended) → IsRun ds s s' told → AllByRecursion (IsOverBy s'.slots.time) told
are_over ds s s' told run = (run_over ds s s' told run).over
