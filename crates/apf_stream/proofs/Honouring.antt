-- A request gets its seats within its patience, or none.
use Rattle.std.proofs.Common.{◌≡◌, ◌≢◌, ℕ, ◌+◌, ◌≤◌, ◌<◌, ◌⊎◌, inl, inr, false, List, [], ◌∷◌, ◌++◌, length, set, Option, Some, None, refl, sym, ap, ◌∙◌, subst, arith}
use Rattle.std.specs.Prelude.{◌==◌, slice_get}
use Rattle.std.specs.List.{AllByRecursion}
use Rattle.std.specs.declared.cmp.Ordering.{Ordering}
use Rattle.std.specs.declared.cmp.Ordering.TheVariants.{Less, Equal, Greater}
use Rattle.std.specs.Ordering.{nat_cmp, ordering_then, is_lt}
use Rattle.std.proofs.lemmas.Bool.{cases_eq}
use Rattle.std.proofs.lemmas.Bool.Decides.{nat_tests}
use Rattle.std.proofs.lemmas.Map.Keys.{ge_from_not_lt}
use Rattle.std.proofs.lemmas.Option.{slice_get_within}
use Rattle.apf_words.specs.declared.decision.Decision.{Decision}
use Rattle.apf_words.specs.declared.decision.Decision.TheVariants.{Execute, Cancelled}
use Rattle.apf_flow.specs.Deal.{hand_of}
use Rattle.apf_gate.specs.Tokens.{PassToken}
use Rattle.apf_book.specs.declared.life_event.LifeEvent.{LifeEvent}
use Rattle.apf_times.specs.declared.course.Times.{Times}
use Rattle.apf_times.specs.declared.due.Due.{Due}
use Rattle.apf_times.specs.Dues.{giving_up, is_before}
use Rattle.apf_local.specs.declared.admitting.Admitted.{Admitted}
use Rattle.apf_local.specs.declared.admitting.Admitted.TheVariants as admitted
use Rattle.apf_local.specs.declared.answer.Ask.{Ask}
use Rattle.apf_local.specs.declared.answer.Answer.{Answer}
use Rattle.apf_local.specs.declared.answer.Answer.TheVariants as answers
use Rattle.apf_local.specs.declared.answer.Place.{Place}
use Rattle.apf_local.specs.declared.answer.Place.TheVariants as places
use Rattle.apf_local.specs.Levels.{LocalView, IsAdmitted, IsArrival, answer_of}
use Rattle.apf_calendar.specs.declared.calendar.Carried.{Carried}
use Rattle.apf_calendar.specs.declared.guest.Guest.{Guest}
use Rattle.apf_calendar.specs.declared.guest.Stay.{Stay}
use Rattle.apf_calendar.specs.declared.guest.Stay.TheVariants.{Waits, Impatient, Holds}
use Rattle.apf_calendar.specs.Guests.{CarriesOut, IsIn, IsWaiting, NothingBy, SlotsView, due_in, then_in, then_of, unless_never}
use Rattle.apf_stream.specs.declared.asked.Asked.{Asked}
use Rattle.apf_stream.specs.declared.asked.Hold.{Hold}
use Rattle.apf_stream.specs.declared.deed.Deed.{Deed}
use Rattle.apf_stream.specs.declared.deed.Deed.TheVariants.{Arrive, Finish, GiveUp, Read, SetLimit}
use Rattle.apf_stream.specs.declared.ended.Ended.{Ended}
use Rattle.apf_stream.specs.Deeds.{Arrives, Finishes, FollowsAnswer, FollowsPlace, GivesUp, IsDeed, unserved, served}
use Rattle.apf_stream.specs.Runs.{AreOf, IsHonoured, IsRun, IsWithin}
use Rattle.apf_stream.specs.States.{State, ask_of}
use Rattle.apf_stream.specs.Ties.{AreTied, IsWhere, WaitsAt}
use Rattle.apf_stream.proofs.Places.{get_set, get_other, some_is}
use Rattle.apf_stream.proofs.Readings.{some_at}
use Rattle.apf_stream.proofs.Telling.{deed_tied, read_waits_at, waits_then}

-- who waits has not lost its patience yet, and who has its seats got them within it
abbrev pub IsGoodBy : ℕ → ℕ → Times → Stay → Type 0
IsGoodBy patience time times Waits = IsWithin patience times.arrives_at time
IsGoodBy patience time times Impatient = IsWithin patience times.arrives_at time
IsGoodBy patience time times (Holds since) = IsWithin patience times.arrives_at since

abbrev pub AreGood : SlotsView → Type 0
AreGood v = (i : ℕ) (g : Guest) → IsIn v i g → IsGoodBy v.patience v.time g.times g.stay

-- what stays by a deed
record Honours (patience : ℕ) (v : SlotsView) (told : List Ended) : Type 0 where
  same : v.patience ≡ patience
  good : AreGood v
  honoured : AllByRecursion (IsHonoured patience) told

-- what is due no earlier
then_not_lt : (x y : Ordering) → is_lt (ordering_then x y) ≡ false → is_lt x ≡ false
then_not_lt Less y e = e
then_not_lt Equal y e = refl
then_not_lt Greater y e = refl

not_before : (a b : Due) → is_before a b ≡ false → b.at ≤ a.at
not_before a b e = ge_from_not_lt a.at b.at (then_not_lt (nat_cmp a.at b.at) _ e)

-- the end of a patience that has one is due
due_once : (patience line : ℕ) (times : Times) → patience ≢ 0 → due_in patience line times Waits ≡ Some (giving_up line times.arrives_at patience)
due_once patience line times some =
    let b : (patience == 0) ≡ false = grind (arith, nat_tests) in
    ap (λ t. unless_never t (giving_up line times.arrives_at patience)) b

patience_at : (patience line : ℕ) (times : Times) (d : Due) → due_in patience line times Waits ≡ Some d → patience ≢ 0 → d.at ≡ times.arrives_at + patience
patience_at patience line times d is some = sym (ap (λ (x : Due). x.at) (some_is (sym (due_once patience line times some) ∙ is)))

still_patient : (patience line time : ℕ) (times : Times) → ((e : Due) → due_in patience line times Waits ≡ Some e → time ≤ e.at) → patience ≢ 0 → time ≤ times.arrives_at + patience
still_patient patience line time times ahead some = ahead (giving_up line times.arrives_at patience) (due_once patience line times some)

-- time goes on to what is due first
good_later : (patience line time later : ℕ) (times : Times) (stay : Stay) → stay ≢ Impatient → time ≤ later → ((e : Due) → due_in patience line times stay ≡ Some e → later ≤ e.at) → IsGoodBy patience time times stay → IsGoodBy patience later times stay
good_later patience line time later times Waits isnt on ahead good = let came = good.came in record { came = omega arith; in_time = still_patient patience line later times ahead }
good_later patience line time later times Impatient isnt on ahead good = absurd (isnt refl)
good_later patience line time later times (Holds since) isnt on ahead good = good

-- nobody is there who has lost its patience
where_patient : (p : Place) (g : Guest) → IsWhere p (Some g) → g.stay ≢ Impatient
where_patient places.Free g at lost = absurd at
where_patient (places.Fresh ask) g at lost = absurd at
where_patient places.Waits g at lost = let e : ◌≡◌ {A = Stay} Waits Impatient = sym at ∙ lost in cc
where_patient places.Runs g at lost = let e : ◌≡◌ {A = Stay} (Holds at.0) Impatient = sym at.1 ∙ lost in cc

patient : (s : State) → AreTied s → (i : ℕ) (g : Guest) → IsIn s.slots i g → g.stay ≢ Impatient
patient s tied i g is =
    let low = slice_get_within s.slots.slots i (Some g) is in
    let p = some_at s.level.places i (let n = tied.count.places in omega arith) in
    where_patient p.0 g ((tied.each i).at p.0 (Some g) p.1 is)

-- one slot changes
put_good : (v v' : SlotsView) (slot : ℕ) (x : Option Guest) → v'.slots ≡ set v.slots slot x → slot < length v.slots
    → ((i : ℕ) (g : Guest) → i ≢ slot → IsIn v i g → IsGoodBy v'.patience v'.time g.times g.stay)
    → ((g : Guest) → x ≡ Some g → IsGoodBy v'.patience v'.time g.times g.stay) → AreGood v'
put_good v v' slot x slots low others here i g is =
    elim (cases_eq i slot) [
      | inl e ↦ here g (some_is (sym (get_set v.slots slot x low) ∙ (ap (λ (l : List (Option Guest)). slice_get l slot) (sym slots) ∙ (ap (slice_get v'.slots) (sym e) ∙ is))))
      | inr ne ↦ others i g ne (sym (ap (λ (l : List (Option Guest)). slice_get l i) slots ∙ get_other v.slots slot i x ne) ∙ is)
    ]

-- nobody is in a slot that was left
left_good : (patience time : ℕ) (g : Guest) → ◌≡◌ {A = Option Guest} None (Some g) → IsGoodBy patience time g.times g.stay
left_good patience time g is = absurd (let e = is in cc)

waiting_within : (patience time : ℕ) (times : Times) (stay : Stay) → IsWaiting stay → IsGoodBy patience time times stay → IsWithin patience times.arrives_at time
waiting_within patience time times Waits w good = good
waiting_within patience time times Impatient w good = good
waiting_within patience time times (Holds since) w good = absurd w

nobody_told : (patience : ℕ) (told : List Ended) → told ≡ [] → AllByRecursion (IsHonoured patience) told
nobody_told patience told e = subst (λ (l : List Ended). AllByRecursion (IsHonoured patience) l) (sym e) tt

one_told : (patience : ℕ) (e : Ended) (told : List Ended) → told ≡ e ∷ [] → IsHonoured patience e → AllByRecursion (IsHonoured patience) told
one_told patience e told is has = subst (λ (l : List Ended). AllByRecursion (IsHonoured patience) l) (sym is) (has, tt)

cancelled_unserved : ◌≡◌ {A = Decision} Cancelled Execute → ⊥
cancelled_unserved e = cc

-- a request that waits was given its seats now
start_good : (v : SlotsView) (slot : ℕ) (g h : Guest) → AreGood v → IsIn v slot g → IsWaiting g.stay → h ≡ record { line = g.line; times = g.times; stay = Holds v.time } → AreGood (record { time = v.time; patience = v.patience; slots = set v.slots slot (Some h) })
start_good v slot g h good is waits e =
    put_good v (record { time = v.time; patience = v.patience; slots = set v.slots slot (Some h) }) slot (Some h) refl (slice_get_within v.slots slot (Some g) is)
    (λ i k ne there. good i k there)
    (λ k there. subst (λ (x : Guest). IsGoodBy v.patience v.time x.times x.stay) (sym e ∙ some_is there) (waiting_within v.patience v.time g.times g.stay waits (good slot g is)))

leave_good : (v : SlotsView) (slot : ℕ) (g : Guest) → AreGood v → IsIn v slot g → AreGood (record { time = v.time; patience = v.patience; slots = set v.slots slot None })
leave_good v slot g good is =
    put_good v (record { time = v.time; patience = v.patience; slots = set v.slots slot None }) slot None refl (slice_get_within v.slots slot (Some g) is)
    (λ i k ne there. good i k there)
    (λ k there. left_good v.patience v.time k there)

-- a request that waited is where it read that it is
by_place : (patience : ℕ) (s : State) (v' : SlotsView) (slot : ℕ) (h : Hold) (told : List Ended) → s.slots.patience ≡ patience → AreGood s.slots → WaitsAt s slot → slice_get s.holds slot ≡ Some h
    → (place : Place) → FollowsPlace place slot h s.slots v' told → Honours patience v' told
by_place patience s v' slot h told same good w noted places.Runs f = record {
  same = ap (λ (v : SlotsView). v.patience) f.0.then ∙ same;
  good = subst AreGood (sym f.0.then) (start_good s.slots slot f.0.guest _ good f.0.here f.0.waits refl);
  honoured = nobody_told patience told f.1;
}
by_place patience s v' slot h told same good w noted places.Waits f = record {
  same = ap (λ (v : SlotsView). v.patience) f.0 ∙ same;
  good = subst AreGood (sym f.0) good;
  honoured = nobody_told patience told f.1;
}
by_place patience s v' slot h told same good w noted places.Free f =
    let g = w.guest.guest in
    let n = w.noted g h w.guest.here noted in
    let within = waiting_within s.slots.patience s.slots.time g.times g.stay w.guest.waits (good slot g w.guest.here) in
    record {
      same = ap (λ (v : SlotsView). v.patience) f.0 ∙ same;
      good = subst AreGood (sym f.0) (leave_good s.slots slot g good w.guest.here);
      honoured = one_told patience (unserved h Cancelled s.slots.time) told f.1
          (cancelled_unserved, inl refl, subst (λ (t : Times). IsWithin patience t.arrives_at s.slots.time) (sym n.times) (subst (λ (p : ℕ). IsWithin p g.times.arrives_at s.slots.time) same within));
    }
by_place patience s v' slot h told same good w noted (places.Fresh ask) f = absurd f

-- a request whose arrival is answered as over is not executed
not_executed : (d : Decision) (a : Admitted) (token : PassToken) → answers.Over d ≡ answer_of a → IsAdmitted a token → d ≢ Execute
not_executed d admitted.Run token is at = absurd (let e : ◌≡◌ {A = Answer} (answers.Over d) answers.Run = is in cc)
not_executed d (admitted.Over d') token is at = λ e. let same : ◌≡◌ {A = Answer} (answers.Over d) (answers.Over d') = is in at.2 (let z : d ≡ d' = cc in sym z ∙ e)
not_executed d admitted.Waits token is at = absurd (let e : ◌≡◌ {A = Answer} (answers.Over d) answers.Waits = is in cc)

over_by : (slot : ℕ) (ask : Ask) (hand : List ℕ) (l l' : LocalView) (d : Decision) (event : Option LifeEvent) → IsArrival slot ask hand l (answers.Over d) event l' → d ≢ Execute
over_by slot ask hand l l' d event m = not_executed d m.does.admitted m.after m.does.answer_is m.does.is

module _ (patience : ℕ) (slot : ℕ) (a : Asked) (s s' : State) (told : List Ended) (r : Arrives slot a s s' told) (tied : AreTied s) (same : s.slots.patience ≡ patience) (good : AreGood s.slots) where
  abbrev pub comer : Guest
  comer = record { line = a.line; times = a.times; stay = Waits }

  abbrev pub came : SlotsView
  came = record { time = a.times.arrives_at; patience = s.slots.patience; slots = set s.slots.slots slot (Some comer) }

  low : slot < length s.slots.slots
  low = slice_get_within s.slots.slots slot None r.free

  comer_in : IsIn came slot comer
  comer_in = get_set s.slots.slots slot (Some comer) low

  within : IsWithin s.slots.patience a.times.arrives_at a.times.arrives_at
  within = record { came = omega arith; in_time = λ some. omega arith }

  came_good : AreGood came
  came_good =
      put_good s.slots came slot (Some comer) refl low
      (λ i g ne is. good_later s.slots.patience g.line s.slots.time a.times.arrives_at g.times g.stay (patient s tied i g is) r.forward (λ e due. let x = r.over i g e is due in omega arith) (good i g is))
      (λ g is. subst (λ (x : Guest). IsGoodBy s.slots.patience a.times.arrives_at x.times x.stay) (some_is is) within)

  by_answer : (answer : Answer) → r.answer ≡ answer → FollowsAnswer answer slot r.hold came s'.slots told → Honours patience s'.slots told
  by_answer answers.Run is f = record {
    same = ap (λ (v : SlotsView). v.patience) f.0.then ∙ same;
    good = subst AreGood (sym f.0.then) (start_good came slot f.0.guest _ came_good f.0.here f.0.waits refl);
    honoured = nobody_told patience told f.1;
  }
  by_answer answers.Waits is f = record {
    same = ap (λ (v : SlotsView). v.patience) f.0 ∙ same;
    good = subst AreGood (sym f.0) came_good;
    honoured = nobody_told patience told f.1;
  }
  by_answer (answers.Over decision) is f = record {
    same = ap (λ (v : SlotsView). v.patience) f.0 ∙ same;
    good = subst AreGood (sym f.0) (leave_good came slot comer came_good comer_in);
    honoured = one_told patience (unserved r.hold decision a.times.arrives_at) told f.1
        (subst (λ (x : Asked). (decision ≢ Execute) × ((decision ≡ Cancelled) ⊎ (a.times.arrives_at ≡ x.times.arrives_at)) × IsWithin patience x.times.arrives_at a.times.arrives_at) (sym r.asked)
        (over_by slot (ask_of r.hold) (hand_of s.level.sizes a.hash) s.level s'.level decision r.event (subst (λ (x : Answer). IsArrival slot (ask_of r.hold) (hand_of s.level.sizes a.hash) s.level x r.event s'.level) is r.call), inr refl, subst (λ (p : ℕ). IsWithin p a.times.arrives_at a.times.arrives_at) same within));
  }
  by_answer answers.Busy is f = absurd f
  by_answer answers.Released is f = absurd f
  by_answer answers.Spent is f = absurd f
  by_answer answers.Wrong is f = absurd f

-- what was due first is carried out, and the others are due no earlier
module _ (s : State) (by : ℕ) (c : Carried) (v : SlotsView) (carries : CarriesOut s.slots by c v) (forward : s.slots.time ≤ c.at) (tied : AreTied s) (good : AreGood s.slots) where
  others_good : (i : ℕ) (g : Guest) → i ≢ c.slot → IsIn s.slots i g → IsGoodBy s.slots.patience c.at g.times g.stay
  others_good i g ne is =
      let n = carries.next in
      good_later s.slots.patience g.line s.slots.time c.at g.times g.stay (patient s tied i g is) forward
      (λ e due. let x = not_before e n.due (n.first.first i g e is due) in let y = n.at in omega arith) (good i g is)

  carried_good : (x : Option Guest) → then_of c.guest ≡ x → ((g : Guest) → x ≡ Some g → IsGoodBy s.slots.patience c.at g.times g.stay) → AreGood v
  carried_good x is here =
      subst AreGood (sym carries.then)
      (put_good s.slots (record { time = c.at; patience = s.slots.patience; slots = set s.slots.slots c.slot (then_of c.guest) }) c.slot (then_of c.guest) refl
      (slice_get_within s.slots.slots c.slot (Some c.guest) carries.next.first.here) others_good (λ g there. here g (sym is ∙ there)))

-- it is over once it has run
finish_at : (patience line : ℕ) (times : Times) (stay : Stay) (since : ℕ) (d : Due) → stay ≡ Holds since → due_in patience line times stay ≡ Some d → d.at ≡ since + times.runs_for
finish_at patience line times stay since d held is = sym (ap (λ (x : Due). x.at) (some_is (ap (due_in patience line times) (sym held) ∙ is)))

finish_honours : (patience : ℕ) (c : Carried) (s s' : State) (told : List Ended) → Finishes c s s' told → AreTied s → s.slots.patience ≡ patience → AreGood s.slots → Honours patience s'.slots told
finish_honours patience c s s' told f tied same good =
    let r = f.returns in
    let n = f.carries.next in
    let noted = (tied.each c.slot).noted c.guest r.hold n.first.here r.noted in
    let within : IsWithin s.slots.patience c.guest.times.arrives_at f.since = subst (λ (x : Stay). IsGoodBy s.slots.patience s.slots.time c.guest.times x) f.held (good c.slot c.guest n.first.here) in
    let at : c.at ≡ f.since + c.guest.times.runs_for = n.at ∙ finish_at s.slots.patience c.guest.line c.guest.times c.guest.stay f.since n.due f.held n.first.is_due in
    record {
      same = ap (λ (v : SlotsView). v.patience) r.slots ∙ (ap (λ (v : SlotsView). v.patience) f.carries.then ∙ same);
      good = subst AreGood (sym r.slots) (carried_good s f.by c f.between f.carries f.forward tied good None (ap (then_in c.guest.line c.guest.times) f.held) (λ g is. left_good s.slots.patience c.at g is));
      honoured = one_told patience (served r.hold f.since c.at) told r.told_is
          (subst (λ (t : Times). (Execute ≡ Execute) × (c.at ≡ f.since + t.runs_for) × IsWithin patience t.arrives_at f.since) (sym noted.times)
          (refl, at, subst (λ (p : ℕ). IsWithin p c.guest.times.arrives_at f.since) same within));
    }

gives_up_honours : (patience : ℕ) (c : Carried) (s s' : State) (told : List Ended) → GivesUp c s s' told → AreTied s → s.slots.patience ≡ patience → AreGood s.slots → Honours patience s'.slots told
gives_up_honours patience c s s' told f tied same good =
    let n = f.carries.next in
    let impatient : Guest = record { line = c.guest.line; times = c.guest.times; stay = Impatient } in
    let between : State = record { level = f.cancels.cancelled; slots = f.between; holds = s.holds; charges = s.charges } in
    let was : IsWithin s.slots.patience c.guest.times.arrives_at s.slots.time = subst (λ (x : Stay). IsGoodBy s.slots.patience s.slots.time c.guest.times x) f.waited (good c.slot c.guest n.first.here) in
    let due : due_in s.slots.patience c.guest.line c.guest.times Waits ≡ Some n.due = ap (due_in s.slots.patience c.guest.line c.guest.times) (sym f.waited) ∙ n.first.is_due in
    let within : IsWithin s.slots.patience c.guest.times.arrives_at c.at =
    record {
      came = let a = was.came in let b = f.forward in omega arith;
      in_time = λ some. let a = patience_at s.slots.patience c.guest.line c.guest.times n.due due some in let b = n.at in omega arith;
    } in
    let now : AreGood f.between =
    carried_good s f.by c f.between f.carries f.forward tied good (Some impatient) (ap (then_in c.guest.line c.guest.times) f.waited)
    (λ g is. subst (λ (x : Guest). IsGoodBy s.slots.patience c.at x.times x.stay) (some_is is) within) in
    let r = f.cancels.read in
    by_place patience between s'.slots c.slot r.hold told (ap (λ (v : SlotsView). v.patience) f.carries.then ∙ same) now (waits_then c s s' told f tied) r.noted f.cancels.place r.follows

-- time goes on to when the limit is set
later_good : (s : State) (at : ℕ) → s.slots.time ≤ at → NothingBy s.slots at → AreTied s → AreGood s.slots → AreGood (record { time = at; patience = s.slots.patience; slots = s.slots.slots })
later_good s at forward over tied good i g is =
    good_later s.slots.patience g.line s.slots.time at g.times g.stay (patient s tied i g is) forward (λ e due. let x = over i g e is due in omega arith) (good i g is)

deed_honours : (patience : ℕ) (d : Deed) (s s' : State) (told : List Ended) → IsDeed d s s' told → AreTied s → s.slots.patience ≡ patience → AreGood s.slots → Honours patience s'.slots told
deed_honours patience (Arrive slot a) s s' told r tied same good = by_answer patience slot a s s' told r tied same good r.answer refl r.follows
deed_honours patience (Finish c) s s' told f tied same good = finish_honours patience c s s' told f tied same good
deed_honours patience (GiveUp c) s s' told f tied same good = gives_up_honours patience c s s' told f tied same good
deed_honours patience (Read slot) s s' told (place, r) tied same good = by_place patience s s'.slots slot r.hold told same good (read_waits_at slot s s' told place r tied) r.noted place r.follows
deed_honours patience (SetLimit n) s s' told r tied same good = record {
  same = ap (λ (v : SlotsView). v.patience) r.slots ∙ same;
  good = subst AreGood (sym r.slots) (later_good s n.at r.forward r.over tied good);
  honoured = nobody_told patience told r.nobody;
}

both : (patience : ℕ) (xs ys : List Ended) → AllByRecursion (IsHonoured patience) xs → AllByRecursion (IsHonoured patience) ys → AllByRecursion (IsHonoured patience) (xs ++ ys)
both patience [] ys a b = b
both patience (x ∷ xs) ys a b = (a.0, both patience xs ys a.1 b)

run_honours : (patience : ℕ) (ds : List Deed) (s s' : State) (told : List Ended) → IsRun ds s s' told → AreTied s → s.slots.patience ≡ patience → AreGood s.slots → AllByRecursion (IsHonoured patience) told
run_honours patience [] s s' told run tied same good = nobody_told patience told run.1
run_honours patience (d ∷ ds) s s' told run tied same good =
    let one = deed_honours patience d s run.0 run.1 run.3 tied same good in
    let more = run_honours patience ds run.0 s' run.2 run.4 (deed_tied d s run.0 run.1 run.3 tied) one.same one.good in
    subst (λ (l : List Ended). AllByRecursion (IsHonoured patience) l) (sym run.5) (both patience run.1 run.2 one.honoured more)

-- where nobody came before, nobody is there
nobody_there : (s : State) → AreTied s → AreOf [] s → AreGood s.slots
nobody_there s tied none i g is =
    let low = slice_get_within s.slots.slots i (Some g) is in
    let h = some_at s.holds i (let n = tied.count.holds in omega arith) in
    absurd (let here = none i g h.0 is h.1 in omega arith)

pub are_honoured : (ds : List Deed) (s s' : State) (told : List Ended) → IsRun ds s s' told → AreTied s → AreOf [] s → AllByRecursion (IsHonoured s.slots.patience) told
are_honoured ds s s' told run tied none = run_honours s.slots.patience ds s s' told run tied refl (nobody_there s tied none)
