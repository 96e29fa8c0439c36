-- Who is there, and who is told, is one of those that came.
use Rattle.std.proofs.Common.{◌≡◌, ◌≢◌, ℕ, ◌<◌, inl, inr, List, [], ◌∷◌, ◌++◌, length, set, Option, Some, None, Contains, refl, sym, ap, ◌∙◌, subst, append_assoc, arith}
use Rattle.std.specs.Prelude.{slice_get}
use Rattle.std.specs.List.{AllByRecursion}
use Rattle.std.proofs.lemmas.Bool.{cases_eq}
use Rattle.std.proofs.lemmas.Option.{slice_get_within}
use Rattle.std.proofs.lemmas.List.Elements.{Contains-append_left, Contains-append_right}
use Rattle.apf_words.specs.declared.decision.Decision.TheVariants.{Cancelled}
use Rattle.apf_local.specs.declared.answer.Answer.{Answer}
use Rattle.apf_local.specs.declared.answer.Answer.TheVariants as answers
use Rattle.apf_local.specs.declared.answer.Place.{Place}
use Rattle.apf_local.specs.declared.answer.Place.TheVariants as places
use Rattle.apf_calendar.specs.declared.calendar.Carried.{Carried}
use Rattle.apf_calendar.specs.declared.guest.Guest.{Guest}
use Rattle.apf_calendar.specs.declared.guest.Stay.TheVariants.{Waits}
use Rattle.apf_calendar.specs.Guests.{SlotsView, IsIn, then_of}
use Rattle.apf_stream.specs.declared.asked.Asked.{Asked}
use Rattle.apf_stream.specs.declared.asked.Hold.{Hold}
use Rattle.apf_stream.specs.declared.deed.Deed.{Deed}
use Rattle.apf_stream.specs.declared.deed.Deed.TheVariants.{Arrive, Finish, GiveUp, Read, SetLimit}
use Rattle.apf_stream.specs.declared.ended.Ended.{Ended}
use Rattle.apf_stream.specs.Deeds.{Arrives, Finishes, FollowsAnswer, FollowsPlace, GivesUp, IsDeed, unserved, served}
use Rattle.apf_stream.specs.Runs.{AreOf, IsRun, arrivals}
use Rattle.apf_stream.specs.States.{State}
use Rattle.apf_stream.specs.Ties.{AreTied, WaitsAt}
use Rattle.apf_stream.proofs.Chains.{came_then}
use Rattle.apf_stream.proofs.Places.{get_set, get_other, some_is}
use Rattle.apf_stream.proofs.Telling.{deed_tied, read_waits_at, waits_then}

-- each of these that are told was asked by one that came
AreAsked : List Asked → List Ended → Type 0
AreAsked came told = AllByRecursion (λ e. Contains came e.hold.asked) told

-- what stays by a deed
record Come (came : List Asked) (s : State) (told : List Ended) : Type 0 where
  there : AreOf came s
  asked : AreAsked came told

none_asked : (came : List Asked) (told : List Ended) → told ≡ [] → AreAsked came told
unfolding AreAsked
none_asked came told e = subst (λ (l : List Ended). AllByRecursion (λ x. Contains came x.hold.asked) l) (sym e) tt

one_asked : (came : List Asked) (e : Ended) (told : List Ended) → told ≡ e ∷ [] → Contains came e.hold.asked → AreAsked came told
unfolding AreAsked
one_asked came e told is has = subst (λ (l : List Ended). AllByRecursion (λ x. Contains came x.hold.asked) l) (sym is) (has, tt)

-- the slot of who is there changes, and what is noted stays
put_there : (came : List Asked) (s s' : State) (slot : ℕ) (x : Option Guest) (g : Guest) → AreOf came s → IsIn s.slots slot g → s'.slots.slots ≡ set s.slots.slots slot x → s'.holds ≡ s.holds → AreOf came s'
put_there came s s' slot x g all here slots holds i h hold is there =
    let noted : slice_get s.holds i ≡ Some hold = ap (λ (l : List Hold). slice_get l i) (sym holds) ∙ there in
    elim (cases_eq i slot) [
      | inl e ↦ all slot g hold here (ap (slice_get s.holds) (sym e) ∙ noted)
      | inr ne ↦ all i h hold (sym (ap (λ (l : List (Option Guest)). slice_get l i) slots ∙ get_other s.slots.slots slot i x ne) ∙ is) noted
    ]

same_there : (came : List Asked) (s s' : State) → AreOf came s → s'.slots.slots ≡ s.slots.slots → s'.holds ≡ s.holds → AreOf came s'
same_there came s s' all slots holds i h hold is there =
    all i h hold (ap (λ (l : List (Option Guest)). slice_get l i) (sym slots) ∙ is) (ap (λ (l : List Hold). slice_get l i) (sym holds) ∙ there)

-- a request that waited is where it read that it is
by_place : (came : List Asked) (s s' : State) (slot : ℕ) (h : Hold) (told : List Ended) → AreOf came s → WaitsAt s slot → slice_get s.holds slot ≡ Some h → s'.holds ≡ s.holds
    → (place : Place) → FollowsPlace place slot h s.slots s'.slots told → Come came s' told
by_place came s s' slot h told all w noted holds places.Runs f = record {
  there = put_there came s s' slot _ w.guest.guest all w.guest.here (ap (λ (v : SlotsView). v.slots) f.0.then) holds;
  asked = none_asked came told f.1;
}
by_place came s s' slot h told all w noted holds places.Waits f = record {
  there = same_there came s s' all (ap (λ (v : SlotsView). v.slots) f.0) holds;
  asked = none_asked came told f.1;
}
by_place came s s' slot h told all w noted holds places.Free f = record {
  there = put_there came s s' slot None w.guest.guest all w.guest.here (ap (λ (v : SlotsView). v.slots) f.0) holds;
  asked = one_asked came (unserved h Cancelled s.slots.time) told f.1 (all slot w.guest.guest h w.guest.here noted);
}
by_place came s s' slot h told all w noted holds (places.Fresh ask) f = absurd f

-- another is noted in a slot
anew_there : (came : List Asked) (s s' : State) (slot : ℕ) (hold : Hold) → AreOf came s → slot < length s.holds → Contains came hold.asked → s'.holds ≡ set s.holds slot hold
    → ((i : ℕ) → i ≢ slot → slice_get s'.slots.slots i ≡ slice_get s.slots.slots i) → AreOf came s'
anew_there came s s' slot hold all low has holds others i g h is there =
    let noted : slice_get (set s.holds slot hold) i ≡ Some h = ap (λ (l : List Hold). slice_get l i) (sym holds) ∙ there in
    elim (cases_eq i slot) [
      | inl e ↦ subst (λ (k : Hold). Contains came k.asked) (some_is (sym (get_set s.holds slot hold low) ∙ ap (slice_get (set s.holds slot hold)) (sym e) ∙ noted)) has
      | inr ne ↦ all i g h (sym (others i ne) ∙ is) (sym (get_other s.holds slot i hold ne) ∙ noted)
    ]

module _ (came : List Asked) (slot : ℕ) (a : Asked) (s s' : State) (told : List Ended) (r : Arrives slot a s s' told) (tied : AreTied s) (all : AreOf came s) (has : Contains came a) where
  low : slot < length s.holds
  low = let l = slice_get_within s.slots.slots slot None r.free in let n = tied.count.holds in omega arith

  has_hold : Contains came r.hold.asked
  has_hold = subst (Contains came) (sym r.asked) has

  abbrev pub comer : Option Guest
  comer = Some (record { line = a.line; times = a.times; stay = Waits })

  -- the slot was set once, or twice
  once : s'.slots.slots ≡ set s.slots.slots slot comer → AreOf came s'
  once slots = anew_there came s s' slot r.hold all low has_hold r.holds (λ i ne. ap (λ (l : List (Option Guest)). slice_get l i) slots ∙ get_other s.slots.slots slot i comer ne)

  twice : (x : Option Guest) → s'.slots.slots ≡ set (set s.slots.slots slot comer) slot x → AreOf came s'
  twice x slots = anew_there came s s' slot r.hold all low has_hold r.holds (λ i ne. ap (λ (l : List (Option Guest)). slice_get l i) slots ∙ get_other (set s.slots.slots slot comer) slot i x ne ∙ get_other s.slots.slots slot i comer ne)

  by_answer : (answer : Answer) → FollowsAnswer answer slot r.hold (record { time = a.times.arrives_at; patience = s.slots.patience; slots = set s.slots.slots slot comer }) s'.slots told → Come came s' told
  by_answer answers.Run f = record { there = twice _ (ap (λ (v : SlotsView). v.slots) f.0.then); asked = none_asked came told f.1 }
  by_answer answers.Waits f = record { there = once (ap (λ (v : SlotsView). v.slots) f.0); asked = none_asked came told f.1 }
  by_answer (answers.Over decision) f = record { there = twice None (ap (λ (v : SlotsView). v.slots) f.0); asked = one_asked came (unserved r.hold decision a.times.arrives_at) told f.1 has_hold }
  by_answer answers.Busy f = absurd f
  by_answer answers.Released f = absurd f
  by_answer answers.Spent f = absurd f
  by_answer answers.Wrong f = absurd f

finish_come : (came : List Asked) (c : Carried) (s s' : State) (told : List Ended) → Finishes c s s' told → AreOf came s → Come came s' told
finish_come came c s s' told f all =
    let r = f.returns in
    let n = f.carries.next.first.here in
    record {
      there = put_there came s s' c.slot (then_of c.guest) c.guest all n (ap (λ (v : SlotsView). v.slots) r.slots ∙ ap (λ (v : SlotsView). v.slots) f.carries.then) r.holds;
      asked = one_asked came (served r.hold f.since c.at) told r.told_is (all c.slot c.guest r.hold n r.noted);
    }

gives_up_come : (came : List Asked) (c : Carried) (s s' : State) (told : List Ended) → GivesUp c s s' told → AreTied s → AreOf came s → Come came s' told
gives_up_come came c s s' told f tied all =
    let between : State = record { level = f.cancels.cancelled; slots = f.between; holds = s.holds; charges = s.charges } in
    let r = f.cancels.read in
    let there = put_there came s between c.slot (then_of c.guest) c.guest all f.carries.next.first.here (ap (λ (v : SlotsView). v.slots) f.carries.then) refl in
    by_place came between s' c.slot r.hold told there (waits_then c s s' told f tied) r.noted r.holds f.cancels.place r.follows

more_of : (came more : List Asked) (s : State) → AreOf came s → AreOf (came ++ more) s
more_of came more s all i g h is there = Contains-append_left came more h.asked (all i g h is there)

more_asked : (came more : List Asked) (told : List Ended) → AreAsked came told → AreAsked (came ++ more) told
unfolding AreAsked
more_asked came more [] all = tt
more_asked came more (e ∷ told) all = (Contains-append_left came more e.hold.asked all.0, more_asked came more told all.1)

more_come : (came more : List Asked) (s : State) (told : List Ended) → Come came s told → Come (came ++ more) s told
more_come came more s told c = record { there = more_of came more s c.there; asked = more_asked came more told c.asked }

last : (came : List Asked) (a : Asked) → Contains (came ++ a ∷ []) a
last came a = Contains-append_right came (a ∷ []) a (0, omega arith, refl)

deed_come : (came : List Asked) (d : Deed) (s s' : State) (told : List Ended) → IsDeed d s s' told → AreTied s → AreOf came s → Come (came ++ arrivals (d ∷ [])) s' told
deed_come came (Arrive slot a) s s' told r tied all = by_answer (came ++ a ∷ []) slot a s s' told r tied (more_of came (a ∷ []) s all) (last came a) r.answer r.follows
deed_come came (Finish c) s s' told f tied all = more_come came [] s' told (finish_come came c s s' told f all)
deed_come came (GiveUp c) s s' told f tied all = more_come came [] s' told (gives_up_come came c s s' told f tied all)
deed_come came (Read slot) s s' told (place, r) tied all = more_come came [] s' told (by_place came s s' slot r.hold told all (read_waits_at slot s s' told place r tied) r.noted r.holds place r.follows)
deed_come came (SetLimit n) s s' told r tied all = more_come came [] s' told (record { there = same_there came s s' all (ap (λ (v : SlotsView). v.slots) r.slots) r.holds; asked = none_asked came told r.nobody })

both : (came : List Asked) (xs ys : List Ended) → AreAsked came xs → AreAsked came ys → AreAsked came (xs ++ ys)
unfolding AreAsked
both came [] ys a b = b
both came (x ∷ xs) ys a b = (a.0, both came xs ys a.1 b)

run_come : (came : List Asked) (ds : List Deed) (s s' : State) (told : List Ended) → IsRun ds s s' told → AreTied s → AreOf came s → Come (came ++ arrivals ds) s' told
run_come came [] s s' told run tied all = record { there = more_of came [] s' (subst (AreOf came) (sym run.0) all); asked = none_asked (came ++ []) told run.1 }
run_come came (d ∷ ds) s s' told run tied all =
    let one = deed_come came d s run.0 run.1 run.3 tied all in
    let tied' = deed_tied d s run.0 run.1 run.3 tied in
    let more = run_come (came ++ arrivals (d ∷ [])) ds run.0 s' run.2 run.4 tied' one.there in
    let e : (came ++ arrivals (d ∷ [])) ++ arrivals ds ≡ came ++ arrivals (d ∷ ds) = append_assoc came (arrivals (d ∷ [])) (arrivals ds) ∙ ap (λ (l : List Asked). came ++ l) (sym (came_then (d ∷ []) ds)) in
    subst (λ (l : List Asked). Come l s' told) e (record {
      there = more.there;
      asked = subst (AreAsked ((came ++ arrivals (d ∷ [])) ++ arrivals ds)) (sym run.5)
          (both ((came ++ arrivals (d ∷ [])) ++ arrivals ds) run.1 run.2 (more_asked (came ++ arrivals (d ∷ [])) (arrivals ds) run.1 one.asked) more.asked);
    })

pub are_there : (came : List Asked) (ds : List Deed) (s s' : State) (told : List Ended) → IsRun ds s s' told → AreTied s → AreOf came s → AreOf (came ++ arrivals ds) s'
are_there came ds s s' told run tied all = (run_come came ds s s' told run tied all).there

pub are_told : (came : List Asked) (ds : List Deed) (s s' : State) (told : List Ended) → IsRun ds s s' told → AreTied s → AreOf came s → AllByRecursion (λ e. Contains (came ++ arrivals ds) e.hold.asked) told
unfolding AreAsked
are_told came ds s s' told run tied all = (run_come came ds s s' told run tied all).asked
