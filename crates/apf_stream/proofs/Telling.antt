-- Each request is told once, or is there still.
use Rattle.std.proofs.Common.{◌≡◌, ◌≢◌, ℕ, zero, suc, ◌+◌, ◌<◌, List, [], ◌∷◌, ◌++◌, length, set, Option, Some, None, refl, sym, ap, ◌∙◌, subst, arith}
use Rattle.std.specs.Prelude.{slice_get}
use Rattle.std.proofs.lemmas.Option.{slice_get_within}
use Rattle.apf_words.specs.declared.decision.Decision.TheVariants.{Cancelled}
use Rattle.apf_charges.specs.declared.charges.Charges.{Charges}
use Rattle.apf_local.specs.declared.answer.Answer.{Answer}
use Rattle.apf_local.specs.declared.answer.Answer.TheVariants as answers
use Rattle.apf_local.specs.declared.answer.Place.{Place}
use Rattle.apf_local.specs.declared.answer.Place.TheVariants as places
use Rattle.apf_calendar.specs.declared.calendar.Carried.{Carried}
use Rattle.apf_calendar.specs.declared.guest.Guest.{Guest}
use Rattle.apf_calendar.specs.declared.guest.Stay.{Stay}
use Rattle.apf_calendar.specs.declared.guest.Stay.TheVariants.{Waits, Impatient, Holds}
use Rattle.apf_calendar.specs.Guests.{SlotsView, IsIn, Starts, then_in}
use Rattle.apf_stream.specs.declared.asked.Asked.{Asked}
use Rattle.apf_stream.specs.declared.asked.Hold.{Hold}
use Rattle.apf_stream.specs.declared.deed.Deed.{Deed}
use Rattle.apf_stream.specs.declared.deed.Deed.TheVariants.{Arrive, Finish, GiveUp, Read, SetLimit}
use Rattle.apf_stream.specs.declared.deed.NewLimit.{NewLimit}
use Rattle.apf_stream.specs.declared.ended.Ended.{Ended}
use Rattle.apf_stream.specs.Deeds.{Arrives, Finishes, FollowsAnswer, FollowsPlace, GivesUp, IsDeed, Reads, SetsLimit, unserved, served, with_slots}
use Rattle.apf_stream.specs.Runs.{IsRun, arrivals, came_of, is_guest, is_line, there_of, told_of}
use Rattle.apf_stream.specs.States.{State}
use Rattle.apf_stream.specs.Ties.{AreTied, IsReturning, WaitsAt}
use Rattle.apf_stream.proofs.Arriving.{tied_over, tied_runs, tied_waits}
use Rattle.apf_stream.proofs.Calling.{call_due}
use Rattle.apf_stream.proofs.Places.{finish_sets, get_set, none_is, some_is}
use Rattle.apf_stream.proofs.Tying.{still_at}
use Rattle.apf_stream.proofs.Readings.{returned_tied, tied_free, tied_runs as read_runs, tied_waits as read_waits, waits_of, waits_still}

-- one slot changes
there_set : (line : ℕ) (xs : List (Option Guest)) (i : ℕ) (y x : Option Guest) → slice_get xs i ≡ Some y → there_of line (set xs i x) + is_guest line y ≡ there_of line xs + is_guest line x
there_set line [] i y x is = absurd (none_is is)
there_set line (z ∷ zs) zero y x is = let e = ap (is_guest line) (some_is is) in omega arith
there_set line (z ∷ zs) (suc i) y x is = let r = there_set line zs i y x is in omega arith

told_then : (line : ℕ) (xs ys : List Ended) → told_of line (xs ++ ys) ≡ told_of line xs + told_of line ys
told_then line [] ys = omega arith
told_then line (x ∷ xs) ys = let r = told_then line xs ys in omega arith

came_then : (line : ℕ) (xs ys : List Asked) → came_of line (xs ++ ys) ≡ came_of line xs + came_of line ys
came_then line [] ys = omega arith
came_then line (x ∷ xs) ys = let r = came_then line xs ys in omega arith

-- a state of these fields
same_state : (s : State) (holds : List Hold) (charges : Charges) → s.holds ≡ holds → s.charges ≡ charges → AreTied (record { level = s.level; slots = s.slots; holds = holds; charges = charges }) → AreTied s
same_state s holds charges h c tied =
    subst (λ (x : Charges). AreTied (record { level = s.level; slots = s.slots; holds = s.holds; charges = x })) (sym c)
    (subst (λ (x : List Hold). AreTied (record { level = s.level; slots = s.slots; holds = x; charges = charges })) (sym h) tied)

-- the same line in a slot
same_there : (line slot : ℕ) (v v' : SlotsView) (g h : Guest) → IsIn v slot g → v'.slots ≡ set v.slots slot (Some h) → h.line ≡ g.line → there_of line v'.slots ≡ there_of line v.slots
same_there line slot v v' g h here slots same =
    let r = there_set line v.slots slot (Some g) (Some h) here in
    let e = ap (there_of line) slots in
    let l = ap (is_line line) same in
    omega arith

starts_there : (line slot : ℕ) (v v' : SlotsView) → Starts v slot v' → there_of line v'.slots ≡ there_of line v.slots
starts_there line slot v v' is = same_there line slot v v' is.guest (record { line = is.guest.line; times = is.guest.times; stay = Holds v.time }) is.here (ap (λ (w : SlotsView). w.slots) is.then) refl

-- it left, and is told
leaves_there : (line slot : ℕ) (v v' : SlotsView) (g : Guest) (e : Ended) → IsIn v slot g → v'.slots ≡ set v.slots slot None → e.hold.asked.line ≡ g.line → told_of line (e ∷ []) + there_of line v'.slots ≡ there_of line v.slots
leaves_there line slot v v' g e here slots same =
    let r = there_set line v.slots slot (Some g) None here in
    let t = ap (there_of line) slots in
    let l = ap (is_line line) same in
    omega arith

-- what was told of no one
told_none : (line : ℕ) (told : List Ended) → told ≡ [] → told_of line told ≡ 0
told_none line told e = ap (told_of line) e

runs_not_waits : ◌≡◌ {A = Place} places.Runs places.Waits → ⊥
runs_not_waits e = cc

free_not_waits : ◌≡◌ {A = Place} places.Free places.Waits → ⊥
free_not_waits e = cc

module _ (slot : ℕ) (s s' : State) (told : List Ended) (w : WaitsAt s slot) where
  -- one that does not wait any more needs nothing of the slot before
  gone_tied : (place : Place) → Reads slot place s s' told → (p : Place) → place ≡ p → place ≢ places.Waits → AreTied s'
  gone_tied place r places.Waits e isnt = absurd (isnt e)
  gone_tied place r places.Runs e isnt =
      same_state s' s.holds s.charges r.holds r.charges
      (read_runs s slot w s'.level place r.reads r.serves s'.slots e (subst (λ (q : Place). FollowsPlace q slot r.hold s.slots s'.slots told) e r.follows).0)
  gone_tied place r places.Free e isnt =
      same_state s' s.holds s.charges r.holds r.charges
      (tied_free s slot w s'.level place r.reads r.serves s'.slots e (subst (λ (q : Place). FollowsPlace q slot r.hold s.slots s'.slots told) e r.follows).0)
  gone_tied place r (places.Fresh ask) e isnt = absurd (subst (λ (q : Place). FollowsPlace q slot r.hold s.slots s'.slots told) e r.follows)

  -- a reading
  reads_tied : (place : Place) → Reads slot place s s' told → (p : Place) → place ≡ p → AreTied s → AreTied s'
  reads_tied place r places.Waits e tied =
      same_state s' s.holds s.charges r.holds r.charges
      (subst (λ (v : SlotsView). AreTied (record { level = s'.level; slots = v; holds = s.holds; charges = s.charges })) (sym (subst (λ (q : Place). FollowsPlace q slot r.hold s.slots s'.slots told) e r.follows).0)
      (read_waits s slot w s'.level place r.reads r.serves e tied))
  reads_tied place r places.Runs e tied = gone_tied place r places.Runs e (λ x. absurd (runs_not_waits (sym e ∙ x)))
  reads_tied place r places.Free e tied = gone_tied place r places.Free e (λ x. absurd (free_not_waits (sym e ∙ x)))
  reads_tied place r (places.Fresh ask) e tied = absurd (subst (λ (q : Place). FollowsPlace q slot r.hold s.slots s'.slots told) e r.follows)

  reads_once : (place : Place) → Reads slot place s s' told → (p : Place) → place ≡ p → (line : ℕ) → told_of line told + there_of line s'.slots.slots ≡ there_of line s.slots.slots
  reads_once place r places.Waits e line =
      let f = subst (λ (q : Place). FollowsPlace q slot r.hold s.slots s'.slots told) e r.follows in
      let t = told_none line told f.1 in
      let v = ap (λ (x : SlotsView). there_of line x.slots) f.0 in
      omega arith
  reads_once place r places.Runs e line =
      let f = subst (λ (q : Place). FollowsPlace q slot r.hold s.slots s'.slots told) e r.follows in
      let t = told_none line told f.1 in
      let v = starts_there line slot s.slots s'.slots f.0 in
      omega arith
  reads_once place r places.Free e line =
      let f = subst (λ (q : Place). FollowsPlace q slot r.hold s.slots s'.slots told) e r.follows in
      let g = w.guest.guest in
      let n = w.noted g r.hold w.guest.here r.noted in
      let l = leaves_there line slot s.slots s'.slots g (unserved r.hold Cancelled s.slots.time) w.guest.here (ap (λ (x : SlotsView). x.slots) f.0) n.line in
      let t = ap (told_of line) f.1 in
      omega arith
  reads_once place r (places.Fresh ask) e line = absurd (subst (λ (q : Place). FollowsPlace q slot r.hold s.slots s'.slots told) e r.follows)

-- an arrival
module _ (slot : ℕ) (a : Asked) (s s' : State) (told : List Ended) (r : Arrives slot a s s' told) (tied : AreTied s) where
  abbrev came : SlotsView
  came = record { time = a.times.arrives_at; patience = s.slots.patience; slots = set s.slots.slots slot (Some (record { line = a.line; times = a.times; stay = Waits })) }

  low : slot < length s.slots.slots
  low = slice_get_within s.slots.slots slot None r.free

  comer_in : IsIn came slot (record { line = a.line; times = a.times; stay = Waits })
  comer_in = get_set s.slots.slots slot (Some (record { line = a.line; times = a.times; stay = Waits })) low

  came_there : (line : ℕ) → there_of line came.slots ≡ is_line line a.line + there_of line s.slots.slots
  came_there line = let x = there_set line s.slots.slots slot None (Some (record { line = a.line; times = a.times; stay = Waits })) r.free in omega arith

  follows_as : (answer : Answer) → r.answer ≡ answer → FollowsAnswer answer slot r.hold came s'.slots told
  follows_as answer e = subst (λ (x : Answer). FollowsAnswer x slot r.hold came s'.slots told) e r.follows

  arrives_tied : (answer : Answer) → r.answer ≡ answer → FollowsAnswer answer slot r.hold came s'.slots told → AreTied s'
  arrives_tied answers.Run e f =
      same_state s' (set s.holds slot r.hold) s.charges r.holds r.charges
      (tied_runs s slot a tied r.free s'.level r.hold r.answer r.event r.asked r.call s'.slots e f.0)
  arrives_tied answers.Waits e f =
      same_state s' (set s.holds slot r.hold) s.charges r.holds r.charges
      (subst (λ (v : SlotsView). AreTied (record { level = s'.level; slots = v; holds = set s.holds slot r.hold; charges = s.charges })) (sym f.0)
      (tied_waits s slot a tied r.free s'.level r.hold r.answer r.event r.asked r.call e))
  arrives_tied (answers.Over decision) e f =
      same_state s' (set s.holds slot r.hold) s.charges r.holds r.charges
      (subst (λ (v : SlotsView). AreTied (record { level = s'.level; slots = v; holds = set s.holds slot r.hold; charges = s.charges })) (sym f.0)
      (tied_over s slot a tied r.free s'.level r.hold r.answer r.event r.asked r.call decision e))
  arrives_tied answers.Busy e f = absurd f
  arrives_tied answers.Released e f = absurd f
  arrives_tied answers.Spent e f = absurd f
  arrives_tied answers.Wrong e f = absurd f

  arrives_once : (answer : Answer) → FollowsAnswer answer slot r.hold came s'.slots told → (line : ℕ) → told_of line told + there_of line s'.slots.slots ≡ is_line line a.line + there_of line s.slots.slots
  arrives_once answers.Run f line =
      let t = told_none line told f.1 in
      let v = starts_there line slot came s'.slots f.0 in
      let c = came_there line in
      omega arith
  arrives_once answers.Waits f line =
      let t = told_none line told f.1 in
      let v = ap (λ (x : SlotsView). there_of line x.slots) f.0 in
      let c = came_there line in
      omega arith
  arrives_once (answers.Over decision) f line =
      let l = leaves_there line slot came s'.slots (record { line = a.line; times = a.times; stay = Waits }) (unserved r.hold decision came.time) comer_in (ap (λ (x : SlotsView). x.slots) f.0) (ap (λ (x : Asked). x.line) r.asked) in
      let t = ap (told_of line) f.1 in
      let c = came_there line in
      omega arith
  arrives_once answers.Busy f line = absurd f
  arrives_once answers.Released f line = absurd f
  arrives_once answers.Spent f line = absurd f
  arrives_once answers.Wrong f line = absurd f

-- a finish
module _ (c : Carried) (s s' : State) (told : List Ended) (f : Finishes c s s' told) (tied : AreTied s) where
  finish_slots : f.between.slots ≡ set s.slots.slots c.slot None
  finish_slots = ap (λ (v : SlotsView). v.slots) f.carries.then ∙ ap (λ (x : Stay). set s.slots.slots c.slot (then_in c.guest.line c.guest.times x)) f.held

  returning : IsReturning (with_slots s f.between) c.slot c.guest
  returning = call_due s f.by c f.between tied f.carries (Holds f.since) f.held

  finish_tied : AreTied s'
  finish_tied =
      let r = f.returns in
      let sets = finish_sets c.slot s.level s'.level answers.Released r.call returning.place in
      returned_tied (with_slots s f.between) s' c.slot c.guest returning sets.1 r.slots r.holds

  finish_once : (line : ℕ) → told_of line told + there_of line s'.slots.slots ≡ there_of line s.slots.slots
  finish_once line =
      let r = f.returns in
      let n = (tied.each c.slot).noted c.guest r.hold f.carries.next.first.here r.noted in
      let slots = ap (λ (v : SlotsView). v.slots) r.slots ∙ finish_slots in
      let l = leaves_there line c.slot s.slots s'.slots c.guest (served r.hold f.since c.at) f.carries.next.first.here slots n.line in
      let t = ap (told_of line) r.told_is in
      omega arith

-- a request that gives up
module _ (c : Carried) (s s' : State) (told : List Ended) (f : GivesUp c s s' told) (tied : AreTied s) where
  impatient_slots : f.between.slots ≡ set s.slots.slots c.slot (Some (record { line = c.guest.line; times = c.guest.times; stay = Impatient }))
  impatient_slots = ap (λ (v : SlotsView). v.slots) f.carries.then ∙ ap (λ (x : Stay). set s.slots.slots c.slot (then_in c.guest.line c.guest.times x)) f.waited

  pub waits_then : WaitsAt (record { level = f.cancels.cancelled; slots = f.between; holds = s.holds; charges = s.charges }) c.slot
  waits_then = waits_still (with_slots s f.between) c.slot f.cancels.cancelled (call_due s f.by c f.between tied f.carries Waits f.waited) f.cancels.stays

  gives_up_tied : AreTied s'
  gives_up_tied = gone_tied c.slot (record { level = f.cancels.cancelled; slots = f.between; holds = s.holds; charges = s.charges }) s' told waits_then f.cancels.place f.cancels.read f.cancels.place refl f.cancels.over

  gives_up_once : (line : ℕ) → told_of line told + there_of line s'.slots.slots ≡ there_of line s.slots.slots
  gives_up_once line =
      let b = same_there line c.slot s.slots f.between c.guest (record { line = c.guest.line; times = c.guest.times; stay = Impatient }) f.carries.next.first.here impatient_slots refl in
      let o = reads_once c.slot (record { level = f.cancels.cancelled; slots = f.between; holds = s.holds; charges = s.charges }) s' told waits_then f.cancels.place f.cancels.read f.cancels.place refl line in
      omega arith

-- a request that reads
pub read_waits_at : (slot : ℕ) (s s' : State) (told : List Ended) (place : Place) → Reads slot place s s' told → AreTied s → WaitsAt s slot
read_waits_at slot s s' told place r tied =
    let low = slice_get_within s.level.places slot places.Waits r.waited in
    waits_of s slot tied (let n = tied.count.places in omega arith) r.waited

-- a limit that is set
pub set_tied : (n : NewLimit) (s s' : State) (told : List Ended) → SetsLimit n s s' told → AreTied s → AreTied s'
set_tied n s s' told r tied =
    let places = r.stays.places in
    let slots = ap (λ (v : SlotsView). v.slots) r.slots in
    let a = ap (λ (l : List Place). length l) places in
    let b = ap (λ (l : List (Option Guest)). length l) slots in
    let c = ap (λ (l : List Hold). length l) r.holds in
    let were = tied.count.places in
    let held = tied.count.holds in
    record {
      count = record { places = omega arith; holds = omega arith };
      each = λ i. still_at s s' i (ap (λ (l : List Place). slice_get l i) places) (ap (λ (l : List (Option Guest)). slice_get l i) slots) (ap (λ (l : List Hold). slice_get l i) r.holds) (tied.each i);
    }

-- one deed
pub deed_tied : (d : Deed) (s s' : State) (told : List Ended) → IsDeed d s s' told → AreTied s → AreTied s'
deed_tied (Arrive slot a) s s' told r tied = arrives_tied slot a s s' told r tied r.answer refl (follows_as slot a s s' told r tied r.answer refl)
deed_tied (Finish c) s s' told f tied = finish_tied c s s' told f tied
deed_tied (GiveUp c) s s' told f tied = gives_up_tied c s s' told f tied
deed_tied (Read slot) s s' told (place, r) tied = reads_tied slot s s' told (read_waits_at slot s s' told place r tied) place r place refl tied
deed_tied (SetLimit n) s s' told r tied = set_tied n s s' told r tied

pub deed_once : (d : Deed) (s s' : State) (told : List Ended) → IsDeed d s s' told → AreTied s → (line : ℕ) → told_of line told + there_of line s'.slots.slots ≡ came_of line (arrivals (d ∷ [])) + there_of line s.slots.slots
deed_once (Arrive slot a) s s' told r tied line = let o = arrives_once slot a s s' told r tied r.answer (follows_as slot a s s' told r tied r.answer refl) line in omega arith
deed_once (Finish c) s s' told f tied line = let o = finish_once c s s' told f tied line in omega arith
deed_once (GiveUp c) s s' told f tied line = let o = gives_up_once c s s' told f tied line in omega arith
deed_once (Read slot) s s' told (place, r) tied line = let o = reads_once slot s s' told (read_waits_at slot s s' told place r tied) place r place refl line in omega arith
deed_once (SetLimit n) s s' told r tied line = let t = ap (told_of line) r.nobody in let v = ap (λ (x : SlotsView). there_of line x.slots) r.slots in omega arith

-- all of them
pub run_tied : (ds : List Deed) (s s' : State) (told : List Ended) → IsRun ds s s' told → AreTied s → AreTied s'
run_tied [] s s' told run tied = subst AreTied (sym run.0) tied
run_tied (d ∷ ds) s s' told run tied = run_tied ds run.0 s' run.2 run.4 (deed_tied d s run.0 run.1 run.3 tied)

came_one : (line : ℕ) (d : Deed) (ds : List Deed) → came_of line (arrivals (d ∷ ds)) ≡ came_of line (arrivals (d ∷ [])) + came_of line (arrivals ds)
came_one line (Arrive slot a) ds = omega arith
came_one line (Finish c) ds = omega arith
came_one line (GiveUp c) ds = omega arith
came_one line (Read slot) ds = omega arith
came_one line (SetLimit n) ds = omega arith

pub run_once : (ds : List Deed) (s s' : State) (told : List Ended) → IsRun ds s s' told → AreTied s → (line : ℕ) → told_of line told + there_of line s'.slots.slots ≡ came_of line (arrivals ds) + there_of line s.slots.slots
run_once [] s s' told run tied line = let t = ap (told_of line) run.1 in let v = ap (λ (x : State). there_of line x.slots.slots) run.0 in omega arith
run_once (d ∷ ds) s s' told run tied line =
    let one = deed_once d s run.0 run.1 run.3 tied line in
    let more = run_once ds run.0 s' run.2 run.4 (deed_tied d s run.0 run.1 run.3 tied) line in
    let t = ap (told_of line) run.5 in
    let u = told_then line run.1 run.2 in
    let c = came_one line d ds in
    omega arith
