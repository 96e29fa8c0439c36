-- A guest comes into a slot, or leaves it.
use Rattle.std.proofs.Common.{◌≡◌, ℕ, zero, suc, ◌+◌, ◌==◌, Bool, true, false, ◌*◌, ◌^◌, ◌<◌, ◌≤◌, inl, inr, List, length, get_or, set, Option, Some, None, refl, sym, ap, ◌∙◌, subst, arith}
use Rattle.std.specs.Prelude.{slice_get, replicate}
use Rattle.std.proofs.lemmas.Bool.{cases_eq}
use Rattle.std.proofs.lemmas.List.{length-set, length-replicate, get_or-set_same, get_or-set_other}
use Rattle.apf_least.specs.Least.{no_number}
use Rattle.apf_times.specs.declared.course.Times.{Times}
use Rattle.apf_times.specs.declared.due.Due.{Due}
use Rattle.apf_times.specs.Courses.{AreInRange}
use Rattle.apf_times.specs.Dues.{giving_up}
use Rattle.apf_calendar.specs.declared.guest.Guest.{Guest}
use Rattle.apf_calendar.specs.declared.guest.Stay.{Stay}
use Rattle.apf_calendar.specs.declared.guest.Stay.TheVariants.{Waits, Impatient, Holds}
use Rattle.apf_calendar.specs.Guests.{SlotsView, IsIn, due_of, then_in, then_of, unless_never, with_slot}
use Rattle.apf_calendar.specs.Kept.{AreKept, IsKeptGuest, key_in, free_in}
use Rattle.apf_calendar.proofs.Places.{get_set, get_other}

some_is : {A : Type 0} (a b : A) → ◌≡◌ {A = Option A} (Some a) (Some b) → a ≡ b
some_is a b is = cc

nothing : {A : Type 0} (b : A) → ◌≡◌ {A = Option A} None (Some b) → ⊥
nothing b is = cc

-- a list of numbers by the slots, one of which is set
numbers_set : (number : ℕ → Option (Option Guest) → ℕ) (slots : List (Option Guest)) (ns : List ℕ) (slot : ℕ) (x : Option Guest)
    → slot < length slots → length slots ≤ length ns → ((i : ℕ) → i < length ns → get_or ns i 0 ≡ number i (slice_get slots i))
    → (i : ℕ) → i < length (set ns slot (number slot (Some x))) → get_or (set ns slot (number slot (Some x))) i 0 ≡ number i (slice_get (set slots slot x) i)
numbers_set number slots ns slot x low room each i below =
    let n = length-set ns slot (number slot (Some x)) in
    elim (cases_eq i slot) [
      | inl e ↦
          subst (λ (k : ℕ). get_or (set ns slot (number slot (Some x))) k 0 ≡ number k (slice_get (set slots slot x) k)) (sym e)
          (get_or-set_same ns slot (number slot (Some x)) 0 (omega arith) ∙ ap (number slot) (sym (get_set slots slot x low)))
      | inr ne ↦ get_or-set_other ns slot i (number slot (Some x)) 0 ne ∙ each i (omega arith) ∙ ap (number i) (sym (get_other slots slot i x ne))
    ]

pub put_kept : (v : SlotsView) (dues frees : List ℕ) (slot : ℕ) (x : Option Guest) → AreKept v dues frees → slot < length v.slots
    → ((g : Guest) → x ≡ Some g → IsKeptGuest v.time v.patience g)
    → AreKept (with_slot v slot x) (set dues slot (key_in v.patience (Some x))) (set frees slot (free_in slot (Some x)))
put_kept v dues frees slot x old low kept =
    let a = length-set v.slots slot x in
    let b = length-set dues slot (key_in v.patience (Some x)) in
    let c = length-set frees slot (free_in slot (Some x)) in
    let some = old.some in
    let some_due = old.some_due in
    let some_free = old.some_free in
    let few = old.few in
    record {
      some = omega arith;
      some_due = omega arith;
      some_free = omega arith;
      few = omega arith;
      keys = numbers_set (λ _. key_in v.patience) v.slots dues slot x low old.some_due old.keys;
      free = numbers_set free_in v.slots frees slot x low old.some_free old.free;
      patience = old.patience;
      time = old.time;
      guests = λ i g here. elim (cases_eq i slot) [
        | inl e ↦ kept g (some_is x (Some g) (sym (get_set v.slots slot x low) ∙ subst (λ (k : ℕ). slice_get (set v.slots slot x) k ≡ Some (Some g)) e here))
        | inr ne ↦ old.guests i g (sym (get_other v.slots slot i x ne) ∙ here)
      ];
    }

-- nobody
abbrev none : Option Guest
none = None

none_in : (slots i : ℕ) (g : Guest) → slice_get (replicate slots none) i ≡ Some (Some g) → ⊥
none_in zero i g e = absurd (nothing (Some g) e)
none_in (suc slots) zero g e = absurd (nothing g (some_is None (Some g) e))
none_in (suc slots) (suc i) g e = none_in slots i g e

no_key : (patience slots i : ℕ) → key_in patience (slice_get (replicate slots none) i) ≡ no_number
no_key patience zero i = refl
no_key patience (suc slots) zero = refl
no_key patience (suc slots) (suc i) = no_key patience slots i

pub opening_kept : (slots patience : ℕ) (dues frees : List ℕ) → 1 ≤ slots → slots ≤ 2 ^ 31 → patience ≤ 10 ^ 9 → slots ≤ length dues → slots ≤ length frees
    → ((q : ℕ) → q < length dues → get_or dues q 0 ≡ no_number)
    → ((i : ℕ) → i < length frees → get_or frees i 0 ≡ free_in i (slice_get (replicate slots none) i))
    → AreKept (record { time = 0; patience = patience; slots = replicate slots none }) dues frees
opening_kept slots patience dues frees some few patient due free empty each =
    let n = length-replicate slots none in
    record {
      some = omega arith;
      some_due = omega arith;
      some_free = omega arith;
      few = omega arith;
      keys = λ i low. empty i low ∙ sym (no_key patience slots i);
      free = each;
      patience = patient;
      time = omega arith;
      guests = λ i g here. absurd (none_in slots i g here);
    }

-- the time goes on to what is due first, or to a time by which nothing is due
pub later_kept : (v : SlotsView) (dues frees : List ℕ) (time : ℕ) → AreKept v dues frees → v.time ≤ time → time ≤ 2 * 10 ^ 14
    → ((i : ℕ) (g : Guest) (d : Due) → IsIn v i g → due_of v.patience g ≡ Some d → time ≤ d.at)
    → AreKept (record { time = time; patience = v.patience; slots = v.slots }) dues frees
later_kept v dues frees time old later low ahead = record {
  some = old.some;
  some_due = old.some_due;
  some_free = old.some_free;
  few = old.few;
  keys = old.keys;
  free = old.free;
  patience = old.patience;
  time = low;
  guests = λ i g here. (let k = old.guests i g here in record { line = k.line; range = k.range; came = (let e = k.came in omega arith); ahead = λ d is. ahead i g d here is; low = k.low });
}

-- who finished has left, and of whose patience ended nothing is due
impatient_kept : (time patience line : ℕ) (times : Times) (stay : Stay) (h : Guest) → then_in line times stay ≡ Some h → line < 2 ^ 64 → AreInRange times → times.arrives_at ≤ time → IsKeptGuest time patience h
impatient_kept time patience line times Waits h e few range came = subst (IsKeptGuest time patience) (some_is _ h e) (record { line = few; range = range; came = came; ahead = λ d is. absurd (nothing d is); low = λ d is. absurd (nothing d is) })
impatient_kept time patience line times Impatient h e few range came = subst (IsKeptGuest time patience) (some_is _ h e) (record { line = few; range = range; came = came; ahead = λ d is. absurd (nothing d is); low = λ d is. absurd (nothing d is) })
impatient_kept time patience line times (Holds since) h e few range came = absurd (nothing h e)

pub then_kept : (time patience : ℕ) (g h : Guest) → IsKeptGuest time patience g → then_of g ≡ Some h → IsKeptGuest time patience h
then_kept time patience g h k e = impatient_kept time patience g.line g.times g.stay h e k.line k.range k.came

-- one who arrives now waits
waiting_due : (never : Bool) (arrives patience line : ℕ) (d : Due) → arrives ≤ 10 ^ 12 → patience ≤ 10 ^ 9 → unless_never never (giving_up line arrives patience) ≡ Some d → (arrives ≤ d.at) × (d.at ≤ 2 * 10 ^ 14)
waiting_due true arrives patience line d early patient e = absurd (nothing d e)
waiting_due false arrives patience line d early patient e = let at = ap (λ (x : Due). x.at) (some_is _ d e) in (omega arith, omega arith)

pub arrived_kept : (line patience : ℕ) (times : Times) → line < 2 ^ 64 → AreInRange times → patience ≤ 10 ^ 9 → IsKeptGuest times.arrives_at patience (record { line = line; times = times; stay = Waits })
arrived_kept line patience times few range patient = record {
  line = few;
  range = range;
  came = omega arith;
  ahead = λ d is. (waiting_due (patience == 0) times.arrives_at patience line d range.arrives_at patient is).0;
  low = λ d is. (waiting_due (patience == 0) times.arrives_at patience line d range.arrives_at patient is).1;
}

-- one who is given seats now finishes later
pub started_kept : (time patience : ℕ) (g : Guest) → IsKeptGuest time patience g → time + g.times.runs_for ≤ 2 * 10 ^ 14 → IsKeptGuest time patience (record { line = g.line; times = g.times; stay = Holds time })
started_kept time patience g k low = record {
  line = k.line;
  range = k.range;
  came = k.came;
  ahead = λ d is. let at = ap (λ (x : Due). x.at) (some_is _ d is) in omega arith;
  low = λ d is. let at = ap (λ (x : Due). x.at) (some_is _ d is) in omega arith;
}
