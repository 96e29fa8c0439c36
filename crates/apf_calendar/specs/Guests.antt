-- Requests that are there, each in its slot, and what is due of them.
use Rattle.std.specs.Prelude.{◌≡◌, ℕ, ◌+◌, ◌<◌, ◌≤◌, ◌==◌, Bool, true, false, List, slice_get, slice_set, Option, Some, None}
use Rattle.apf_times.specs.declared.course.Times.{Times}
use Rattle.apf_times.specs.declared.due.Due.{Due}
use Rattle.apf_times.specs.Dues.{finish, giving_up, is_before}
use Rattle.apf_calendar.specs.declared.guest.Guest.{Guest}
use Rattle.apf_calendar.specs.declared.guest.Stay.{Stay}
use Rattle.apf_calendar.specs.declared.guest.Stay.TheVariants.{Waits, Impatient, Holds}
use Rattle.apf_calendar.specs.declared.calendar.Carried.{Carried}

-- What contracts see of a calendar of slots.
pub record SlotsView : Type 0 where
  -- the time of what was carried out last, in microseconds
  pub time : ℕ
  -- how long a request waits before it gives up, or 0 if none gives up
  pub patience : ℕ
  -- who is in each slot
  pub slots : List (Option Guest)

-- this, unless it never comes
abbrev pub unless_never : Bool → Due → Option Due
unless_never true d = None
unless_never false d = Some d

-- what is due of a request that is there so: its finish if it has its seats, or the end of its patience if it waits and patience has an end
abbrev pub due_in : ℕ → ℕ → Times → Stay → Option Due
due_in patience line times Waits = unless_never (patience == 0) (giving_up line times.arrives_at patience)
due_in patience line times Impatient = None
due_in patience line times (Holds since) = Some (finish line since times.runs_for)

abbrev pub due_of : ℕ → Guest → Option Due
due_of patience g = due_in patience g.line g.times g.stay

-- who is in the slot, once what was due of the request was carried out: one that finished has left
abbrev pub then_in : ℕ → Times → Stay → Option Guest
then_in line times Waits = Some (record { line = line; times = times; stay = Impatient })
then_in line times Impatient = Some (record { line = line; times = times; stay = Impatient })
then_in line times (Holds since) = None

abbrev pub then_of : Guest → Option Guest
then_of g = then_in g.line g.times g.stay

-- it waits: it was not given its seats
abbrev pub IsWaiting : Stay → Type 0
IsWaiting Waits = Unit {0}
IsWaiting Impatient = Unit {0}
IsWaiting (Holds since) = ⊥

-- this guest is in the slot
abbrev pub IsIn : SlotsView → ℕ → Guest → Type 0
IsIn v slot g = slice_get v.slots slot ≡ Some (Some g)

-- the slot is there, and nobody is in it
abbrev pub IsFree : SlotsView → ℕ → Type 0
IsFree v slot = slice_get v.slots slot ≡ Some None

-- a request that waits is in the slot
pub record WaitsIn (v : SlotsView) (slot : ℕ) : Type 0 where
  pub guest : Guest
  pub here : IsIn v slot guest
  pub waits : IsWaiting guest.stay

-- the slots with this one changed
abbrev pub with_slot : SlotsView → ℕ → Option Guest → SlotsView
with_slot v slot g = record { time = v.time; patience = v.patience; slots = slice_set v.slots slot g }

-- this is due of the guest of the slot, and nothing that is due of anybody comes before it
pub record IsFirstDue (v : SlotsView) (slot : ℕ) (g : Guest) (d : Due) : Type 0 where
  pub here : IsIn v slot g
  pub is_due : due_of v.patience g ≡ Some d
  pub first : (i : ℕ) (h : Guest) (e : Due) → IsIn v i h → due_of v.patience h ≡ Some e → is_before e d ≡ false

-- nothing is due up to this time
abbrev pub NothingBy : SlotsView → ℕ → Type 0
NothingBy v by = (i : ℕ) (h : Guest) (e : Due) → IsIn v i h → due_of v.patience h ≡ Some e → by < e.at

-- this is due first, at its time
pub record IsNext (v : SlotsView) (c : Carried) : Type 0 where
  pub due : Due
  pub first : IsFirstDue v c.slot c.guest due
  pub at : c.at ≡ due.at

-- what is due first was carried out, which is due up to this time. The time is when it was due
pub record CarriesOut (v : SlotsView) (by : ℕ) (c : Carried) (v' : SlotsView) : Type 0 where
  pub next : IsNext v c
  pub in_time : c.at ≤ by
  pub then : v' ≡ record { time = c.at; patience = v.patience; slots = slice_set v.slots c.slot (then_of c.guest) }

-- the request that waits in the slot was given its seats now
pub record Starts (v : SlotsView) (slot : ℕ) (v' : SlotsView) : Type 0 where
  pub guest : Guest
  pub here : IsIn v slot guest
  pub waits : IsWaiting guest.stay
  pub then : v' ≡ with_slot v slot (Some (record { line = guest.line; times = guest.times; stay = Holds v.time }))

-- it would finish later than anything is carried out
pub record EndsTooFar (latest : ℕ) (v : SlotsView) (slot : ℕ) : Type 0 where
  pub guest : Guest
  pub here : IsIn v slot guest
  pub too_far : latest < v.time + guest.times.runs_for
