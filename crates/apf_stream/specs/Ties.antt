-- Who is in a slot by the calendar is where the level says.
use Rattle.std.specs.Prelude.{◌≡◌, ◌≢◌, ℕ, ◌<◌, length, slice_get, Option, Some, None}
use Rattle.apf_local.specs.declared.answer.Place.{Place}
use Rattle.apf_local.specs.declared.answer.Place.TheVariants as places
use Rattle.apf_calendar.specs.declared.guest.Guest.{Guest}
use Rattle.apf_calendar.specs.declared.guest.Stay.{Stay}
use Rattle.apf_calendar.specs.declared.guest.Stay.TheVariants.{Waits, Impatient, Holds}
use Rattle.apf_calendar.specs.Guests.{IsIn, WaitsIn}
use Rattle.apf_stream.specs.declared.asked.Hold.{Hold}
use Rattle.apf_stream.specs.States.{State}

-- nobody is in a free slot; a request that waits there waits by the calendar, and one that executes has its seats. No request is there before it arrives
abbrev pub IsWhere : Place → Option Guest → Type 0
IsWhere places.Free None = Unit {0}
IsWhere places.Free (Some g) = ⊥
IsWhere (places.Fresh ask) x = ⊥
IsWhere places.Waits None = ⊥
IsWhere places.Waits (Some g) = g.stay ≡ Waits
IsWhere places.Runs None = ⊥
IsWhere places.Runs (Some g) = (since : ℕ) × (g.stay ≡ Holds since)

-- what is noted is of this guest
pub record IsNoted (h : Hold) (g : Guest) : Type 0 where
  pub line : h.asked.line ≡ g.line
  pub times : h.asked.times ≡ g.times

-- each slot has its place and its note
pub record AreAsMany (s : State) : Type 0 where
  pub places : length s.level.places ≡ length s.slots.slots
  pub holds : length s.holds ≡ length s.slots.slots

-- this slot is so
pub record IsTiedAt (s : State) (i : ℕ) : Type 0 where
  pub at : (p : Place) (x : Option Guest) → slice_get s.level.places i ≡ Some p → slice_get s.slots.slots i ≡ Some x → IsWhere p x
  pub noted : (g : Guest) (h : Hold) → IsIn s.slots i g → slice_get s.holds i ≡ Some h → IsNoted h g

-- each slot is so
pub record AreTied (s : State) : Type 0 where
  pub count : AreAsMany s
  pub each : (i : ℕ) → IsTiedAt s i

-- each slot but this one is so
pub record AreTiedBut (s : State) (slot : ℕ) : Type 0 where
  pub count : AreAsMany s
  pub inside : slot < length s.slots.slots
  pub each : (i : ℕ) → i ≢ slot → IsTiedAt s i

-- the request of the slot waits by the level, and has no seats by the calendar
pub record WaitsAt (s : State) (slot : ℕ) : Type 0 where
  pub but : AreTiedBut s slot
  pub place : slice_get s.level.places slot ≡ Some places.Waits
  pub guest : WaitsIn s.slots slot
  pub noted : (g : Guest) (h : Hold) → IsIn s.slots slot g → slice_get s.holds slot ≡ Some h → IsNoted h g

-- the request of the slot executes by the level, and has left the slot by the calendar
pub record IsReturning (s : State) (slot : ℕ) (g : Guest) : Type 0 where
  pub but : AreTiedBut s slot
  pub place : slice_get s.level.places slot ≡ Some places.Runs
  pub left : slice_get s.slots.slots slot ≡ Some None
  pub noted : (h : Hold) → slice_get s.holds slot ≡ Some h → IsNoted h g

-- the one call that is due is that for what was just carried out of this guest
abbrev pub IsCallDue : State → ℕ → Guest → Stay → Type 0
IsCallDue s slot g Waits = WaitsAt s slot
IsCallDue s slot g Impatient = ⊥
IsCallDue s slot g (Holds since) = IsReturning s slot g
