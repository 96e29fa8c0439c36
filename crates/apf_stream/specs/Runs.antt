-- What is done with requests, one deed after another.
use Rattle.std.specs.Prelude.{◌≡◌, ◌≢◌, ◌⊎◌, ℕ, ◌+◌, ◌≤◌, ◌==◌, cond, List, [], ◌∷◌, ◌++◌, Contains, slice_get, Option, Some, None, IfSome}
use Rattle.apf_words.specs.declared.decision.Decision.{Decision}
use Rattle.apf_words.specs.declared.decision.Decision.TheVariants.{Execute, Cancelled}
use Rattle.apf_times.specs.declared.course.Times.{Times}
use Rattle.apf_stream.specs.declared.deed.Deed.{Deed}
use Rattle.apf_stream.specs.declared.deed.Deed.TheVariants.{Arrive, Finish, GiveUp, Read, SetLimit}
use Rattle.apf_stream.specs.declared.deed.NewLimit.{NewLimit}
use Rattle.apf_stream.specs.declared.ended.Ended.{Ended}
use Rattle.apf_stream.specs.declared.asked.Asked.{Asked}
use Rattle.apf_stream.specs.declared.asked.Hold.{Hold}
use Rattle.apf_local.specs.declared.answer.Place.{Place}
use Rattle.apf_calendar.specs.declared.calendar.Carried.{Carried}
use Rattle.apf_calendar.specs.declared.guest.Guest.{Guest}
use Rattle.apf_calendar.specs.declared.guest.Stay.{Stay}
use Rattle.apf_calendar.specs.declared.guest.Stay.TheVariants.{Waits, Impatient, Holds}
use Rattle.apf_calendar.specs.Guests.{IsIn}
use Rattle.apf_stream.specs.Deeds.{IsDeed, Arrives, Cancels, Reads, Returns}
use Rattle.apf_stream.specs.States.{State}

-- these deeds, the first first, lead from a state to another, and this is told by them
abbrev pub IsRun : List Deed → State → State → List Ended → Type 0
IsRun [] s s' told = (s' ≡ s) × (told ≡ [])
IsRun (deed ∷ deeds) s s' told =
    (between : State) × (first : List Ended) × (rest : List Ended) × IsDeed deed s between first × IsRun deeds between s' rest × (told ≡ first ++ rest)

-- who arrives by these deeds
abbrev pub arrivals : List Deed → List Asked
arrivals [] = []
arrivals (Arrive slot a ∷ deeds) = a ∷ arrivals deeds
arrivals (Finish c ∷ deeds) = arrivals deeds
arrivals (GiveUp c ∷ deeds) = arrivals deeds
arrivals (Read slot ∷ deeds) = arrivals deeds
arrivals (SetLimit n ∷ deeds) = arrivals deeds

-- which limits are set by these deeds
abbrev pub limits : List Deed → List NewLimit
limits [] = []
limits (Arrive slot a ∷ deeds) = limits deeds
limits (Finish c ∷ deeds) = limits deeds
limits (GiveUp c ∷ deeds) = limits deeds
limits (Read slot ∷ deeds) = limits deeds
limits (SetLimit n ∷ deeds) = n ∷ limits deeds

-- By deeds of which just these are arrivals, and just these set the limit, it went from the first state to the second. Just what they tell was put behind what was told before
pub record HasRunUnder (under : List NewLimit) (came : List Asked) (s : State) (before : List Ended) (s' : State) (after : List Ended) : Type 0 where
  pub deeds : List Deed
  pub told : List Ended
  pub run : IsRun deeds s s' told
  pub came_are : arrivals deeds ≡ came
  pub limits_are : limits deeds ≡ under
  pub told_are : after ≡ before ++ told

-- the same, and the limit stayed
abbrev pub HasRun : List Asked → State → List Ended → State → List Ended → Type 0
HasRun came s before s' after = HasRunUnder [] came s before s' after

-- one, if it is this line
abbrev pub is_line : ℕ → ℕ → ℕ
is_line line other = cond (other == line) 1 0

-- how many of these that were told are of this line
abbrev pub told_of : ℕ → List Ended → ℕ
told_of line [] = 0
told_of line (e ∷ told) = is_line line e.hold.asked.line + told_of line told

-- how many of these that arrive are of this line
abbrev pub came_of : ℕ → List Asked → ℕ
came_of line [] = 0
came_of line (a ∷ came) = is_line line a.line + came_of line came

-- one, if the guest is of this line
abbrev pub is_guest : ℕ → Option Guest → ℕ
is_guest line None = 0
is_guest line (Some g) = is_line line g.line

-- how many of those who are there are of this line
abbrev pub there_of : ℕ → List (Option Guest) → ℕ
there_of line [] = 0
there_of line (x ∷ slots) = is_guest line x + there_of line slots

-- the request of the slot read its decision, and what is told by that was put behind what was told before
pub record ReadsAs (slot : ℕ) (place : Place) (s : State) (before : List Ended) (s' : State) (after : List Ended) : Type 0 where
  pub told : List Ended
  pub reads : Reads slot place s s' told
  pub told_are : after ≡ before ++ told

-- the same of a cancel
pub record CancelsAs (slot : ℕ) (s : State) (before : List Ended) (s' : State) (after : List Ended) : Type 0 where
  pub told : List Ended
  pub cancels : Cancels slot s s' told
  pub told_are : after ≡ before ++ told

-- the same of seats that are given back
pub record ReturnsAs (c : Carried) (since : ℕ) (s : State) (before : List Ended) (s' : State) (after : List Ended) : Type 0 where
  pub told : List Ended
  pub returns : Returns c since s s' told
  pub told_are : after ≡ before ++ told

-- the same of an arrival
pub record ArrivesAs (slot : ℕ) (a : Asked) (s : State) (before : List Ended) (s' : State) (after : List Ended) : Type 0 where
  pub told : List Ended
  pub arrives : Arrives slot a s s' told
  pub told_are : after ≡ before ++ told

-- the call for what was just carried out was made
abbrev pub CallsAs : Carried → Stay → State → List Ended → State → List Ended → Type 0
CallsAs c Waits s before s' after = CancelsAs c.slot s before s' after
CallsAs c Impatient s before s' after = ⊥
CallsAs c (Holds since) s before s' after = ReturnsAs c since s before s' after

-- what is noted of each one who is there was asked by one of these that came
abbrev pub AreOf : List Asked → State → Type 0
AreOf came s = (i : ℕ) (g : Guest) (h : Hold) → IsIn s.slots i g → slice_get s.holds i ≡ Some h → Contains came h.asked

-- it was over by this time, and was given its seats before that, if it was given any
pub record IsOverBy (time : ℕ) (e : Ended) : Type 0 where
  pub over : e.over_at ≤ time
  pub since : IfSome e.since (λ at. at ≤ e.over_at)

-- at or after its arrival, and before it has waited for longer than its patience, unless that has no end
pub record IsWithin (patience arrives_at at : ℕ) : Type 0 where
  pub came : arrives_at ≤ at
  pub in_time : patience ≢ 0 → at ≤ arrives_at + patience

-- What became of a request, by its times. One that was given its seats was executed: it got them within its patience, and was over once it had run. Any other was not executed: it was over within its patience, and as it arrived, unless it was cancelled
abbrev pub IsCourse : ℕ → Times → Decision → Option ℕ → ℕ → Type 0
IsCourse patience times decision None over_at = (decision ≢ Execute) × ((decision ≡ Cancelled) ⊎ (over_at ≡ times.arrives_at)) × IsWithin patience times.arrives_at over_at
IsCourse patience times decision (Some since) over_at = (decision ≡ Execute) × (over_at ≡ since + times.runs_for) × IsWithin patience times.arrives_at since

abbrev pub IsHonoured : ℕ → Ended → Type 0
IsHonoured patience e = IsCourse patience e.hold.asked.times e.decision e.since e.over_at
