-- What a calendar of slots keeps.
use Rattle.std.specs.Prelude.{◌≡◌, ℕ, ◌+◌, ◌*◌, ◌^◌, ◌<◌, ◌≤◌, List, length, slice_get, slice_index, Option, Some, None}
use Rattle.apf_least.specs.Least.{no_number}
use Rattle.apf_times.specs.declared.due.Due.{Due}
use Rattle.apf_times.specs.Courses.{AreInRange}
use Rattle.apf_times.specs.Dues.{turn}
use Rattle.apf_times.specs.Limits.{max_patience, max_wait}
use Rattle.apf_calendar.specs.declared.guest.Guest.{Guest}
use Rattle.apf_calendar.specs.Guests.{SlotsView, due_of, IsIn}

-- what is due as one number, so that what comes first has the least: by time, then by kind, then by line
unfoldable pub key : Due → ℕ
key d = (2 * d.at + turn d.kind) * 2 ^ 64 + d.request

-- the number of what is due of a guest, if anything is
abbrev pub key_if : Option Due → ℕ
key_if None = no_number
key_if (Some d) = key d

-- the number of who is in a slot, if the slot is there
abbrev pub key_in : ℕ → Option (Option Guest) → ℕ
key_in patience None = no_number
key_in patience (Some None) = no_number
key_in patience (Some (Some g)) = key_if (due_of patience g)

-- a free slot has its own number, so that the first of those that are free has the least
abbrev pub free_in : ℕ → Option (Option Guest) → ℕ
free_in slot None = no_number
free_in slot (Some None) = slot
free_in slot (Some (Some g)) = no_number

-- a guest arrived by now, was given its seats by now, and what is due of it is not gone
pub record IsKeptGuest (time patience : ℕ) (g : Guest) : Type 0 where
  pub line : g.line < 2 ^ 64
  pub range : AreInRange g.times
  pub came : g.times.arrives_at ≤ time
  pub ahead : (d : Due) → due_of patience g ≡ Some d → time ≤ d.at
  pub low : (d : Due) → due_of patience g ≡ Some d → d.at ≤ max_wait

-- the tree of what is due, and that of what is free, have the numbers of the slots
pub record AreKept (v : SlotsView) (dues frees : List ℕ) : Type 0 where
  pub some : 1 ≤ length v.slots
  pub some_due : length v.slots ≤ length dues
  pub some_free : length v.slots ≤ length frees
  pub few : length v.slots ≤ 2 ^ 31
  pub keys : (i : ℕ) → i < length dues → slice_index dues i ≡ key_in v.patience (slice_get v.slots i)
  pub free : (i : ℕ) → i < length frees → slice_index frees i ≡ free_in i (slice_get v.slots i)
  pub patience : v.patience ≤ max_patience
  pub time : v.time ≤ max_wait
  pub guests : (i : ℕ) (g : Guest) → IsIn v i g → IsKeptGuest v.time v.patience g
