-- The slots so far have their own numbers, and the others none.
use Rattle.std.proofs.Common.{◌≡◌, ℕ, ◌<◌, ◌≤◌, length, slice_index}
use Rattle.apf_least.specs.Least.{no_number}
use Rattle.apf_calendar.proofs.calendar.all_free.Given as goal

abbrev pub invariant-loop-slot : goal.invariant-loop-slot
invariant-loop-slot g l = record {
  room : l.slots ≤ length l.frees;
  so_far : (i : ℕ) → i < l.slot → slice_index l.frees i ≡ i;
  behind : (i : ℕ) → l.slot ≤ i → i < length l.frees → slice_index l.frees i ≡ no_number;
}
