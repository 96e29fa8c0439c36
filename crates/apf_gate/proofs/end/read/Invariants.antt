use Rattle.std.proofs.Common.{◌≡◌, ℕ, ◌+◌, ◌<◌, ◌≤◌, length, Option, Some}
use Rattle.std.specs.Prelude.{slice_get, slice_index, vec_capacity}
use Rattle.std.specs.Mem.Slots.{slots_items}
use Rattle.apf_words.specs.declared.decision.Decision.{Decision}
use Rattle.apf_words.specs.Codes.{marked}
use Rattle.apf_gate.proofs.end.read.Given as goal

abbrev pub invariant-loop-r : goal.invariant-loop-r
invariant-loop-r g l = record {
  same : l.closed ≡ l.fn.closed;
  count : length l.decisions.items ≡ l.r;
  decided : (r m : ℕ) (d : Option Decision) → r < l.r → slice_index (slots_items l.fn.closed.words) (r + 1) ≡ marked m d → slice_get l.decisions.items r ≡ Some d;
  room : l.count ≤ vec_capacity l.decisions;
}
