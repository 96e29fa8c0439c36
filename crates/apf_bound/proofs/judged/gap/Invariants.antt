-- The gap so far: it is that at some place, or 0, which is that past the end.
use Rattle.std.proofs.Common.{◌≡◌, ℕ, ◌+◌, ◌-◌, ◌<◌, ◌≤◌, slice_index}
use Rattle.apf_bound.proofs.judged.gap.Given as goal

abbrev pub invariant-loop-place : goal.invariant-loop-place
invariant-loop-place l = record {
  at : (q : ℕ) × (slice_index l.more q - slice_index l.less q ≡ l.gap);
  most : (q : ℕ) → q < l.place → slice_index l.more q ≤ slice_index l.less q + l.gap;
}
