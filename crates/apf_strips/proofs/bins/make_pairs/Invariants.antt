-- The bins before this place have the sums of their pairs, and the others are as they were.
use Rattle.std.proofs.Common.{◌≡◌, ℕ, ◌+◌, ◌*◌, ◌<◌, ◌≤◌, length, get_or}
use Rattle.apf_strips.proofs.bins.make_pairs.Given as goal

abbrev pub invariant-loop-place : goal.invariant-loop-place
invariant-loop-place l = record {
  count : length l.bins ≡ length l.fn.bins;
  done : (k : ℕ) → k < l.place → get_or l.bins k 0 ≡ get_or l.fn.bins (2 * k) 0 + get_or l.fn.bins (2 * k + 1) 0;
  rest : (k : ℕ) → l.place ≤ k → get_or l.bins k 0 ≡ get_or l.fn.bins k 0;
}
