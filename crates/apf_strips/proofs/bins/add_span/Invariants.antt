-- The bins before this one have their part of the span, and the others are as they were.
use Rattle.std.proofs.Common.{◌≡◌, ℕ, ◌+◌, ◌<◌, ◌≤◌, length, get_or}
use Rattle.apf_strips.specs.Spans.{part_of}
use Rattle.apf_strips.proofs.bins.add_span.Given as goal

abbrev pub invariant-loop-bin : goal.invariant-loop-bin
invariant-loop-bin l = record {
  count : length l.bins ≡ length l.fn.bins;
  done : (k : ℕ) → k < l.bin → get_or l.bins k 0 ≡ get_or l.fn.bins k 0 + part_of l.width k (record { amount = l.amount; from = l.from; to = l.to });
  rest : (k : ℕ) → l.bin ≤ k → get_or l.bins k 0 ≡ get_or l.fn.bins k 0;
}
