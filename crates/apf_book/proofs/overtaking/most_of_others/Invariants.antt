-- The most of the other queues so far.
use Rattle.std.proofs.Common.{◌≡◌, ◌≢◌, ℕ, ◌<◌, ◌≤◌, slice_index}
use Rattle.apf_book.proofs.overtaking.most_of_others.Given as goal

abbrev pub invariant-loop-place : goal.invariant-loop-place
invariant-loop-place l = record {
  others : (k : ℕ) → k < l.place → k ≢ l.queue → slice_index l.services k ≤ l.most;
  one_other : (k : ℕ) × (k ≢ l.queue) × (slice_index l.services k ≡ l.most);
}
