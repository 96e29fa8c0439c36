-- Both queues are counted so far, and someone waited in each at every place of the stretch so far.
use Rattle.std.proofs.Common.{◌≢◌, ◌<◌, ◌≤◌, ℕ, []}
use Rattle.apf_model.specs.History.{waiting}
use Rattle.apf_book.specs.Stretch.{history_at}
use Rattle.apf_book.specs.Counted.{IsCountAt}
use Rattle.apf_book.proofs.stretch.services.Given as goal

abbrev pub invariant-loop-place : goal.invariant-loop-place
invariant-loop-place l = record {
  of_a : IsCountAt l.widths l.log l.from l.place l.a l.of_a;
  of_b : IsCountAt l.widths l.log l.from l.place l.b l.of_b;
  some_in_a : (k : ℕ) → l.from ≤ k → k < l.place → waiting (history_at l.log k) l.a ≢ [];
  some_in_b : (k : ℕ) → l.from ≤ k → k < l.place → waiting (history_at l.log k) l.b ≢ [];
}
