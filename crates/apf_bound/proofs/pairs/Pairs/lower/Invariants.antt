-- The pairs so far are lowered, and the others as they were.
use Rattle.std.proofs.Common.{◌≡◌, ℕ, ◌-◌, ◌<◌}
use Rattle.std.specs.Prelude.{◌==◌, ◌&&◌, nat_lt, if◌then◌else◌}
use Rattle.apf_bound.specs.Pairs.{cell}
use Rattle.apf_bound.proofs.pairs.Pairs.lower.Given as goal

abbrev pub invariant-loop-other : goal.invariant-loop-other
invariant-loop-other l = record {
  queues : l.self.queues ≡ l.fn.self.queues;
  cells : (x y : ℕ) → y < l.fn.self.queues → cell l.self x y ≡ (if (x == l.busy) && nat_lt y l.other then cell l.fn.self x y - l.by else cell l.fn.self x y);
}
