-- The pairs of the queues so far are passed, and the others as they were.
use Rattle.std.proofs.Common.{◌≡◌, ℕ, ◌<◌}
use Rattle.std.specs.Prelude.{◌&&◌, nat_lt, max, if◌then◌else◌}
use Rattle.apf_bound.specs.Pairs.{cell}
use Rattle.apf_bound.specs.Stretched.{is_passed, raised}
use Rattle.apf_bound.proofs.stretches.Stretches.pass_all.Given as goal

abbrev pub invariant-loop-busy : goal.invariant-loop-busy
invariant-loop-busy l = record {
  queues : l.self.queues ≡ l.fn.self.queues;
  waiting : l.self.waiting ≡ l.fn.self.waiting;
  waited : l.self.waited ≡ l.fn.self.waited;
  ahead : (a b : ℕ) → a < l.fn.self.queues → b < l.fn.self.queues → cell l.self.ahead a b ≡ (if nat_lt a l.busy && is_passed l.fn.self l.other a b then raised l.by (cell l.fn.self.ahead a b) else cell l.fn.self.ahead a b);
  most : (a b : ℕ) → a < l.fn.self.queues → b < l.fn.self.queues → cell l.self.most a b ≡ (if nat_lt a l.busy && is_passed l.fn.self l.other a b then max (cell l.fn.self.most a b) (raised l.by (cell l.fn.self.ahead a b)) else cell l.fn.self.most a b);
}
