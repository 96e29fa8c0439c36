use Rattle.std.proofs.Common.{◌≡◌, ◌≤◌, ℕ, take}
use Rattle.apf_gate.specs.Counted.{AreCounts, total}
use Rattle.apf_gate.specs.LifeEnds.{presents}
use Rattle.apf_gate.proofs.life_end.counts_now.Given as goal

abbrev pub invariant-loop-slot : goal.invariant-loop-slot
invariant-loop-slot l = record {
  same : l.decisions ≡ l.fn.decisions;
  counts : (current : ℕ → ℕ) → AreCounts l.counts (presents current 0 (take l.slot l.decisions));
  small : total l.counts ≤ l.slot;
}
