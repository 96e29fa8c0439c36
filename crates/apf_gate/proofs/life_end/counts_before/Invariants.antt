use Rattle.std.proofs.Common.{◌≡◌, ◌≤◌, ◌*◌, ◌^◌, take}
use Rattle.apf_gate.specs.Counted.{AreCounts, total}
use Rattle.apf_gate.specs.LifeEnds.{pasts}
use Rattle.apf_gate.proofs.life_end.counts_before.Given as goal

abbrev pub invariant-loop-place : goal.invariant-loop-place
invariant-loop-place l = record {
  same : l.passes ≡ l.fn.passes;
  counts : AreCounts l.counts (pasts (take l.place l.passes));
  small : total l.counts ≤ l.place * 2 ^ 46;
}
