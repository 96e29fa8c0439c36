-- The waits so far were counted.
use Rattle.std.proofs.Common.{◌≡◌, take, reverse}
use Rattle.apf_times.specs.Waits.{AreCounted}
use Rattle.apf_times.proofs.waits.counted.Given as goal

abbrev pub invariant-loop-wait : goal.invariant-loop-wait
invariant-loop-wait g l = record {
  total : l.counts.total ≡ l.wait-index;
  counted : AreCounted (reverse (take l.wait-index l.waits)) l.counts;
}
