-- The bins of the same spans, no more often twice as long than is wanted.
use Rattle.std.proofs.Common.{◌-◌, ◌≤◌, max}
use Rattle.apf_strips.specs.Series.{IsWidened}
use Rattle.apf_strips.proofs.series.Series.widen_to.Given as goal

abbrev pub invariant-loop-self : goal.invariant-loop-self
invariant-loop-self l = record {
  few : l.self.doublings ≤ max l.fn.self.doublings l.doublings;
  more : l.fn.self.doublings ≤ l.self.doublings;
  same : IsWidened l.fn.self l.self.doublings l.self;
}

abbrev pub decreases-loop-self : goal.decreases-loop-self
decreases-loop-self l = l.doublings - l.self.doublings
