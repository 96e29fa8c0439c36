-- The bins of the same spans.
use Rattle.std.proofs.Common.{◌-◌}
use Rattle.apf_strips.specs.Limits.{most_doublings}
use Rattle.apf_strips.specs.Series.{IsWidened}
use Rattle.apf_strips.proofs.series.Series.widen_until.Given as goal

abbrev pub invariant-loop-self : goal.invariant-loop-self
invariant-loop-self l = IsWidened l.fn.self l.self.doublings l.self

abbrev pub decreases-loop-self : goal.decreases-loop-self
decreases-loop-self l = most_doublings - l.self.doublings
