-- The best of the pairs so far.
use Rattle.apf_bound.specs.Pairs.{cell}
use Rattle.apf_bound.specs.Stretched.{IsBestOf, IsPairUntil}
use Rattle.apf_bound.proofs.stretches.Stretches.further.Given as goal

abbrev pub invariant-loop-other : goal.invariant-loop-other
invariant-loop-other l = IsBestOf (cell l.self.most) (IsPairUntil l.self l.busy l.other) l.best
