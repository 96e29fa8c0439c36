-- The best of the pairs so far.
use Rattle.apf_bound.specs.Pairs.{cell}
use Rattle.apf_bound.specs.Stretched.{IsBestOf, IsPairBelow}
use Rattle.apf_bound.proofs.stretches.Stretches.furthest.Given as goal

abbrev pub invariant-loop-busy : goal.invariant-loop-busy
invariant-loop-busy l = IsBestOf (cell l.self.most) (IsPairBelow l.self l.busy) l.best
