-- The greatest so far, and of the others.
use Rattle.std.proofs.Common.{◌≡◌, drop, max}
use Rattle.apf_cluster_picture.specs.Means.{greatest}
use Rattle.apf_cluster_picture.proofs.means.greatest.Given as goal

abbrev pub invariant-loop-sum : goal.invariant-loop-sum
invariant-loop-sum l = max (greatest (drop l.sum-index l.sums)) l.most ≡ greatest l.sums
