-- The characters so far are shared, and as many of what is left.
use Rattle.std.proofs.Common.{◌≡◌, ◌+◌, drop}
use Rattle.apf_picture.specs.Cuttings.{common}
use Rattle.apf_picture.proofs.cutting.common.Given as goal

abbrev pub invariant-loop-place : goal.invariant-loop-place
invariant-loop-place l = common (drop l.place l.one) (drop l.place l.other) + l.place ≡ common l.one l.other
