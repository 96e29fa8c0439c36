-- The last number so far.
use Rattle.std.proofs.Common.{◌≡◌, length, map}
use Rattle.apf_changes.specs.Scenarios.{assigned_view, last_from, last_of}
use Rattle.apf_changes.proofs.numbers.last_of.Given as goal

abbrev pub invariant-loop-one : goal.invariant-loop-one
invariant-loop-one l = last_from l.last l.name (map assigned_view l.rest) ≡ last_of l.name (map assigned_view l.assigned)

abbrev pub decreases-loop-one : goal.decreases-loop-one
decreases-loop-one l = length l.rest
