-- The flows so far have their places.
use Rattle.std.proofs.Common.{◌≡◌, map}
use Rattle.std.specs.List.{range_with_len}
use Rattle.apf_rows.specs.Comparisons.{place_of}
use Rattle.apf_rows.proofs.comparison.places.Given as goal

abbrev pub invariant-loop-flow : goal.invariant-loop-flow
invariant-loop-flow l = l.all.items ≡ map (place_of l.lines l.others) (range_with_len 0 l.flow)
