-- The sums so far.
use Rattle.std.proofs.Common.{◌≡◌, ◌+◌, ◌*◌, ◌≤◌, ◌^◌}
use Rattle.std.specs.Prelude.{map}
use Rattle.std.specs.List.{range_with_len}
use Rattle.apf_picture.specs.Changes.{sum_of_first}
use Rattle.apf_picture.proofs.totals.sums.Given as goal

abbrev pub invariant-loop-change : goal.invariant-loop-change
invariant-loop-change l = record {
  sums : l.sums.items ≡ map (sum_of_first l.changes) (range_with_len 0 (l.change-index + 1));
  total : l.total ≡ sum_of_first l.changes l.change-index;
  few : l.total ≤ l.change-index * 2 ^ 32;
}
