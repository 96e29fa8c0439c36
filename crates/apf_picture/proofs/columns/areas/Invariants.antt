-- The areas so far.
use Rattle.std.proofs.Common.{◌≡◌, map}
use Rattle.std.specs.Prelude.{All}
use Rattle.apf_picture.specs.Columns.{IsArea, row_in}
use Rattle.std.proofs.Common.{◌++◌, ◌-◌, reverse}
use Rattle.std.specs.List.{range_with_len}
use Rattle.apf_picture.proofs.columns.areas.Given as goal

abbrev pub invariant-loop-place : goal.invariant-loop-place
invariant-loop-place l = record {
  areas : All (IsArea l.lives l.end) l.areas.items;
  rows : map row_in l.areas.items ++ reverse (range_with_len 0 (l.rows - l.place)) ≡ reverse (range_with_len 0 l.rows);
}
