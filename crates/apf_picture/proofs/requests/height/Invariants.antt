-- The heights so far.
use Rattle.std.proofs.Common.{◌≡◌, ◌*◌, ◌≤◌, ◌^◌, take}
use Rattle.std.specs.Prelude.{sum_by}
use Rattle.apf_picture.specs.Bars.{height_of}
use Rattle.apf_picture.proofs.requests.height.Given as goal

abbrev pub invariant-loop-row : goal.invariant-loop-row
invariant-loop-row l = record {
  height : l.height ≡ sum_by height_of (take l.row-index l.rows);
  few : l.height ≤ l.row-index * 2 ^ 33;
}
