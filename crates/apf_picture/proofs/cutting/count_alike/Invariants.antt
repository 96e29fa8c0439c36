-- Those of the rows so far.
use Rattle.std.proofs.Common.{◌≡◌, ◌≤◌, map, take}
use Rattle.std.specs.Prelude.{count_by}
use Rattle.apf_picture.specs.Labels.{called}
use Rattle.apf_picture.specs.Rows.{label_in}
use Rattle.apf_picture.specs.Cuttings.{are_alike}
use Rattle.apf_picture.proofs.cutting.count_alike.Given as goal

abbrev pub invariant-loop-row : goal.invariant-loop-row
invariant-loop-row l = record {
  count : l.count ≡ count_by (are_alike l.left_out l.place (called l.label)) (map label_in (take l.row-index l.rows));
  within : l.count ≤ l.row-index;
}
