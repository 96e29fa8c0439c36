-- What is shared so far, and with what is left.
use Rattle.std.proofs.Common.{◌≡◌, ◌≤◌, min, map, drop, length}
use Rattle.apf_picture.specs.Rows.{label_in}
use Rattle.apf_picture.specs.Cuttings.{common_to_all}
use Rattle.apf_picture.proofs.cutting.common_to_all.Given as goal

abbrev pub invariant-loop-row : goal.invariant-loop-row
invariant-loop-row l = record {
  all : min l.common (common_to_all l.first (map label_in (drop l.row-index l.rows))) ≡ common_to_all l.first (map label_in l.rows);
  within : l.common ≤ length l.first;
}
