-- The pairs so far, and those of what is left.
use Rattle.std.proofs.Common.{◌≡◌, ◌+◌, ◌*◌, ◌≤◌, map, drop}
use Rattle.apf_picture.specs.Rows.{label_in}
use Rattle.apf_picture.specs.Cuttings.{clashes}
use Rattle.apf_picture.proofs.cutting.clashes.Given as goal

abbrev pub invariant-loop-number : goal.invariant-loop-number
invariant-loop-number l = record {
  all : clashes l.left_out l.place (map label_in (drop l.number l.rows)) + l.clashes ≡ clashes l.left_out l.place (map label_in l.rows);
  few : l.clashes ≤ 13 * l.number;
}
