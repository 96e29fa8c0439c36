-- The rows so far.
use Rattle.apf_picture.specs.Labels.{label_at}
use Rattle.apf_picture.specs.Rows.{AreRows}
use Rattle.apf_picture.proofs.row.first_rows.Given as goal

abbrev pub invariant-loop-row : goal.invariant-loop-row
invariant-loop-row l = AreRows l.lives (label_at l.trace l.firsts l.own l.is_shared) l.row l.rows.items
