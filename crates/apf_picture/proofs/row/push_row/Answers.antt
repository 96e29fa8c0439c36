-- The row that was added.
use Rattle.std.proofs.Common.{ap}
use Rattle.apf_picture.specs.Labels.{called}
use Rattle.apf_picture.proofs.row.push_row.Goals as goal

pub returns : goal.returns
returns c = record { row = c.in_ok-of.field-0; is = c.in_ok-push.ensures.items; has = c.in_ok-of.ensures.row; number_is = c.in_ok-of.ensures.number; label_is = ap called c.in_ok-of.ensures.label }
