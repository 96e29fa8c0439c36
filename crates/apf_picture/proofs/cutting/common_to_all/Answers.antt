-- At first it shares all with itself.
use Rattle.std.proofs.Common.{arith}
use Rattle.apf_picture.specs.Rows.{label_in}
use Rattle.std.specs.Prelude.{map}
use Rattle.apf_picture.proofs.Beginnings.{at_most_all}
use Rattle.apf_picture.proofs.cutting.common_to_all.Goals as goal

pub loop-row-init : goal.loop-row-init
loop-row-init c = record {
  all = omega (arith, at_most_all c.args.first.now (map label_in c.args.rows.now));
  within = omega arith;
}
