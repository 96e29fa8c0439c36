use Rattle.apf_model.proofs.Sums.{moved, waiters-le-length, nobody_waits, nobody_stands}
use Rattle.apf_model.proofs.laws.every_world_adds_up.Goals as goal

pub returns : goal.returns
returns c = λ widths w. record {
  change = moved widths w;
  few_wait = waiters-le-length widths w;
  nobody_waits = nobody_waits widths w;
  nobody_stands = nobody_stands widths w;
}
