-- No queue was looked at so far: the number after the last one stands for a queue that is given nothing.
use Rattle.std.proofs.Common.{arith}
use Rattle.std.proofs.Math.ListN.{get_or-eq_default}
use Rattle.apf_book.proofs.overtaking.most_of_others.Goals as goal

pub loop-place-init : goal.loop-place-init
loop-place-init c = record {
  others = λ k l. absurd (omega arith);
  one_other = (1024, (λ e. let low = c.requires in omega arith), get_or-eq_default c.args.services.now 0 (omega arith));
}
