-- Nothing is counted at first.
use Rattle.std.proofs.Common.{arith}
use Rattle.apf_book.proofs.stretch.services.Goals as goal

pub loop-place-init : goal.loop-place-init
loop-place-init c = record {
  of_a = c.nothing-of_a.ensures c.args.widths.now c.args.log.now c.args.from c.args.a;
  of_b = c.nothing-of_b.ensures c.args.widths.now c.args.log.now c.args.from c.args.b;
  some_in_a = λ k f l. absurd (omega arith);
  some_in_b = λ k f l. absurd (omega arith);
}
