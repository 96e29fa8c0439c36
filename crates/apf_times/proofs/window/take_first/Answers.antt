-- The first of all leaves.
use Rattle.std.proofs.Common.{heap_items, refl}
use Rattle.apf_times.proofs.Windows.{late_leaves}
use Rattle.apf_times.proofs.window.take_first.Goals as goal

pub returns-then-is_late_first-clause-taken : goal.returns-then-is_late_first-clause-taken
returns-then-is_late_first-clause-taken g c =
    late_leaves c.args.in_order.now.items (heap_items c.args.late.now) (heap_items c.pop.new.self) c.in_ok-first.field-0 c.in_ok-first.ensures.permutation
    (c.if-is_late_first.ensures.late refl c.in_ok-first.field-0 c.in_ok-first.ensures.top) (c.in_ok-first.ensures.below_top c.requires.heap)
