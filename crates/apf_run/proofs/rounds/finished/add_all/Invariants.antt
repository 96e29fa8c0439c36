-- The slots so far were added, in their order, and each that is left is over.
use Rattle.std.proofs.Common.{◌≡◌, ◌++◌, All}
use Rattle.std.specs.Vec.Iter.{into_iter_items}
use Rattle.apf_line.specs.Tokens.{IsDone}
use Rattle.apf_run.proofs.rounds.finished.add_all.Given as goal

abbrev pub invariant-loop-slot : goal.invariant-loop-slot
invariant-loop-slot l =
    record {
      next : goal.iterator-loop-slot.can_next l.slot-iterator;
      ends : goal.iterator-loop-slot.is_finite l.slot-iterator;
      all : l.dones.items ++ into_iter_items l.slot-iterator ≡ l.fn.dones.items ++ l.fn.slots.items;
      over : All IsDone (into_iter_items l.slot-iterator);
    }
