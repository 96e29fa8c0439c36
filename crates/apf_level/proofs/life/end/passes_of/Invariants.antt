-- Each slot so far gave its Pass, in their order.
use Rattle.std.proofs.Common.{◌≡◌, ◌++◌, All}
use Rattle.std.specs.Vec.Iter.{into_iter_items}
use Rattle.apf_line.specs.Tokens.{IsDone}
use Rattle.apf_level.proofs.life.end.passes_of.Given as goal

abbrev pub invariant-loop-slot : goal.invariant-loop-slot
invariant-loop-slot l =
    record {
      all : l.passes.items ++ into_iter_items l.slot-iterator ≡ l.fn.slots.items;
      done : All IsDone l.passes.items;
    }
