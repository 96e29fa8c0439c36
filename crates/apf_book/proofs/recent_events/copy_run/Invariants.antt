use Rattle.std.proofs.Common.{◌≡◌, take, drop, length}
use Rattle.apf_book.proofs.recent_events.copy_run.Given as goal

abbrev pub invariant-loop-i : goal.invariant-loop-i
invariant-loop-i g l =
    record {
      room : length l.into ≡ length l.fn.into;
      copied : take l.i l.into ≡ take l.i (drop l.fn.skipped l.fn.newest.items);
    }
