-- What came back so far, and what is expected of the rest, is what was expected.
use Rattle.std.proofs.Common.{◌≡◌, ◌+◌, length}
use Rattle.std.specs.Vec.Iter.{into_iter_items}
use Rattle.apf_run.specs.Crews.{expected}
use Rattle.apf_run.proofs.rounds.crew.join_all.Given as goal

abbrev pub invariant-loop-handle : goal.invariant-loop-handle
invariant-loop-handle g l =
    record {
      next : (goal.iterator-loop-handle g).can_next l.handle-iterator;
      ends : (goal.iterator-loop-handle g).is_finite l.handle-iterator;
      dones : length l.finished.dones + expected (into_iter_items l.handle-iterator) ≡ length l.initial.finished.dones + expected l.fn.handles.items;
      stations : length l.finished.stations + length (into_iter_items l.handle-iterator) ≡ length l.initial.finished.stations + length l.fn.handles.items;
    }
