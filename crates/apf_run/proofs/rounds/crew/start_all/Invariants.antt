-- The workers that were started are expected to give back as many slots as they have.
use Rattle.std.proofs.Common.{◌≡◌, ◌+◌, length, All}
use Rattle.std.specs.Vec.Iter.{into_iter_items}
use Rattle.apf_run.specs.RoundsWorkers.{IsReady, held}
use Rattle.apf_run.specs.Crews.{expected}
use Rattle.apf_run.proofs.rounds.crew.start_all.Given as goal

abbrev pub invariant-loop-worker : goal.invariant-loop-worker
invariant-loop-worker g l =
    record {
      next : (goal.iterator-loop-worker g).can_next l.worker-iterator;
      ends : (goal.iterator-loop-worker g).is_finite l.worker-iterator;
      number : l.number + length (into_iter_items l.worker-iterator) ≡ length l.fn.workers.items;
      count : length l.handles.items ≡ l.number;
      expected_so_far : expected l.handles.items + held (into_iter_items l.worker-iterator) ≡ held l.fn.workers.items;
      ready : All IsReady (into_iter_items l.worker-iterator);
    }
