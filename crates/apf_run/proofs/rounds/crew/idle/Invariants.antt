-- The workers so far have nothing, and there are as many as Stations that are gone.
use Rattle.std.proofs.Common.{◌≡◌, ◌+◌, length, All}
use Rattle.std.specs.Vec.Iter.{into_iter_items}
use Rattle.apf_session.specs.Openings.{IsNew}
use Rattle.apf_run.specs.RoundsWorkers.{IsIdle}
use Rattle.apf_run.proofs.rounds.crew.idle.Given as goal

abbrev pub invariant-loop-station : goal.invariant-loop-station
invariant-loop-station g l =
    record {
      next : (goal.iterator-loop-station g).can_next l.station-iterator;
      ends : (goal.iterator-loop-station g).is_finite l.station-iterator;
      count : length l.workers.items + length (into_iter_items l.station-iterator) ≡ length l.fn.stations.items;
      rest : All (IsNew g.K.Naming.level.gate) (into_iter_items l.station-iterator);
      idle : All IsIdle l.workers.items;
    }
