-- The workers have as many slots as are gone, of which no request came, nor of one that is left.
use Rattle.std.proofs.Common.{◌≡◌, ◌+◌, length, All}
use Rattle.std.specs.Vec.Iter.{into_iter_items}
use Rattle.apf_session.specs.LifeOpenings.{IsFirstOf}
use Rattle.apf_run.specs.RoundsWorkers.{IsReady, held}
use Rattle.apf_run.proofs.rounds.crew.deal_out.Given as goal

abbrev pub invariant-loop-slot : goal.invariant-loop-slot
invariant-loop-slot g l =
    record {
      next : (goal.iterator-loop-slot g).can_next l.slot-iterator;
      ends : (goal.iterator-loop-slot g).is_finite l.slot-iterator;
      count : length l.workers.items ≡ length l.fn.stations.items;
      dealt : held l.workers.items + length (into_iter_items l.slot-iterator) ≡ length l.fn.slots.items;
      first : All (IsFirstOf g.K.Naming.level.gate) (into_iter_items l.slot-iterator);
      ready : All IsReady l.workers.items;
    }
