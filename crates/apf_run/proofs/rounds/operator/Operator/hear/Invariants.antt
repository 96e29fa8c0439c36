-- The Station keeps knowing what it knew.
use Rattle.apf_run.specs.RoundsWorkers.{KeepsKnowing}
use Rattle.apf_run.proofs.rounds.operator.Operator.hear.Given as goal

abbrev pub invariant-loop : goal.invariant-loop
invariant-loop g l =
    record {
      next : (goal.iterator-loop g).can_next l.iterator';
      ends : (goal.iterator-loop g).is_finite l.iterator';
      knows : KeepsKnowing l.fn.self l.self;
    }
