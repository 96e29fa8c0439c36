-- The worker went through its slots as many times, and they are as many as it had.
use Rattle.std.proofs.Common.{◌≡◌, length, All}
use Rattle.apf_run.specs.RoundsWorkers.{IsInRound}
use Rattle.apf_run.proofs.rounds.worker.Worker.work.Given as goal

abbrev pub invariant-loop-before : goal.invariant-loop-before
invariant-loop-before g l =
    record {
      count : length l.worker.slots ≡ length l.fn.self.slots;
      through : All (IsInRound l.before) l.worker.slots;
    }
