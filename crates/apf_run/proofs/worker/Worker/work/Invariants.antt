-- What is left and what came to its end are the worker's, and are as many as it had.
use Rattle.std.proofs.Common.{◌≡◌, ◌+◌, length}
use Rattle.apf_run.specs.Workers.{IsLoadOf}
use Rattle.apf_run.proofs.worker.Worker.work.Given as goal

abbrev pub invariant-loop-pass : goal.invariant-loop-pass
invariant-loop-pass g l =
    IsLoadOf g.K.Naming.level.gate g.K.Plan.requests (record { station = l.operator; passes = l.passes.items; dones = l.dones.items })
    × (length l.dones.items + length l.passes.items ≡ length l.fn.self.dones + length l.fn.self.passes)

abbrev pub decreases-loop-pass : goal.decreases-loop-pass
decreases-loop-pass g l = length l.passes.items
