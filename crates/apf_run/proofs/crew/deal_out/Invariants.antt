-- The workers have as many Passes as are gone; each that is left did not arrive.
use Rattle.std.proofs.Common.{◌≡◌, ◌+◌, [], length, All}
use Rattle.apf_run.specs.Workers.{Load, IsFresh, held}
use Rattle.apf_run.proofs.crew.deal_out.Given as goal

abbrev pub invariant-loop-pass : goal.invariant-loop-pass
invariant-loop-pass g l =
    (length l.workers.items ≡ length l.fn.stations.items)
    × (held l.workers.items + length l.passes.items ≡ length l.fn.passes.items)
    × All (IsFresh g.K.Naming.level.gate) l.passes.items
    × All (λ (w : Load). w.dones ≡ []) l.workers.items

abbrev pub decreases-loop-pass : goal.decreases-loop-pass
decreases-loop-pass g l = length l.passes.items
