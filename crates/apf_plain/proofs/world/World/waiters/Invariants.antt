-- The waiters so far.
use Rattle.std.proofs.Common.{◌≡◌}
use Rattle.apf_history.specs.Tally.{tally}
use Rattle.apf_model.specs.World.{waits_at}
use Rattle.apf_plain.specs.Stages.{stage_in}
use Rattle.apf_plain.proofs.world.World.waiters.Given as goal

abbrev pub invariant-loop-request : goal.invariant-loop-request
invariant-loop-request l = l.waiters ≡ tally (λ r. waits_at (stage_in l.self.stages.items r)) l.request
