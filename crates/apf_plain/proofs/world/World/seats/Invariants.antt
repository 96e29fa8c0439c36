-- The seats so far.
use Rattle.std.proofs.Common.{◌≡◌}
use Rattle.apf_history.specs.Tally.{tally}
use Rattle.apf_model.specs.World.{seats_at, width}
use Rattle.apf_plain.specs.Stages.{stage_in}
use Rattle.apf_plain.proofs.world.World.seats.Given as goal

abbrev pub invariant-loop-request : goal.invariant-loop-request
invariant-loop-request l = l.seats ≡ tally (λ r. seats_at (stage_in l.self.stages.items r) (width l.self.widths.items r)) l.request
