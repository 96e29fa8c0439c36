use Rattle.std.proofs.Common.{ℕ, ◌<◌}
use Rattle.apf_model.specs.World.{width}
use Rattle.apf_gate.specs.Opens.{IsWidth}
use Rattle.apf_gate.proofs.open.first_bad.Given as goal

abbrev pub invariant-loop-r : goal.invariant-loop-r
invariant-loop-r l = record {
  good : (j : ℕ) → j < l.r → IsWidth (width l.widths j);
}
