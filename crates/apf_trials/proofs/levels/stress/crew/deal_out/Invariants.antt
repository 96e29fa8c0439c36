-- Each Pass that is left is fresh, and the level's.
use Rattle.std.proofs.Common.{◌≡◌, length, All}
use Rattle.apf_gate.specs.declared.record.State.TheVariants.{Fresh}
use Rattle.apf_gate.specs.Tokens.{pass_gate}
use Rattle.apf_trials.proofs.levels.stress.crew.deal_out.Given as goal

abbrev pub invariant-loop-pass : goal.invariant-loop-pass
invariant-loop-pass g l = All (λ t. (pass_gate t ≡ g.K.Naming.level.gate) × (t.pass.state ≡ Fresh)) l.passes.items

abbrev pub decreases-loop-pass : goal.decreases-loop-pass
decreases-loop-pass g l = length l.passes.items
