-- Between two tries the Pass is still fresh, and of this gate.
use Rattle.std.proofs.Common.{◌≡◌}
use Rattle.apf_gate.specs.declared.record.State.TheVariants.{Fresh}
use Rattle.apf_gate.specs.Tokens.{pass_gate}
use Rattle.apf_trials.proofs.bench.gated.serve.Given as goal

abbrev pub invariant-loop-turn : goal.invariant-loop-turn
invariant-loop-turn l = (pass_gate l.pass ≡ l.gate) × (l.pass.pass.state ≡ Fresh)
