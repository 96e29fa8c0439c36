use Rattle.std.proofs.Common.{◌≡◌}
use Rattle.apf_gate.specs.Tokens.{pass_gate}
use Rattle.apf_gate_tests.proofs.lives.take.Given as goal

abbrev pub invariant-loop-turn : goal.invariant-loop-turn
invariant-loop-turn l = pass_gate l.request.pass ≡ l.gate
