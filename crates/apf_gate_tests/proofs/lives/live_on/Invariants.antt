use Rattle.std.proofs.Common.{◌≡◌}
use Rattle.apf_gate.specs.Tokens.{pass_gate}
use Rattle.apf_gate_tests.proofs.lives.live_on.Given as goal

abbrev pub invariant-loop-round : goal.invariant-loop-round
invariant-loop-round l = pass_gate l.request.pass ≡ l.gate
