use Rattle.std.proofs.Common.{◌≡◌}
use Rattle.apf_gate.specs.Tokens.{station_gate}
use Rattle.apf_gate_tests.proofs.lives.cancel_on.Given as goal

abbrev pub invariant-loop-turn : goal.invariant-loop-turn
invariant-loop-turn l = station_gate l.station ≡ l.gate
