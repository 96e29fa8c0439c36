-- The Station stays the gate's.
use Rattle.std.proofs.Common.{◌≡◌}
use Rattle.apf_gate.specs.Tokens.{station_gate}
use Rattle.apf_book_tests.proofs.serving.cancel.Given as goal

abbrev pub invariant-loop-request : goal.invariant-loop-request
invariant-loop-request g l = station_gate l.station ≡ l.gate
