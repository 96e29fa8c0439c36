-- The Station stays the gate's.
use Rattle.std.proofs.Common.{◌≡◌}
use Rattle.apf_gate.specs.Tokens.{station_gate}
use Rattle.apf_book_tests.proofs.grants.cancel.Given as goal

abbrev pub invariant-loop-back : goal.invariant-loop-back
invariant-loop-back g l = station_gate l.station ≡ l.gate
