use Rattle.std.proofs.Common.{◌≡◌, ◌-◌, length}
use Rattle.apf_request_lines.specs.Pairs.{value_among}
use Rattle.apf_request_lines.proofs.pairs.find.Given as goal

abbrev pub invariant-loop : goal.invariant-loop
invariant-loop l = value_among (length l.bytes - l.counter) l.key l.rest ≡ value_among (length l.bytes) l.key l.bytes
