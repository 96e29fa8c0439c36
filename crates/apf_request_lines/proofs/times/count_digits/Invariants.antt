use Rattle.std.proofs.Common.{◌≡◌, ◌+◌, length}
use Rattle.apf_request_lines.specs.Times.{digits}
use Rattle.apf_request_lines.proofs.times.count_digits.Given as goal

abbrev pub invariant-loop-rest : goal.invariant-loop-rest
invariant-loop-rest l = record {
  count : l.count + digits l.rest ≡ digits l.bytes;
  within : l.count + length l.rest ≡ length l.bytes;
}

abbrev pub decreases-loop-rest : goal.decreases-loop-rest
decreases-loop-rest l = length l.rest
