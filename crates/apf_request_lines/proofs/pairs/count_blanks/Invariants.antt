use Rattle.std.proofs.Common.{◌≡◌, ◌+◌, length}
use Rattle.apf_request_lines.specs.Pairs.{blanks}
use Rattle.apf_request_lines.proofs.pairs.count_blanks.Given as goal

abbrev pub invariant-loop-rest : goal.invariant-loop-rest
invariant-loop-rest l = record {
  count : l.count + blanks l.rest ≡ blanks l.bytes;
  within : l.count + length l.rest ≡ length l.bytes;
}

abbrev pub decreases-loop-rest : goal.decreases-loop-rest
decreases-loop-rest l = length l.rest
