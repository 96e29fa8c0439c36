use Rattle.std.proofs.Common.{◌≡◌, ◌+◌, length, false}
use Rattle.apf_request_lines.specs.Pairs.{text_end}
use Rattle.apf_request_lines.proofs.pairs.end_of_text.Given as goal

abbrev pub invariant-loop-rest : goal.invariant-loop-rest
invariant-loop-rest l = record {
  end : text_end l.place l.is_taken l.rest ≡ text_end 0 false l.bytes;
  within : l.place + length l.rest ≡ length l.bytes;
}

abbrev pub decreases-loop-rest : goal.decreases-loop-rest
decreases-loop-rest l = length l.rest
