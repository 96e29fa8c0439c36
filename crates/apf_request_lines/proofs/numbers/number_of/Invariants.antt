use Rattle.std.proofs.Common.{◌≡◌, ◌<◌, ◌^◌, length}
use Rattle.apf_request_lines.specs.Numbers.{number_from}
use Rattle.apf_request_lines.proofs.numbers.number_of.Given as goal

abbrev pub invariant-loop-rest : goal.invariant-loop-rest
invariant-loop-rest l = record {
  value : number_from l.number l.rest ≡ number_from 0 l.digits;
  below : l.number < 10 ^ 18;
}

abbrev pub decreases-loop-rest : goal.decreases-loop-rest
decreases-loop-rest l = length l.rest
