use Rattle.std.proofs.Common.{◌≡◌, length}
use Rattle.apf_request_lines.specs.Numbers.{hex_from}
use Rattle.apf_request_lines.proofs.numbers.hex_number.Given as goal

abbrev pub invariant-loop-rest : goal.invariant-loop-rest
invariant-loop-rest l = hex_from l.number l.rest ≡ hex_from 0 l.digits

abbrev pub decreases-loop-rest : goal.decreases-loop-rest
decreases-loop-rest l = length l.rest
