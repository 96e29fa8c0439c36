use Rattle.std.proofs.Common.{◌≡◌, ◌-◌, [], length}
use Rattle.apf_request_lines.specs.Steps.{steps}
use Rattle.apf_request_lines.specs.Texts.{with_piece}
use Rattle.apf_request_lines.proofs.texts.pieces.Given as goal

abbrev pub invariant-loop : goal.invariant-loop
invariant-loop l = steps with_piece (length l.bytes - l.counter) l.text.items l.rest ≡ steps with_piece (length l.bytes) [] l.bytes
