use Rattle.apf_protocol.proofs.EveryLine.{every_line}
use Rattle.apf_protocol.proofs.laws.every_line_of_a_form_is_read.Goals as goal

pub returns : goal.returns
returns c = every_line
