use Rattle.apf_protocol.proofs.ReadRight.{read_right}
use Rattle.apf_protocol.proofs.laws.every_form_is_its_line.Goals as goal

pub returns : goal.returns
returns c = read_right
