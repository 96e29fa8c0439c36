use Rattle.apf_stream.proofs.Honouring.{are_honoured}
use Rattle.apf_stream.proofs.laws.every_request_is_honoured.Goals as goal

pub returns : goal.returns
returns c = are_honoured
