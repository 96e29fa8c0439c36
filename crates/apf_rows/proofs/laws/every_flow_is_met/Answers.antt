use Rattle.apf_rows.proofs.Meeting.{is_met}
use Rattle.apf_rows.proofs.laws.every_flow_is_met.Goals as goal

pub returns : goal.returns
returns c = is_met
