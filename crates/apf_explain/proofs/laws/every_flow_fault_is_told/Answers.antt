use Rattle.apf_explain.proofs.RequestFaults.{flow_told}
use Rattle.apf_explain.proofs.laws.every_flow_fault_is_told.Goals as goal

pub returns : goal.returns
returns c = flow_told
