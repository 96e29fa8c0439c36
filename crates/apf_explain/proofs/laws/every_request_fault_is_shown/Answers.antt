use Rattle.apf_explain.proofs.RequestFaults.{requests_shown}
use Rattle.apf_explain.proofs.laws.every_request_fault_is_shown.Goals as goal

pub returns : goal.returns
returns c = requests_shown
