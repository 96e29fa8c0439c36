use Rattle.apf_explain.proofs.TraceFaults.{trace_shown}
use Rattle.apf_explain.proofs.laws.every_trace_fault_is_shown.Goals as goal

pub returns : goal.returns
returns c = trace_shown
