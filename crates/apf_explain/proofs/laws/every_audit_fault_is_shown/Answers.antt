use Rattle.apf_explain.proofs.AuditFaults.{line_shown}
use Rattle.apf_explain.proofs.laws.every_audit_fault_is_shown.Goals as goal

pub returns : goal.returns
returns c = line_shown
