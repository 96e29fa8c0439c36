-- The faults of an audit log: their numbers and lines.
use Rattle.std.specs.Prelude.{ℕ, Option, Some, None}
use Rattle.apf_audit.specs.declared.fault.AuditFault.{AuditFault}
use Rattle.apf_audit.specs.declared.fault.AuditFault.TheVariants.{TooLong, NotUtf8Json, NotEvent, BadUser, BadNamespace, BadReceived, BadStage, BadWait, BadRun, BadArrival, NoMemory, TooLate}

-- the fault's number
abbrev pub audit_fault_number : AuditFault → ℕ
audit_fault_number (TooLong line) = 1
audit_fault_number (NotUtf8Json line) = 2
audit_fault_number (NotEvent line) = 3
audit_fault_number (BadUser line) = 4
audit_fault_number (BadReceived line) = 5
audit_fault_number (BadStage line) = 6
audit_fault_number (BadWait line) = 7
audit_fault_number (BadRun line) = 8
audit_fault_number (BadArrival line after) = 10
audit_fault_number NoMemory = 11
audit_fault_number (BadNamespace line) = 12
audit_fault_number (TooLate line) = 13

-- the fault's line
abbrev pub line_of : AuditFault → Option ℕ
line_of (TooLong line) = Some line
line_of (NotUtf8Json line) = Some line
line_of (NotEvent line) = Some line
line_of (BadUser line) = Some line
line_of (BadNamespace line) = Some line
line_of (BadReceived line) = Some line
line_of (BadStage line) = Some line
line_of (BadWait line) = Some line
line_of (BadRun line) = Some line
line_of (BadArrival line after) = Some line
line_of (TooLate line) = Some line
line_of NoMemory = None
