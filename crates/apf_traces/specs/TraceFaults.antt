-- The faults of a trace: their numbers and lines.
use Rattle.std.specs.Prelude.{ℕ, Option, Some, None}
use Rattle.apf_traces.specs.declared.fault.TraceFault.{TraceFault}
use Rattle.apf_traces.specs.declared.fault.TraceFault.TheVariants.{TooMany, TooLong, NotUtf8Json, NotObject, UnknownKey, BadArrival, BadRun, BadFlow, BadWidth, BadCost, Truncated, NoMemory, TooLate}

-- the fault's number
abbrev pub trace_fault_number : TraceFault → ℕ
trace_fault_number (TooMany line) = 1
trace_fault_number (TooLong line) = 2
trace_fault_number (NotUtf8Json line) = 3
trace_fault_number (NotObject line) = 4
trace_fault_number (UnknownKey line) = 5
trace_fault_number (BadArrival line) = 6
trace_fault_number (BadRun line) = 7
trace_fault_number (BadFlow line) = 8
trace_fault_number (BadWidth line) = 9
trace_fault_number (BadCost line) = 10
trace_fault_number (Truncated line) = 11
trace_fault_number NoMemory = 12
trace_fault_number (TooLate line) = 13

-- the fault's line
abbrev pub line_of : TraceFault → Option ℕ
line_of (TooMany line) = Some line
line_of (TooLong line) = Some line
line_of (NotUtf8Json line) = Some line
line_of (NotObject line) = Some line
line_of (UnknownKey line) = Some line
line_of (BadArrival line) = Some line
line_of (BadRun line) = Some line
line_of (BadFlow line) = Some line
line_of (BadWidth line) = Some line
line_of (BadCost line) = Some line
line_of (Truncated line) = Some line
line_of NoMemory = None
line_of (TooLate line) = Some line
