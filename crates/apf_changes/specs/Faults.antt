-- The faults of changes: their numbers.
use Rattle.std.specs.Prelude.{ℕ}
use Rattle.apf_changes.specs.declared.fault.ChangeFault.{ChangeFault}
use Rattle.apf_changes.specs.declared.fault.ChangeFault.TheVariants.{NoValue, UnknownKey, BadValue, NoLevel, NoSchema, Dangling, Exempt, NoQueues, NoNumber, OutOfBounds, NoMemory}

-- the fault's number
abbrev pub change_fault_number : ChangeFault → ℕ
change_fault_number NoValue = 1
change_fault_number UnknownKey = 2
change_fault_number (BadValue wanted) = 3
change_fault_number NoLevel = 4
change_fault_number NoSchema = 5
change_fault_number Dangling = 6
change_fault_number Exempt = 7
change_fault_number NoQueues = 8
change_fault_number NoNumber = 9
change_fault_number (OutOfBounds number bounds) = 10
change_fault_number NoMemory = 11
