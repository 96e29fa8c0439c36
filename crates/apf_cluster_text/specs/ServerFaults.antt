-- The line of a fault of a server's own log.
use Rattle.std.specs.Prelude.{ℕ, List, ◌++◌, Option, Some, None, codes, decimal}
use Rattle.apf_request_lines.specs.declared.fault.RequestLineFault.{RequestLineFault}
use Rattle.apf_request_lines.specs.declared.fault.RequestLineFault.TheVariants.{NoMemory, Unended, NotOfKind, TooLong}
use Rattle.apf_request_lines.specs.declared.key.Key.{Key}
use Rattle.apf_request_lines.specs.declared.key.Key.TheVariants.{AuditId, Schema, Level, Seats, FinalSeats, ExecutionTime, AdditionalLatency}
use Rattle.apf_request_lines.specs.Lines.{written_at}
use Rattle.apf_request_lines.specs.Pairs.{name_of}
use Rattle.apf_cluster_text.specs.Said.{said_text}

-- the number of a fault; a line that is refused for want of memory has none
abbrev pub number_of : RequestLineFault → ℕ
number_of NoMemory = 0
number_of Unended = 1
number_of (NotOfKind key) = 2
number_of TooLong = 3

-- the number of a fault, and that of its line
unfoldable pub place_text : ℕ → RequestLineFault → List ℕ
place_text number fault = codes "apf: server log fault " ++ (decimal (number_of fault) ++ (codes " at line " ++ (decimal number ++ codes ": ")))

-- the value that a key has in a line, if it has one
abbrev pub value_text : Option (List ℕ) → List ℕ
value_text (Some bytes) = said_text bytes
value_text None = codes "absent"

-- a key, and what its value is in this line
unfoldable pub found_text : Key → List ℕ → List ℕ
found_text key line = name_of key ++ (codes " is " ++ value_text (written_at key line))

-- what the value of a key has to be
abbrev pub wanted_of : Key → List ℕ
wanted_of AuditId = codes ": it must be a text as Go quotes one"
wanted_of Schema = codes ": it must be a text as Go quotes one"
wanted_of Level = codes ": it must be a text as Go quotes one"
wanted_of Seats = codes ": it must be a whole number from 0 to 10000"
wanted_of FinalSeats = codes ": it must be a whole number from 0 to 10000"
wanted_of ExecutionTime = codes ": it must be a time as 1.5s or 20ms, from 0 to 10000 seconds"
wanted_of AdditionalLatency = codes ": it must be a time as 1.5s or 20ms, from 0 to 10000 seconds"

-- the value of a key is none of its kind
unfoldable pub not_of_kind_text : Key → List ℕ → List ℕ
not_of_kind_text key line = found_text key line ++ wanted_of key

-- the two times are too long together
unfoldable pub too_long_text : List ℕ → List ℕ
too_long_text line =
    found_text ExecutionTime line ++ (codes " and " ++ (found_text AdditionalLatency line ++ codes ": together they must be at most 10000 seconds"))

-- what is wrong with this line
abbrev pub reason_text : List ℕ → RequestLineFault → List ℕ
reason_text line NoMemory = codes "out of memory"
reason_text line Unended = codes "a value begins with a quote, and no quote ends it"
reason_text line (NotOfKind key) = not_of_kind_text key line
reason_text line TooLong = too_long_text line

-- the line of a fault of the line of this number
unfoldable pub fault_text : ℕ → List ℕ → RequestLineFault → List ℕ
fault_text number line fault = place_text number fault ++ (reason_text line fault ++ codes "\n")
