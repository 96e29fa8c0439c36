-- What is wrong with an audit log whose requests are matched.
use Rattle.std.specs.Prelude.{◌≡◌, ℕ, ◌+◌, List, [], ◌∷◌, ◌++◌, length, Bool, true, false, nat_le, bytes_eq, if◌then◌else◌, Option, Some, None, codes, ◌⊎◌}
use Rattle.std.specs.Io.KnownBytes.{Consumes, IsAtEnd}
use Rattle.serde_json.specs.Data.{Data}
use Rattle.serde_json.specs.Find.{get}
use Rattle.apf_files.specs.JsonFile.{text_at, value_of}
use Rattle.apf_traces.specs.TraceFile.{Line, lines_of}
use Rattle.apf_audit.specs.AuditEvent.{name_by}
use Rattle.apf_audit.specs.AuditLog.{is_unfinished, max_line}
use Rattle.apf_cluster_text.specs.declared.events.LogFault.{LogFault}
use Rattle.apf_cluster_text.specs.declared.events.LogFault.TheVariants.{TooLong, NotJson, NotEvent, BadUser, NoMemory, CannotRead, CannotWrite}

-- the fault of an event whose user has this name
abbrev pub fault_of_user : ℕ → Option (List ℕ) → Option LogFault
fault_of_user number None = Some (BadUser number)
fault_of_user number (Some user) = None

-- the fault of an event of this stage and verb: only of a request that is complete the user is asked for
abbrev pub fault_by : ℕ → (stage verb : Option (List ℕ)) → Data → Option LogFault
fault_by number None verb d = Some (NotEvent number)
fault_by number (Some stage) None d = Some (NotEvent number)
fault_by number (Some stage) (Some verb) d =
    if bytes_eq stage (codes "ResponseComplete") then fault_of_user number (name_by d (get (codes "impersonatedUser") d)) else None

-- the fault of the value of the line of this number, if there is one
unfoldable pub value_fault : ℕ → Data → Option LogFault
value_fault number d = fault_by number (text_at (codes "stage") d) (text_at (codes "verb") d) d

-- the same where there may be no value: a line that may still be written has none
abbrev pub fault_in : ℕ → (is_unfinished : Bool) → Option Data → Option LogFault
fault_in number is_unfinished (Some d) = value_fault number d
fault_in number true None = None
fault_in number false None = Some (NotJson number)

-- the fault of the line of this number, if there is one, where it is not too long
abbrev pub short_fault : ℕ → Line → Option LogFault
short_fault number line = fault_in number (is_unfinished line) (value_of line.bytes)

-- the fault of the line of this number, if there is one
unfoldable pub line_fault : ℕ → Line → Option LogFault
line_fault number line = if nat_le (length line.bytes) max_line then short_fault number line else Some (TooLong number)

-- the one fault, or the other where there is none
abbrev pub fault_or : Option LogFault → Option LogFault → Option LogFault
fault_or (Some fault) other = Some fault
fault_or None other = other

-- the first fault of lines, of which the first has this number
abbrev pub first_fault : ℕ → List Line → Option LogFault
first_fault number [] = None
first_fault number (line ∷ lines) = fault_or (line_fault number line) (first_fault (number + 1) lines)

-- the input was read to its end, and no line has a fault
pub record IsMatched (was left : Option (List ℕ)) : Type 0 where
  pub bytes : List ℕ
  pub given : Consumes was left bytes
  pub end : IsAtEnd left
  pub good : first_fault 1 (lines_of bytes) ≡ None

-- the input gave bytes whose first fault this is, whatever comes behind them, or the input is at its end
pub record IsRefused (was left : Option (List ℕ)) (fault : LogFault) : Type 0 where
  pub bytes : List ℕ
  pub given : Consumes was left bytes
  pub first : first_fault 1 (lines_of bytes) ≡ Some fault
  pub stays : ((later : List ℕ) → first_fault 1 (lines_of (bytes ++ later)) ≡ Some fault) ⊎ IsAtEnd left

-- the fault is of memory or of the output
abbrev pub IsOfMachine : LogFault → Type 0
IsOfMachine NoMemory = Unit {0}
IsOfMachine CannotWrite = Unit {0}
IsOfMachine fault = ⊥

-- the fault is this one, if there is one, or of memory or the output
abbrev pub IsToldAt : LogFault → Option LogFault → Type 0
IsToldAt NoMemory own = Unit {0}
IsToldAt CannotWrite own = Unit {0}
IsToldAt fault own = own ≡ Some fault

-- a fault of a line is the first; the others are of memory, the input and the output
abbrev pub IsToldOf : (was left : Option (List ℕ)) → LogFault → Type 0
IsToldOf was left NoMemory = Unit {0}
IsToldOf was left (CannotRead error) = Unit {0}
IsToldOf was left CannotWrite = Unit {0}
IsToldOf was left fault = IsRefused was left fault
