-- One line of a script, and what stands there where it has a fault.
use Rattle.std.specs.Prelude.{◌≡◌, ◌⊎◌, ⊤, ℕ, zero, suc, ◌-◌, List, [], ◌∷◌, ◌++◌, nat_eq, if◌then◌else◌, Option, Some, None, option_and_then}
use Rattle.apf_files.specs.ScriptFile.{command_of, lf, line_of}
use Rattle.apf_files.specs.declared.script.Command.{Command}
use Rattle.apf_files.specs.declared.script.Command.TheVariants.{Arrive, Finish, Cancel, Close, Limit}
use Rattle.apf_files.specs.declared.script.InScript.{InScript}
use Rattle.apf_files.specs.declared.script.InScript.TheVariants as found
use Rattle.apf_files.specs.declared.script.ScriptFault.{ScriptFault}
use Rattle.apf_files.specs.declared.script.ScriptFault.TheVariants as script

-- the line that comes after this many others, without its LF, where these bytes of the first one were read
abbrev pub line_from : ℕ → List ℕ → List ℕ → Option (List ℕ)
line_from earlier begun [] = None
line_from zero begun (b ∷ bytes) = if nat_eq b lf then Some begun else line_from zero (begun ++ b ∷ []) bytes
line_from (suc earlier) begun (b ∷ bytes) =
    if nat_eq b lf then line_from earlier [] bytes else line_from (suc earlier) (begun ++ b ∷ []) bytes

-- the line of this number, from 1
abbrev pub line_of_number : ℕ → List ℕ → Option (List ℕ)
line_of_number number bytes = line_from (number - 1) [] bytes

-- the number that a command has
abbrev pub number_in : Command → Option ℕ
number_in (Arrive n) = Some n
number_in (Finish n) = Some n
number_in (Cancel n) = Some n
number_in Close = None
number_in (Limit n) = Some n

-- the number of a line's command, if it has one
abbrev pub number_at : List ℕ → Option ℕ
number_at line = option_and_then number_in (command_of line)

-- the line that was found
abbrev pub found_line : InScript → Option (List ℕ)
found_line found.Nothing = None
found_line (found.Line line) = Some line.now
found_line (found.Number n) = None

-- the number of a command that was found
abbrev pub found_number : InScript → Option ℕ
found_number found.Nothing = None
found_number (found.Line line) = None
found_number (found.Number n) = Some n

-- the fault is that of the number of the command of this line
abbrev pub IsOfNumber : ℕ → ScriptFault → Type 0
IsOfNumber line fault = (fault ≡ script.UnknownRequest line) ⊎ (fault ≡ script.BadLimit line)

-- what the fault of this line tells was found there: of a bad line the line, and of a number that is bad the number
abbrev pub IsFoundIn : Option (List ℕ) → ScriptFault → InScript → Type 0
IsFoundIn line (script.BadLine number) it = found_line it ≡ line
IsFoundIn line (script.UnknownRequest number) it = found_number it ≡ option_and_then number_at line
IsFoundIn line (script.BadLimit number) it = found_number it ≡ option_and_then number_at line
IsFoundIn line fault it = ⊤

-- the same of the line of these bytes that the fault names
abbrev pub IsFoundAt : List ℕ → ScriptFault → InScript → Type 0
IsFoundAt bytes fault it = IsFoundIn (option_and_then (λ (number : ℕ). line_of_number number bytes) (line_of fault)) fault it
