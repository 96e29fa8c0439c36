-- What a script file says.
use Rattle.std.specs.Prelude.{ℕ, ◌<◌, ◌≤◌, ⊤, ◌+◌, ◌*◌, ◌-◌, List, [], ◌∷◌, ◌++◌, length, Bool, ◌&&◌, ◌||◌, not, Option, Some, None, Result, Ok, Err, codes, bytes_eq, nat_eq, nat_le, nat_lt, if◌then◌else◌, fold, drop, slice_index, option_map}
use Rattle.std.specs.List.{list_all, starts_with}
use Rattle.apf_words.specs.Limits.{max_limit}
use Rattle.apf_files.specs.FirstFault.{◌>>=◌, or_fault, before}
use Rattle.apf_files.specs.declared.script.Command.{Command}
use Rattle.apf_files.specs.declared.script.Command.TheVariants.{Arrive, Finish, Cancel, Close, Limit}
use Rattle.apf_files.specs.declared.script.ScriptFault.{ScriptFault}
use Rattle.apf_files.specs.declared.script.ScriptFault.TheVariants.{TooLong, Truncated, BadLine, UnknownRequest, NoMemory, BadLimit}

-- the fault's number
abbrev pub script_fault_number : ScriptFault → ℕ
script_fault_number (TooLong line) = 1
script_fault_number (Truncated line) = 2
script_fault_number (BadLine line) = 3
script_fault_number (UnknownRequest line) = 4
script_fault_number NoMemory = 5
script_fault_number (BadLimit line) = 6

-- the fault's line
abbrev pub line_of : ScriptFault → Option ℕ
line_of (TooLong line) = Some line
line_of (Truncated line) = Some line
line_of (BadLine line) = Some line
line_of (UnknownRequest line) = Some line
line_of NoMemory = None
line_of (BadLimit line) = Some line

-- a script has at most this many lines
abbrev pub max_lines : ℕ
max_lines = 100000

-- the byte that ends a line, LF
abbrev pub lf : ℕ
lf = 10

-- one to five decimal digits, with no zero before another digit
abbrev pub is_numeral : List ℕ → Bool
is_numeral digits =
    nat_lt 0 (length digits) && nat_le (length digits) 5 && list_all (λ d. nat_le 48 d && nat_le d 57) digits
    && (nat_eq (length digits) 1 || not (nat_eq (slice_index digits 0) 48))

-- the number that decimal digits write
abbrev pub decimal : List ℕ → ℕ
decimal digits = fold (λ n d. 10 * n + (d - 48)) 0 digits

-- the number of a numeral
unfoldable pub numeral : List ℕ → Option ℕ
numeral digits = if is_numeral digits then Some (decimal digits) else None

-- the command that a line writes, without its LF: one of five forms
unfoldable pub command_of : List ℕ → Option Command
command_of line =
    if starts_with nat_eq line (codes "arrive ") then option_map Arrive (numeral (drop 7 line))
    else (if starts_with nat_eq line (codes "finish ") then option_map Finish (numeral (drop 7 line))
    else (if starts_with nat_eq line (codes "cancel ") then option_map Cancel (numeral (drop 7 line))
    else (if starts_with nat_eq line (codes "limit ") then option_map Limit (numeral (drop 6 line))
    else (if bytes_eq line (codes "close") then Some Close else None))))

-- the command of a request, which has to be among the requests
abbrev pub of_request : ℕ → ℕ → ℕ → Command → Result Command ScriptFault
of_request requests line request command = if nat_lt request requests then Ok command else Err (UnknownRequest line)

-- the command, or the fault of its number
unfoldable pub in_range : ℕ → ℕ → Command → Result Command ScriptFault
in_range requests line (Arrive n) = of_request requests line n (Arrive n)
in_range requests line (Finish n) = of_request requests line n (Finish n)
in_range requests line (Cancel n) = of_request requests line n (Cancel n)
in_range requests line Close = Ok Close
in_range requests line (Limit n) = if nat_le 1 n && nat_le n max_limit then Ok (Limit n) else Err (BadLimit line)

-- the command of the line of this number, or its fault
unfoldable pub judged_line : ℕ → ℕ → List ℕ → Result Command ScriptFault
judged_line requests line bytes = or_fault (BadLine line) (command_of bytes) >>= in_range requests line

-- at the end of the file, where these bytes stand after the last LF
abbrev pub ended : ℕ → List ℕ → Result (List Command) ScriptFault
ended line [] = Ok []
ended line (b ∷ begun) = Err (Truncated line)

-- the commands from this line on, of which these bytes were begun, or the first fault
abbrev pub lines_from : ℕ → ℕ → List ℕ → List ℕ → Result (List Command) ScriptFault
lines_from requests line begun [] = ended line begun
lines_from requests line begun (b ∷ bytes) =
    if nat_lt max_lines line then Err (TooLong line)
    else (if nat_eq b lf then before (judged_line requests line begun) (lines_from requests (line + 1) [] bytes)
    else lines_from requests line (begun ++ b ∷ []) bytes)

-- the commands of a script, or its first fault
unfoldable pub script_of : ℕ → List ℕ → Result (List Command) ScriptFault
script_of requests bytes = lines_from requests 1 [] bytes

-- the command's number is in its range, where there are this many requests
abbrev pub IsCommandInRange : ℕ → Command → Type 0
IsCommandInRange requests (Arrive n) = n < requests
IsCommandInRange requests (Finish n) = n < requests
IsCommandInRange requests (Cancel n) = n < requests
IsCommandInRange requests Close = ⊤
IsCommandInRange requests (Limit n) = (1 ≤ n) × (n ≤ max_limit)
