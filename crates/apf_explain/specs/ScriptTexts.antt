-- The lines of a script's faults. None where nothing is stated of the text of a line that is shown.
use Rattle.std.specs.Prelude.{ℕ, zero, suc, [], ◌∷◌, List, ◌++◌, ◌==◌, nat_le, nat_eq, if◌then◌else◌, length, Option, Some, None, IfSome, option_and_then, codes, decimal}
use Rattle.std.specs.Fmt.{◌++?◌, debug_str}
use Rattle.std.specs.List.{ends_with}
use Rattle.std.specs.Str.{is_utf8}
use Rattle.std.specs.Io.KnownBytes.{Appends}
use Rattle.apf_words.specs.Limits.{max_limit}
use Rattle.apf_files.specs.ScriptFile.{max_lines, command_of, line_of}
use Rattle.apf_files.specs.declared.script.ScriptFault.{ScriptFault}
use Rattle.apf_files.specs.declared.script.ScriptFault.TheVariants as script
use Rattle.apf_explain.specs.declared.place.Part.TheVariants.{Line}
use Rattle.apf_files.specs.ScriptLine.{line_of_number, number_at}
use Rattle.apf_explain.specs.Lines.{place_text}
use Rattle.apf_explain.specs.Reasons.{mark_text}

-- the text that a line is shown as: itself, if it is short and UTF-8
unfoldable pub shown_of : List ℕ → Option (List ℕ)
shown_of line = if nat_le (length line) 64 then (if is_utf8 line then Some line else None) else None

-- which requests there are
unfoldable pub known_text : ℕ → List ℕ
known_text zero = codes "there are no requests"
known_text (suc zero) = codes "the only request is 0"
known_text (suc (suc n)) = codes "the requests are 0 to " ++ decimal (suc n)

-- there is no request of this number, if that is known
abbrev pub unknown_request_text : List ℕ → Option ℕ → ℕ → List ℕ
unknown_request_text place None requests = place ++ (codes "there is no such request: " ++ (known_text requests ++ codes "\n"))
unknown_request_text place (Some n) requests =
    place ++ (codes "there is no request " ++ (decimal n ++ (codes ": " ++ (known_text requests ++ codes "\n"))))

-- the limit may not be this, if that is known
abbrev pub bad_limit_text : List ℕ → Option ℕ → List ℕ
bad_limit_text place None = place ++ (codes "the limit is bad: it must be from 1 to " ++ (decimal max_limit ++ codes "\n"))
bad_limit_text place (Some n) =
    place ++ (codes "the limit is " ++ (decimal n ++ (codes ": it must be from 1 to " ++ (decimal max_limit ++ codes "\n"))))

-- the forms of a line
abbrev pub forms : List ℕ
forms = codes "a line is arrive N, finish N, cancel N, close or limit N, with one blank before N, which has one to five digits and no zero in front"

-- a line that is shown so is no command
abbrev pub no_command_text : List ℕ → Option (List ℕ) → Option (List ℕ)
no_command_text place None = Some (place ++ (codes "the line is no command: " ++ (forms ++ codes "\n")))
no_command_text place (Some text) = Some place ++? debug_str text ++? Some (codes " is no command: ") ++? Some forms ++? Some (codes "\n")

-- this line is no command
abbrev pub line_fault_text : (place line : List ℕ) → Option (List ℕ)
line_fault_text place line =
    if length line == 0 then Some (place ++ (codes "the line is empty: " ++ (forms ++ codes "\n")))
    else if ends_with nat_eq line (13 ∷ []) then Some (place ++ codes "the line ends with CR: a line ends with LF alone\n")
    else no_command_text place (shown_of line)

-- a line is no command, and this one if it was found
abbrev pub bad_line_text : List ℕ → Option (List ℕ) → Option (List ℕ)
bad_line_text place None = no_command_text place None
bad_line_text place (Some line) = line_fault_text place line

-- the fault of this line, whose command has this number, of a script of this many requests
abbrev pub line_text : List ℕ → (line : Option (List ℕ)) → (number : Option ℕ) → ℕ → ScriptFault → Option (List ℕ)
line_text place line number requests (script.TooLong n) = Some (place ++ (codes "there are more than " ++ (decimal max_lines ++ codes " lines\n")))
line_text place line number requests (script.Truncated n) = Some (place ++ codes "the last line has no LF at its end\n")
line_text place line number requests (script.UnknownRequest n) = Some (unknown_request_text place number requests)
line_text place line number requests (script.BadLimit n) = Some (bad_limit_text place number)
line_text place line number requests (script.BadLine n) = bad_line_text place line
line_text place line number requests script.NoMemory = bad_line_text place line

-- what is said of how a script begins, where its first line is no command, or has no end
abbrev pub mark_of : (bytes : List ℕ) → ScriptFault → Option (List ℕ)
mark_of bytes (script.Truncated (suc zero)) = mark_text bytes
mark_of bytes (script.BadLine (suc zero)) = mark_text bytes
mark_of bytes fault = None

-- the fault of this line, where this is said of how the script begins
abbrev pub marked_text : List ℕ → Option (List ℕ) → Option (List ℕ) → ℕ → ScriptFault → Option (List ℕ)
marked_text place None line requests fault = line_text place line (option_and_then number_at line) requests fault
marked_text place (Some why) line requests fault = Some (place ++ (codes "this is no script" ++ (why ++ codes "\n")))

-- the line of the fault of this line of the script was written
abbrev pub IsLineAt : (name bytes : List ℕ) → ℕ → ScriptFault → Option (List ℕ) → Option (List ℕ) → Option ℕ → Type 0
IsLineAt name bytes requests fault before after None = ⊥
IsLineAt name bytes requests fault before after (Some number) =
    IfSome (marked_text (place_text name (Line number)) (mark_of bytes fault) (line_of_number number bytes) requests fault) (Appends before after)

-- the line of a script's fault was written
abbrev pub IsScriptLine : (name bytes : List ℕ) → ℕ → ScriptFault → Option (List ℕ) → Option (List ℕ) → Type 0
IsScriptLine name bytes requests fault before after = IsLineAt name bytes requests fault before after (line_of fault)
