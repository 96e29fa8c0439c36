-- What a trace file says.
use Rattle.std.specs.Prelude.{ℕ, ⊤, ◌+◌, List, [], ◌∷◌, length, Bool, true, false, nat_eq, nat_le, if◌then◌else◌, Result, Ok, Err}
use Rattle.apf_words.specs.Limits.{max_requests}
use Rattle.apf_files.specs.FirstFault.{◌>>=◌, or_fault, before}
use Rattle.apf_files.specs.JsonFile.{value_of}
use Rattle.apf_files.specs.ScriptFile.{lf}
use Rattle.apf_traces.specs.TraceValue.{Entry, entry_of}
use Rattle.apf_traces.specs.declared.fault.TraceFault.{TraceFault}
use Rattle.apf_traces.specs.declared.fault.TraceFault.TheVariants.{TooMany, TooLong, NotUtf8Json, Truncated}

-- a trace has at most this many lines, one for each request
abbrev pub max_lines : ℕ
max_lines = max_requests

-- a line has at most this many bytes, without its LF
abbrev pub max_bytes : ℕ
max_bytes = 65536

-- a line without its LF, and whether an LF ends it
pub record Line : Type 0 where
  pub bytes : List ℕ
  pub is_ended : Bool

-- the lines, where this byte stands in front of the first; with no line, the byte is a line that no LF ends
abbrev pub longer : ℕ → List Line → List Line
longer b [] = record { bytes = b ∷ []; is_ended = false } ∷ []
longer b (line ∷ lines) = record { bytes = b ∷ line.bytes; is_ended = line.is_ended } ∷ lines

-- the lines of a file: each LF ends one, and bytes after the last LF are one that no LF ends
abbrev pub lines_of : List ℕ → List Line
lines_of [] = []
lines_of (b ∷ bytes) =
    if nat_eq b lf then record { bytes = []; is_ended = true } ∷ lines_of bytes else longer b (lines_of bytes)

-- the fault, unless the test holds
abbrev pub demand : TraceFault → Bool → Result ⊤ TraceFault
demand fault true = Ok tt
demand fault false = Err fault

-- the request that the line of this number is, or its first fault, whatever the number
unfoldable pub judged_text : ℕ → Line → Result Entry TraceFault
judged_text number line = do
  short ← demand (TooLong number) (nat_le (length line.bytes) max_bytes)
  value ← or_fault (NotUtf8Json number) (value_of line.bytes)
  entry ← entry_of number value
  ended ← demand (Truncated number) line.is_ended
  Ok entry

-- the request that the line of this number is, or its first fault, where a trace has at most this many lines
abbrev pub judged_within : ℕ → ℕ → Line → Result Entry TraceFault
judged_within most number line = demand (TooMany number) (nat_le number most) >>= λ few. judged_text number line

-- the request that the line of this number is, or its first fault
unfoldable pub judged_line : ℕ → Line → Result Entry TraceFault
judged_line number line = judged_within max_lines number line

-- the requests of the lines, of which the first has this number, or the first fault
abbrev pub trace_from : ℕ → List Line → Result (List Entry) TraceFault
trace_from number [] = Ok []
trace_from number (line ∷ lines) = before (judged_line number line) (trace_from (number + 1) lines)

-- the requests of a trace, or its first fault
unfoldable pub trace_of : List ℕ → Result (List Entry) TraceFault
trace_of bytes = trace_from 1 (lines_of bytes)
