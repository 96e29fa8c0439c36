-- What an audit log of any length says, of which each request may come late by a number of places.
use Rattle.std.specs.Prelude.{ℕ, ◌+◌, List, [], ◌∷◌, ◌++◌, take, nat_le, if◌then◌else◌, Option, Some, None, Result, Ok, Err}
use Rattle.std.specs.Option.{option_to_list}
use Rattle.apf_files.specs.FirstFault.{◌>>=◌}
use Rattle.apf_traces.specs.TraceFile.{Line, lines_of}
use Rattle.apf_audit.specs.AuditEvent.{Event}
use Rattle.apf_audit.specs.AuditLog.{judged_line}
use Rattle.apf_audit.specs.Estimates.{run_read}
use Rattle.apf_audit.specs.declared.choice.Choice.{Choice}
use Rattle.apf_audit.specs.declared.fault.AuditFault.{AuditFault}
use Rattle.apf_audit.specs.declared.fault.AuditFault.TheVariants.{TooLate}
use Rattle.apf_audit_reader.specs.Places.{number_after, place_of}

-- what a line gives, unless it is a request that is before more than this many of these
abbrev pub in_time : ℕ → List Event → Option Event → Result (Option Event) AuditFault
in_time size earlier None = Ok None
in_time size earlier (Some e) = if nat_le (number_after (place_of e) earlier) size then Ok (Some e) else Err (TooLate e.line)

-- what the line of this number gives, or its first fault, where these requests were taken of the lines before it
abbrev pub judged_after : Choice → ℕ → List Event → ℕ → Line → Result (Option Event) AuditFault
judged_after choice size earlier number line = judged_line choice number line >>= in_time size earlier

-- the requests so far and those of the lines behind them, of which the first has this number, or the first fault
abbrev pub read_from : Choice → ℕ → List Event → ℕ → List Line → Result (List Event) AuditFault
read_from choice size so_far number [] = Ok so_far
read_from choice size so_far number (line ∷ lines) =
    judged_after choice size so_far number line >>= λ given. read_from choice size (so_far ++ option_to_list given) (number + 1) lines

-- the chosen requests of a log, in the order of its lines, of which each may come this many places late; or the first fault
unfoldable pub requests_of : Choice → ℕ → List ℕ → Result (List Event) AuditFault
requests_of choice size bytes = read_from choice size [] 1 (lines_of bytes)

-- a request that is to run for so long
abbrev pub with_run : ℕ → Event → Event
with_run run e = record e { runs_for = run }

-- How a request is handed out, before which this many others were. The reader reads ahead by its size, so as many requests and one more
-- were read: by these a request that was turned away gets its run.
abbrev pub handed : (size : ℕ) → List Event → (before : ℕ) → Event → Event
handed size events before e = with_run (run_read (take (size + 1 + before) events) e) e

-- the same of requests that are handed out one after the other
abbrev pub handed_from : (size : ℕ) → List Event → (before : ℕ) → List Event → List Event
handed_from size events before [] = []
handed_from size events before (e ∷ es) = handed size events before e ∷ handed_from size events (before + 1) es
