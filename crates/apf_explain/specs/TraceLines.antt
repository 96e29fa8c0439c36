-- The lines that are written of a trace's faults. None where nothing is stated of the text of a value that the line names.
use Rattle.std.specs.Prelude.{ℕ, zero, suc, ◌-◌, List, [], ◌∷◌, ◌++◌, length, nat_eq, if◌then◌else◌, Option, Some, None, IfSome, option_and_then, option_map, codes, decimal}
use Rattle.std.specs.Io.KnownBytes.{Appends}
use Rattle.serde_json.specs.Data.{Data}
use Rattle.serde_json.specs.Find.{get}
use Rattle.apf_words.specs.Limits.{max_cost, max_width}
use Rattle.apf_files.specs.JsonFile.{value_of}
use Rattle.apf_times.specs.Limits.{max_arrival, max_run}
use Rattle.apf_traces.specs.TraceFile.{Line, lines_of, max_lines, max_bytes}
use Rattle.apf_traces.specs.TraceFaults.{trace_fault_number, line_of}
use Rattle.apf_traces.specs.declared.fault.TraceFault.{TraceFault}
use Rattle.apf_traces.specs.declared.fault.TraceFault.TheVariants as trace
use Rattle.apf_explain.specs.declared.place.Part.TheVariants.{Fault}
use Rattle.apf_explain.specs.declared.keys.Keys.TheVariants.{OfTrace}
use Rattle.apf_explain.specs.declared.wanted.Wanted.{Wanted}
use Rattle.apf_explain.specs.declared.wanted.Wanted.TheVariants.{Whole, Micros}
use Rattle.apf_explain.specs.Wanted.{wanted_text}
use Rattle.apf_explain.specs.Kinds.{whole_said}
use Rattle.apf_explain.specs.Reasons.{IsWhyOfLine}
use Rattle.apf_explain.specs.Lines.{place_text, unwanted_text, misplaced_text, unknown_text, bad_flow_text}

-- the line that has this many before it, if there is one
abbrev pub nth_line : ℕ → List Line → Option Line
nth_line n [] = None
nth_line zero (line ∷ lines) = Some line
nth_line (suc n) (line ∷ lines) = nth_line n lines

-- the bytes of the line of this number, from 1
abbrev pub numbered_line : ℕ → List ℕ → Option (List ℕ)
numbered_line number bytes = option_map (λ (line : Line). line.bytes) (nth_line (number - 1) (lines_of bytes))

-- a key is missing: what has to stand there
abbrev pub missing_key_text : (place key : List ℕ) → Wanted → List ℕ
missing_key_text place key wanted =
    place ++ (codes "the key " ++ (key ++ (codes " is missing: it must be " ++ (wanted_text wanted ++ codes "\n"))))

-- a key is missing, or its value may not stand there
abbrev pub required_text : (place key : List ℕ) → Option Data → Wanted → Option (List ℕ)
required_text place key None wanted = Some (missing_key_text place key wanted)
required_text place key (Some d) wanted = unwanted_text place key (Some d) wanted

-- a request comes too late
abbrev pub late_text : List ℕ → List ℕ
late_text place = place ++ codes "arrives more than 131072 requests late\n"

-- the fault of a request of a trace that is this value
abbrev pub trace_value_text : List ℕ → Option Data → TraceFault → Option (List ℕ)
trace_value_text place o (trace.UnknownKey n) = unknown_text place OfTrace o
trace_value_text place o (trace.BadArrival n) =
    required_text place (codes "arrivesAt") (option_and_then (get (codes "arrivesAt")) o) (Micros max_arrival)
trace_value_text place o (trace.BadRun n) =
    required_text place (codes "runsFor") (option_and_then (get (codes "runsFor")) o) (Micros max_run)
trace_value_text place o (trace.BadFlow n) = bad_flow_text place o
trace_value_text place o (trace.BadWidth n) =
    unwanted_text place (codes "width") (option_and_then (get (codes "width")) o) (Whole 1 max_width)
trace_value_text place o (trace.BadCost n) =
    unwanted_text place (codes "cost") (option_and_then (get (codes "cost")) o) (Whole 1 max_cost)
trace_value_text place o (trace.TooLate n) = Some (late_text place)
trace_value_text place o fault = misplaced_text place (codes "a request is a JSON object, but this is ") o

-- this many bytes are too many, where at most this many may be there
abbrev pub too_long_text : List ℕ → ℕ → Option (List ℕ) → List ℕ
too_long_text place most None = place ++ (codes "the line has more than " ++ (decimal most ++ codes " bytes\n"))
too_long_text place most (Some line) =
    place ++ (codes "the line has " ++ (decimal (length line) ++ (codes " bytes: at most " ++ (decimal most ++ codes " may be there\n"))))

-- the fault of this line
abbrev pub trace_line_text : List ℕ → Option (List ℕ) → TraceFault → Option (List ℕ)
trace_line_text place line (trace.TooMany n) = Some (place ++ (codes "there are more than " ++ (decimal max_lines ++ codes " lines\n")))
trace_line_text place line (trace.TooLong n) = Some (too_long_text place max_bytes line)
trace_line_text place line (trace.Truncated n) = Some (place ++ codes "the last line has no LF at its end\n")
trace_line_text place line fault = trace_value_text place (option_and_then value_of line) fault

-- a line is no JSON from a column on, and why
abbrev pub column_text : (place : List ℕ) (column : ℕ) (why : List ℕ) → List ℕ
column_text place column why =
    place ++ (codes "this is not JSON at column " ++ (decimal column ++ (why ++ codes "\n")))

-- a line that is no JSON, where this is said of its file, and this is its value: the column at which the reader stopped, and what is known of why
abbrev pub IsColumnLine : List ℕ → (line file : Option (List ℕ)) → Option Data → Option (List ℕ) → Option (List ℕ) → Type 0
IsColumnLine place line file None before after =
    (column : ℕ) × ((why : List ℕ) × IsWhyOfLine line file why × Appends before after (column_text place column why))
IsColumnLine place line file (Some d) before after = Appends before after (place ++ codes "this is not JSON\n")

-- what is said of the file of a fault: of one whose first line is no JSON, what it is, where it is no trace
abbrev pub file_said : TraceFault → List ℕ → Option (List ℕ)
file_said (trace.NotUtf8Json n) bytes = if nat_eq n 1 then whole_said bytes else None
file_said fault bytes = None

-- the fault of this line was written, behind its place, where this is said of its file
abbrev pub IsTraceLineAt : List ℕ → (line file : Option (List ℕ)) → TraceFault → Option (List ℕ) → Option (List ℕ) → Type 0
IsTraceLineAt place line file (trace.NotUtf8Json n) before after = IsColumnLine place line file (option_and_then value_of line) before after
IsTraceLineAt place line file fault before after = IfSome (trace_line_text place line fault) (Appends before after)

-- the fault of this line was written, behind the number of the line
abbrev pub IsPlacedLine : (line file : Option (List ℕ)) → TraceFault → Option ℕ → Option (List ℕ) → Option (List ℕ) → Type 0
IsPlacedLine line file fault None before after = ⊥
IsPlacedLine line file fault (Some number) before after =
    IsTraceLineAt (place_text (codes "apf: trace") (Fault (trace_fault_number fault) number)) line file fault before after

-- the fault of the line of this number was written
abbrev pub IsNumberedLine : List ℕ → TraceFault → Option ℕ → Option (List ℕ) → Option (List ℕ) → Type 0
IsNumberedLine bytes fault None before after = ⊥
IsNumberedLine bytes fault (Some number) before after = IsPlacedLine (numbered_line number bytes) (file_said fault bytes) fault (Some number) before after

-- the line of a trace's fault was written
abbrev pub IsTraceLine : List ℕ → TraceFault → Option (List ℕ) → Option (List ℕ) → Type 0
IsTraceLine bytes fault before after = IsNumberedLine bytes fault (line_of fault) before after
