-- What the fault of a trace says of the line and the value that it is shown with.
use Rattle.std.specs.Prelude.{◌≡◌, ℕ, ◌+◌, ◌<◌, ⊤, List, false, Option, Some, None, codes, length}
use Rattle.serde_json.specs.Data.{Data}
use Rattle.serde_json.specs.Find.{get, as_object}
use Rattle.apf_words.specs.Limits.{max_cost, max_width}
use Rattle.apf_files.specs.JsonFile.{value_of}
use Rattle.apf_times.specs.Limits.{max_arrival, max_run}
use Rattle.apf_traces.specs.TraceFile.{Line, lines_of, max_lines, max_bytes}
use Rattle.apf_traces.specs.TraceFaults.{line_of}
use Rattle.apf_traces.specs.declared.fault.TraceFault.{TraceFault}
use Rattle.apf_traces.specs.declared.fault.TraceFault.TheVariants as trace
use Rattle.apf_explain.specs.declared.keys.Keys.TheVariants.{OfTrace}
use Rattle.apf_explain.specs.declared.wanted.Wanted.{Wanted}
use Rattle.apf_explain.specs.declared.wanted.Wanted.TheVariants.{Whole, Micros}
use Rattle.apf_explain.specs.Wanted.{is_wanted}
use Rattle.apf_explain.specs.Shown.{IsUnwanted, NamesUnknown, IsFlowTold}
use Rattle.apf_explain.specs.TraceLines.{nth_line}

-- the value at a key is none that may stand there, or none is there
abbrev pub IsUnwantedIfThere : Wanted → Option Data → Type 0
IsUnwantedIfThere wanted None = ⊤
IsUnwantedIfThere wanted (Some d) = is_wanted wanted d ≡ false

-- what the fault of a request of a trace says of its value
abbrev pub IsTraceValueShown : Data → TraceFault → Type 0
IsTraceValueShown d (trace.NotObject n) = as_object d ≡ None
IsTraceValueShown d (trace.UnknownKey n) = NamesUnknown OfTrace d
IsTraceValueShown d (trace.BadArrival n) = IsUnwantedIfThere (Micros max_arrival) (get (codes "arrivesAt") d)
IsTraceValueShown d (trace.BadRun n) = IsUnwantedIfThere (Micros max_run) (get (codes "runsFor") d)
IsTraceValueShown d (trace.BadFlow n) = IsFlowTold d
IsTraceValueShown d (trace.BadWidth n) = IsUnwanted (codes "width") (Whole 1 max_width) d
IsTraceValueShown d (trace.BadCost n) = IsUnwanted (codes "cost") (Whole 1 max_cost) d
IsTraceValueShown d fault = ⊥

-- what the fault of a trace says of the line of this number
abbrev pub IsTraceLineShown : ℕ → Line → TraceFault → Type 0
IsTraceLineShown number line (trace.TooMany n) = max_lines < number
IsTraceLineShown number line (trace.TooLong n) = max_bytes < length line.bytes
IsTraceLineShown number line (trace.NotUtf8Json n) = value_of line.bytes ≡ None
IsTraceLineShown number line (trace.Truncated n) = line.is_ended ≡ false
IsTraceLineShown number line trace.NoMemory = ⊥
IsTraceLineShown number line fault = (d : Data) × (value_of line.bytes ≡ Some d) × IsTraceValueShown d fault

-- the line that the fault names is there, and has the fault
abbrev pub IsTraceShown : List ℕ → TraceFault → Type 0
IsTraceShown bytes fault =
    (n : ℕ) × (line_of fault ≡ Some (n + 1)) × ((line : Line) × (nth_line n (lines_of bytes) ≡ Some line) × IsTraceLineShown (n + 1) line fault)
