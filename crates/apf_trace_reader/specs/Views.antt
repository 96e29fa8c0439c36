-- What contracts see of a reader.
use Rattle.std.specs.Prelude.{ℕ, Bool, Option, Some, None}
use Rattle.apf_lines.specs.Lines.{LinesView}
use Rattle.apf_times.specs.Windows.{WindowView}
use Rattle.apf_traces.specs.declared.request.TraceRequest.{TraceRequest}
use Rattle.apf_trace_reader.specs.declared.stage.Stage.{Stage}
use Rattle.apf_trace_reader.specs.declared.stage.Stage.TheVariants.{Reading, Holding, Ended, Failed}

pub record ReaderView : Type 0 where
  -- what was read and is not yet cut off, and the line that was cut off last
  pub lines : LinesView
  -- the requests that are held
  pub window : WindowView TraceRequest
  -- how many lines were taken
  pub number : ℕ
  -- what comes next
  pub stage : Stage
  -- whether a line that was taken says what its request is charged
  pub has_cost : Bool

-- how many lines there are in all, once the input is at its end: those that were taken
abbrev pub all_lines : Stage → ℕ → Option ℕ
all_lines Reading number = None
all_lines Holding number = None
all_lines Ended number = Some number
all_lines (Failed fault) number = None
