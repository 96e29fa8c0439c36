-- What contracts see of a reader.
use Rattle.std.specs.Prelude.{ℕ, Bool}
use Rattle.apf_lines.specs.Lines.{LinesView}
use Rattle.apf_times.specs.Windows.{WindowView}
use Rattle.apf_audit.specs.Estimates.{EstimatesView}
use Rattle.apf_audit.specs.declared.event.Taken.{Taken}
use Rattle.apf_audit_reader.specs.declared.stage.Stage.{Stage}

pub record ReaderView : Type 0 where
  -- what was read and is not yet cut off, and the line that was cut off last
  pub lines : LinesView
  -- the requests that are held
  pub window : WindowView Taken
  -- the runs of those that were read
  pub estimates : EstimatesView
  -- how many lines were taken
  pub number : ℕ
  -- how many of them have an event without a user's name
  pub unnamed : ℕ
  -- whether the last of them is still written
  pub is_cut : Bool
  -- what comes next
  pub stage : Stage
