-- What contracts see of the lines of a log.
use Rattle.std.specs.Prelude.{◌≡◌, ℕ, Bool}
use Rattle.apf_lines.specs.Lines.{LinesView}
use Rattle.apf_audit.specs.AuditLog.{max_line}

pub record LogView : Type 0 where
  -- what was read and is not yet cut off, and the line that was cut off last
  pub lines : LinesView
  -- how many lines were found
  pub number : ℕ
  -- whether an LF ends the line that was found last
  pub is_ended : Bool
  -- whether all lines were found
  pub is_over : Bool

-- what is true of the fields
pub record IsLog (longest : ℕ) : Type 0 where
  pub most : longest ≡ max_line
