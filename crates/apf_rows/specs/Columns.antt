-- What the lines of a table sum to.
use Rattle.std.specs.Prelude.{◌≡◌, ℕ, ◌+◌}
use Rattle.std.specs.List.{sum_by}
use Rattle.apf_rows.specs.declared.sums.Sums.{Sums}
use Rattle.apf_rows.specs.declared.table.Line.{Line}
use Rattle.apf_rows.specs.declared.table.Table.{Table}

-- the sum of a column: over the flows that have a line, and those that have none
abbrev pub column : (Sums → ℕ) → Table → ℕ
column of t = sum_by (λ (l : Line). of l.figures.sums) t.lines.items + of t.others.sums

-- each column sums to the number of the whole
pub record AddUp (t : Table) : Type 0 where
  pub requests : column (λ s. s.requests) t ≡ t.all.sums.requests
  pub executed : column (λ s. s.executed) t ≡ t.all.sums.executed
  pub rejected : column (λ s. s.rejected) t ≡ t.all.sums.rejected
  pub cancelled : column (λ s. s.cancelled) t ≡ t.all.sums.cancelled
  pub seat_time : column (λ s. s.seat_time) t ≡ t.all.sums.seat_time
  pub waited : column (λ s. s.waited) t ≡ t.all.sums.waited
