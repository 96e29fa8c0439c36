-- What the tables of all levels come to together.
use Rattle.std.specs.Prelude.{◌≡◌, ℕ, ◌+◌, List, length}
use Rattle.std.specs.List.{sum_by}
use Rattle.apf_audit.specs.AuditEvent.{Event}
use Rattle.apf_rows.specs.declared.sums.Sums.{Sums}
use Rattle.apf_cluster_tables.specs.declared.level_table.LevelTable.{LevelTable}

-- a number of all levels together
abbrev pub of_levels : (Sums → ℕ) → List LevelTable → ℕ
of_levels of tables = sum_by (λ (t : LevelTable). of t.table.all.sums) tables

-- each of these requests is in the table of one level, and each was executed, rejected or cancelled
pub record AreCountedOnce (told : List Event) (tables : List LevelTable) : Type 0 where
  pub requests : of_levels (λ s. s.requests) tables ≡ length told
  pub fates : of_levels (λ s. s.executed) tables + of_levels (λ s. s.rejected) tables + of_levels (λ s. s.cancelled) tables ≡ length told
