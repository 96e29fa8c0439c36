-- The rows so far have their lines.
use Rattle.std.specs.List.{AllZip}
use Rattle.apf_rows.specs.Tables.{IsLineOf}
use Rattle.apf_rows.proofs.table.lines_of.Given as goal

abbrev pub invariant-loop-row : goal.invariant-loop-row
invariant-loop-row l = AllZip IsLineOf l.yielded l.lines.items
