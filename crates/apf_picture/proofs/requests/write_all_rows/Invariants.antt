-- The rows so far were written, and the next one begins where they end.
use Rattle.std.proofs.Common.{◌≡◌, ◌+◌, ◌*◌, ◌≤◌, ◌^◌, take}
use Rattle.std.specs.Prelude.{sum_by}
use Rattle.std.specs.Io.KnownBytes.{Appends}
use Rattle.apf_picture.specs.Bars.{all_rows, height_of}
use Rattle.apf_picture.proofs.requests.write_all_rows.Given as goal

abbrev pub invariant-loop-row : goal.invariant-loop-row
invariant-loop-row g l = record {
  rows : Appends (g.W.Write.contents l.initial.out) (g.W.Write.contents l.out) (all_rows (take l.row-index l.rows) l.cutting l.y l.end);
  top : l.top ≡ l.y + sum_by height_of (take l.row-index l.rows);
  few : l.top ≤ l.y + l.row-index * 2 ^ 33;
}
