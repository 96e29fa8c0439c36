-- The seats of the requests so far, and of those that are left.
use Rattle.std.proofs.Common.{◌≡◌, ◌≤◌, ◌++◌, drop, length}
use Rattle.apf_picture.specs.Spans.{seat_spans}
use Rattle.apf_picture.proofs.columns.seat_spans.Given as goal

abbrev pub invariant-loop-life : goal.invariant-loop-life
invariant-loop-life l = record {
  spans : l.spans.items ++ seat_spans (drop l.life-index l.lives) l.row ≡ seat_spans l.lives l.row;
  few : length l.spans.items ≤ l.life-index;
}
