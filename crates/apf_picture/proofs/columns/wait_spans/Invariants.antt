-- The waits of the requests so far, and of those that are left.
use Rattle.std.proofs.Common.{◌≡◌, ◌≤◌, ◌++◌, drop, length}
use Rattle.apf_picture.specs.Spans.{wait_spans}
use Rattle.apf_picture.proofs.columns.wait_spans.Given as goal

abbrev pub invariant-loop-life : goal.invariant-loop-life
invariant-loop-life l = record {
  spans : l.spans.items ++ wait_spans (drop l.life-index l.lives) l.queue ≡ wait_spans l.lives l.queue;
  few : length l.spans.items ≤ l.life-index;
}
