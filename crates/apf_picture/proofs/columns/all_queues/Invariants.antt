-- The queues of the requests so far.
use Rattle.std.proofs.Common.{◌≡◌, ◌≤◌, ◌++◌, drop, length}
use Rattle.apf_picture.specs.Columns.{all_queues}
use Rattle.apf_picture.proofs.columns.all_queues.Given as goal

abbrev pub invariant-loop-life : goal.invariant-loop-life
invariant-loop-life l = record {
  queues : l.queues.items ++ all_queues (drop l.life-index l.lives) ≡ all_queues l.lives;
  few : length l.queues.items ≤ l.life-index;
}
