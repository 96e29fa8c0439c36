-- The sum of the queues so far, each at most as long as the history.
use Rattle.std.proofs.Common.{◌≡◌, ◌*◌, ◌≤◌, length}
use Rattle.apf_history.specs.Tally.{tally}
use Rattle.apf_history.specs.History.{waiting}
use Rattle.apf_plain.proofs.stats.waiting_together.Given as goal

abbrev pub invariant-loop-queue : goal.invariant-loop-queue
invariant-loop-queue l = record {
  sum : l.sum ≡ tally (λ q. length (waiting l.history q)) l.queue;
  small : l.sum ≤ l.queue * 1048576;
}
