-- The best head of the queues so far.
use Rattle.apf_history.specs.History.{waiting}
use Rattle.apf_history.specs.Fair.{numbers}
use Rattle.apf_plain.specs.Histories.{IsBestBelow}
use Rattle.apf_plain.proofs.heads.choice.Given as goal

abbrev pub invariant-loop-queue : goal.invariant-loop-queue
invariant-loop-queue l = IsBestBelow l.queues l.widths (waiting l.history) (numbers l.queues l.widths l.history) l.queue l.best
