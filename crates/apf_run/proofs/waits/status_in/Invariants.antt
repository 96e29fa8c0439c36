-- The events from here on name the request in no way, so that what became of it is what the others made of it.
use Rattle.std.proofs.Common.{◌≡◌, ◌≤◌, length, take, reverse}
use Rattle.apf_model.specs.Order.{status}
use Rattle.apf_run.proofs.waits.status_in.Given as goal

abbrev pub invariant-loop-end : goal.invariant-loop-end
invariant-loop-end l = record {
  inside : l.end ≤ length l.log;
  same : status (reverse (take l.end l.log)) l.request ≡ status (reverse l.log) l.request;
}

abbrev pub decreases-loop-end : goal.decreases-loop-end
decreases-loop-end l = l.end
