-- So far those that did not leave.
use Rattle.std.proofs.Common.{◌≡◌, take, not}
use Rattle.std.specs.List.{filter}
use Rattle.apf_history.specs.History.{has_left}
use Rattle.apf_plain.proofs.queues.waiting.Given as goal

abbrev pub invariant-loop-request : goal.invariant-loop-request
invariant-loop-request l = l.requests.items ≡ filter (λ r. not (has_left l.history r)) (take l.request-index l.request-items)
