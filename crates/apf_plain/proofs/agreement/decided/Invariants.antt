-- How many of the requests so far.
use Rattle.std.proofs.Common.{◌≡◌, ◌≤◌}
use Rattle.apf_history.specs.Outcome.{decided}
use Rattle.apf_plain.specs.Histories.{decision_in}
use Rattle.apf_plain.proofs.agreement.decided.Given as goal

abbrev pub invariant-loop-request : goal.invariant-loop-request
invariant-loop-request l = record {
  count : l.count ≡ decided l.decision (decision_in l.decisions) l.request;
  few : l.count ≤ l.request;
}
