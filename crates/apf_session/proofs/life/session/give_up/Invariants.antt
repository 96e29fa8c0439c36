-- Each turn has one request less.
use Rattle.std.proofs.Common.{length}
use Rattle.apf_session.proofs.life.session.give_up.Given as goal

abbrev pub invariant-loop-request : goal.invariant-loop-request
invariant-loop-request g l = Unit {0}

abbrev pub decreases-loop-request : goal.decreases-loop-request
decreases-loop-request g l = length l.requests.items
