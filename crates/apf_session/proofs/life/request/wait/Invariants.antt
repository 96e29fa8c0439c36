-- The request that waits is the same, and of the level.
use Rattle.std.proofs.Common.{◌≡◌}
use Rattle.apf_gate.specs.Tokens.{pass_gate}
use Rattle.apf_session.proofs.life.request.wait.Given as goal

abbrev pub invariant-loop : goal.invariant-loop
invariant-loop g l =
    record {
      next : (goal.iterator-loop g).can_next l.iterator';
      ends : (goal.iterator-loop g).is_finite l.iterator';
      own : pass_gate l.waiting ≡ g.K.Naming.level.gate;
      same : l.waiting.pass.number ≡ l.fn.waiting.pass.number;
    }
