-- The Dones are those of the slots that are gone, each of the level.
use Rattle.std.proofs.Common.{◌≡◌, ◌+◌, length, All}
use Rattle.apf_gate.specs.Tokens.{pass_gate}
use Rattle.apf_session.proofs.life.session.dones_of.Given as goal

abbrev pub invariant-loop-request : goal.invariant-loop-request
invariant-loop-request g l =
    record {
      count : length l.dones.items + length l.requests.items ≡ length l.fn.requests.items;
      own : All (λ t. pass_gate t ≡ g.K.Naming.level.gate) l.dones.items;
    }

abbrev pub decreases-loop-request : goal.decreases-loop-request
decreases-loop-request g l = length l.requests.items
