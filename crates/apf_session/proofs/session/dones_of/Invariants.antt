-- The Dones are those of the requests that are gone, the last one first, each of the level; the requests that are left are as they were.
use Rattle.std.proofs.Common.{◌≡◌, ℕ, ◌+◌, ◌-◌, ◌<◌, ◌≤◌, length, slice_index_or, All}
use Rattle.apf_gate.specs.Tokens.{PassToken, pass_gate}
use Rattle.apf_session.specs.Requests.{RequestView, IsLeftOf}
use Rattle.apf_session.proofs.session.dones_of.Given as goal

abbrev pub invariant-loop-request : goal.invariant-loop-request
invariant-loop-request g l =
    record {
      count : length l.dones.items + length l.requests.items ≡ length l.fn.requests.items;
      own : All (λ t. pass_gate t ≡ g.K.Naming.level.gate) l.dones.items;
      rest : (i : ℕ) (d : RequestView) → i < length l.requests.items → slice_index_or l.requests.items i d ≡ slice_index_or l.fn.requests.items i d;
      left : (i : ℕ) (d : RequestView) (e : PassToken) → length l.requests.items ≤ i → i < length l.fn.requests.items
          → IsLeftOf (slice_index_or l.fn.requests.items i d) (slice_index_or l.dones.items (length l.fn.requests.items - 1 - i) e);
    }

abbrev pub decreases-loop-request : goal.decreases-loop-request
decreases-loop-request g l = length l.requests.items
