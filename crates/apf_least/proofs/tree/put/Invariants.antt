-- Each inner node but the one over `node` has the least of its two, and the leaves are as they shall be.
use Rattle.std.proofs.Common.{◌/◌, ◌≡◌, ◌≢◌, ℕ, ◌*◌, ◌<◌, ◌≤◌, length, drop, set}
use Rattle.apf_least.proofs.Nodes.{IsOfTwo}
use Rattle.apf_least.proofs.tree.put.Given as goal

abbrev pub invariant-loop-node : goal.invariant-loop-node
invariant-loop-node l = (length l.least ≡ 2 * l.leaves) × (l.node < 2 * l.leaves)
    × (drop l.leaves l.least ≡ drop l.leaves (set l.fn.least l.leaf l.number))
    × ((i : ℕ) → 1 ≤ i → i < l.leaves → i ≢ l.node / 2 → IsOfTwo l.least i)

abbrev pub decreases-loop-node : goal.decreases-loop-node
decreases-loop-node l = l.node
