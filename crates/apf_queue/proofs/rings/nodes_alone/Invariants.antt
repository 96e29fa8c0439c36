use Rattle.std.proofs.Common.{◌≡◌, ◌≤◌, vec_len, vec_capacity}
use Rattle.apf_queue.specs.Nodes.{alone_nodes}
use Rattle.apf_queue.proofs.rings.nodes_alone.Given as goal

abbrev pub invariant-loop-number : goal.invariant-loop-number
invariant-loop-number g l = (l.nodes.items ≡ alone_nodes l.number) × (vec_len l.nodes ≡ l.number) × (l.count ≤ vec_capacity l.nodes)
