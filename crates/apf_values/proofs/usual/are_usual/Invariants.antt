use Rattle.std.proofs.Common.{◌≡◌, ◌≤◌, drop, map}
use Rattle.json.specs.Tape.{node_token}
use Rattle.apf_values.specs.Usual.{are_usual}
use Rattle.apf_values.proofs.usual.are_usual.Given as goal

abbrev pub invariant-loop-node : goal.invariant-loop-node
invariant-loop-node l = (are_usual 127 (map node_token l.nodes) ≡ are_usual l.left (map node_token (drop l.node-index l.nodes))) × (l.left ≤ 127)
