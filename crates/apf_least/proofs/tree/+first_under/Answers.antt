use Rattle.apf_least.proofs.Nodes.{first_left, first_right}
use Rattle.apf_least.proofs.tree.+first_under.Goals as goal

pub returns-then-least-node : goal.returns-then-least-node
returns-then-least-node t c = first_left c.args.leaves c.args.least.now c.requires.least c.args.node c.first_under.result c.if-node-leaves.false c.if-least-node.true c.first_under.ensures

pub returns-else-least-node : goal.returns-else-least-node
returns-else-least-node t c =
    first_right c.args.leaves c.args.least.now c.requires.least c.args.node c.first_under-else-least-node.result c.if-node-leaves.false c.if-least-node.false c.first_under-else-least-node.ensures
