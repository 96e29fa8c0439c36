use Rattle.apf_least.proofs.Nodes.{round_here, round_next}
use Rattle.apf_least.proofs.tree.+first_round.Goals as goal

pub returns-then-least-node : goal.returns-then-least-node
returns-then-least-node t c = round_here c.args.leaves c.args.least.now c.requires.least c.args.node c.first_under.result c.if-least-node.true c.first_under.ensures

pub returns-else-least-node : goal.returns-else-least-node
returns-else-least-node t c =
    round_next c.args.leaves c.args.least.now c.requires.least c.args.node c.first_round.result c.requires.above c.requires.is_node c.if-least-node.false
    c.first_round.ensures
