use Rattle.std.proofs.Common.{refl}
use Rattle.std.proofs.lemmas.List.{map-set}
use Rattle.apf_queue.specs.declared.nodes.Node.{Node}
use Rattle.apf_queue.specs.Nodes.{queue_stored}
use Rattle.apf_queue.proofs.Columns.{column_same}
use Rattle.apf_queue.proofs.nodes.set_previous.Goals as goal

pub returns-clause-next : goal.returns-clause-next
returns-clause-next c = column_same (λ (n : Node). n.next) c.args.nodes.now c.args.node _ c.requires refl

pub returns-clause-previous : goal.returns-clause-previous
returns-clause-previous c = map-set (λ (n : Node). n.previous) c.args.nodes.now c.args.node _

pub returns-clause-queues : goal.returns-clause-queues
returns-clause-queues c = column_same (λ (n : Node). queue_stored n.queue) c.args.nodes.now c.args.node _ c.requires refl

pub returns-clause-costs : goal.returns-clause-costs
returns-clause-costs c = column_same (λ (n : Node). n.cost) c.args.nodes.now c.args.node _ c.requires refl
