use Rattle.std.proofs.Common.{ℕ, Option, set, refl, ap, ◌∙◌}
use Rattle.std.proofs.lemmas.List.{map-set}
use Rattle.apf_queue.specs.declared.nodes.Node.{Node}
use Rattle.apf_queue.specs.Nodes.{queues_of, queue_stored}
use Rattle.apf_queue.proofs.Columns.{column_same, stored}
use Rattle.apf_queue.proofs.nodes.set_queue.Goals as goal

pub returns-clause-next : goal.returns-clause-next
returns-clause-next c = column_same (λ (n : Node). n.next) c.args.nodes.now c.args.node _ c.requires.node_in refl

pub returns-clause-previous : goal.returns-clause-previous
returns-clause-previous c = column_same (λ (n : Node). n.previous) c.args.nodes.now c.args.node _ c.requires.node_in refl

pub returns-clause-queues : goal.returns-clause-queues
returns-clause-queues c =
    map-set (λ (n : Node). queue_stored n.queue) c.args.nodes.now c.args.node _ ∙ ap (λ (o : Option ℕ). set (queues_of c.args.nodes.now) c.args.node o) (stored c.args.queue c.requires.is_queue)

pub returns-clause-costs : goal.returns-clause-costs
returns-clause-costs c = map-set (λ (n : Node). n.cost) c.args.nodes.now c.args.node _
