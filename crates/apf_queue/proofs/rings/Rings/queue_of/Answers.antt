use Rattle.std.proofs.Common.{◌<◌, length, ◌∙◌, arith}
use Rattle.std.proofs.lemmas.List.{length-map}
use Rattle.apf_queue.specs.declared.nodes.Node.{Node}
use Rattle.apf_queue.proofs.Columns.{node_queue}
use Rattle.apf_queue.proofs.RingLists.{seen_requests}
use Rattle.apf_queue.proofs.RingSteps.{recorded_is}
use Rattle.apf_queue.proofs.rings.Rings.queue_of.Goals as goal

pub returns : goal.returns
returns g c =
    let s = c.self.inside in
    let same = seen_requests _ _ _ _ _ c.self.view_is in
    let nodes = length-map s.nodes.items (λ (n : Node). n.next) in
    let node : c.args.request < length s.nodes.items = omega (arith, c.self.invariant.one_node_each, c.requires) in
    recorded_is _ _ _ _ _ _ _ c.self.view_is c.self.invariant c.queue.result c.args.request
    (c.queue.ensures ∙ node_queue s.nodes.items c.args.request c.index.result.now node c.index.ensures)
