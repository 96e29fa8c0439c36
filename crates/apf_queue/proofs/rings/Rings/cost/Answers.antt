use Rattle.std.proofs.Common.{◌<◌, length, slice_index, ap, sym, ◌∙◌, arith}
use Rattle.std.proofs.lemmas.List.{length-map, get_or-take}
use Rattle.apf_queue.specs.declared.nodes.Node.{Node}
use Rattle.apf_queue.specs.Nodes.{costs_of}
use Rattle.apf_queue.specs.RingsView.{RingsView}
use Rattle.apf_queue.proofs.Columns.{node_cost}
use Rattle.apf_queue.proofs.RingLists.{seen_requests}
use Rattle.apf_queue.proofs.rings.Rings.cost.Goals as goal

pub returns : goal.returns
returns g c =
    let s = c.self.inside in
    let same = seen_requests _ _ _ _ _ c.self.view_is in
    let nodes = length-map s.nodes.items (λ (n : Node). n.next) in
    let node : c.args.request < length s.nodes.items = omega (arith, c.self.invariant.one_node_each, c.requires) in
    node_cost s.nodes.items c.args.request c.index.result.now node c.index.ensures
    ∙ sym (get_or-take s.requests (costs_of s.nodes.items) c.args.request 0 (omega (arith, c.requires)))
    ∙ ap (λ (v : RingsView). slice_index v.costs c.args.request) c.self.view_is
