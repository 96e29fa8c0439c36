use Rattle.std.proofs.Common.{get_or, arith}
use Rattle.std.proofs.lemmas.List.{length-map}
use Rattle.apf_queue.specs.declared.nodes.Node.{Node}
use Rattle.apf_queue.specs.Nodes.{next_nodes, previous_nodes}
use Rattle.apf_queue.proofs.Chains.{link_ring, link_others}
use Rattle.apf_queue.proofs.Columns.{no_node, in_column, previous_read}
use Rattle.apf_queue.proofs.Linked.{link_linked, link_alone}
use Rattle.apf_queue.proofs.nodes.link.Goals as goal

pub set_next-requires : goal.set_next-requires
set_next-requires c =
    let nodes = c.args.nodes.now in
    let head = in_column (λ (n : Node). n.next) nodes c.args.head c.requires.head_in in
    let last = previous_read nodes c.args.head c.requires.head_in in
    let inside = c.requires.linked.previous_in c.args.head head in
    let count = length-map nodes (λ (n : Node). n.next) in
    omega arith

pub returns-clause-linked : goal.returns-clause-linked
returns-clause-linked c =
    let nodes = c.args.nodes.now in
    rw (
      c.set_queue.ensures.next,
      c.set_previous-2.ensures.next,
      c.set_next-2.ensures.next,
      c.set_previous.ensures.next,
      c.set_next.ensures.next,
      c.set_queue.ensures.previous,
      c.set_previous-2.ensures.previous,
      c.set_next-2.ensures.previous,
      c.set_previous.ensures.previous,
      c.set_next.ensures.previous,
    )
    (link_linked (next_nodes nodes) (previous_nodes nodes) c.args.head c.args.node (get_or nodes c.args.head no_node).previous c.requires.linked
    (in_column (λ (n : Node). n.next) nodes c.args.head c.requires.head_in) (in_column (λ (n : Node). n.next) nodes c.args.node c.requires.node_in)
    c.requires.other c.requires.alone (previous_read nodes c.args.head c.requires.head_in))

pub returns-clause-alone : goal.returns-clause-alone
returns-clause-alone c i ne far is =
    let nodes = c.args.nodes.now in
    rw (c.set_queue.ensures.next, c.set_previous-2.ensures.next, c.set_next-2.ensures.next, c.set_previous.ensures.next, c.set_next.ensures.next)
    (link_alone (next_nodes nodes) (previous_nodes nodes) c.args.head c.args.node (get_or nodes c.args.head no_node).previous c.requires.linked
    (in_column (λ (n : Node). n.next) nodes c.args.head c.requires.head_in) (in_column (λ (n : Node). n.next) nodes c.args.node c.requires.node_in)
    c.requires.other c.requires.alone (previous_read nodes c.args.head c.requires.head_in) i ne far is)

pub returns-clause-ring : goal.returns-clause-ring
returns-clause-ring c standing ring apart out =
    let nodes = c.args.nodes.now in
    rw (
      c.set_queue.ensures.next,
      c.set_previous-2.ensures.next,
      c.set_next-2.ensures.next,
      c.set_previous.ensures.next,
      c.set_next.ensures.next,
      previous_read nodes c.args.head c.requires.head_in,
    )
    (link_ring (next_nodes nodes) (previous_nodes nodes) c.args.head c.args.node c.requires.linked
    (in_column (λ (n : Node). n.next) nodes c.args.head c.requires.head_in) (in_column (λ (n : Node). n.next) nodes c.args.node c.requires.node_in) standing ring apart out)

pub returns-clause-others : goal.returns-clause-others
returns-clause-others c h standing ring out out_head =
    let nodes = c.args.nodes.now in
    rw (
      c.set_queue.ensures.next,
      c.set_previous-2.ensures.next,
      c.set_next-2.ensures.next,
      c.set_previous.ensures.next,
      c.set_next.ensures.next,
      previous_read nodes c.args.head c.requires.head_in,
    )
    (link_others (next_nodes nodes) (previous_nodes nodes) c.args.head c.args.node c.requires.linked
    (in_column (λ (n : Node). n.next) nodes c.args.head c.requires.head_in) h standing ring out out_head)
