use Rattle.std.proofs.Common.{get_or, arith}
use Rattle.std.proofs.lemmas.List.{length-map}
use Rattle.apf_queue.specs.declared.nodes.Node.{Node}
use Rattle.apf_queue.specs.Nodes.{next_nodes, previous_nodes}
use Rattle.apf_queue.proofs.Chains.{unlink_ring, unlink_others}
use Rattle.apf_queue.proofs.Columns.{no_node, in_column, next_read, previous_read}
use Rattle.apf_queue.proofs.Linked.{unlink_linked, unlink_alone, unlink_still_alone}
use Rattle.apf_queue.proofs.nodes.unlink.Goals as goal

pub set_next-requires : goal.set_next-requires
set_next-requires c =
    let nodes = c.args.nodes.now in
    let read = previous_read nodes c.args.node c.requires.node_in in
    let inside = c.requires.linked.previous_in c.args.node (in_column (λ (n : Node). n.next) nodes c.args.node c.requires.node_in) in
    let count = length-map nodes (λ (n : Node). n.next) in
    omega arith

pub set_previous-requires : goal.set_previous-requires
set_previous-requires c =
    let nodes = c.args.nodes.now in
    let read = next_read nodes c.args.node c.requires.node_in in
    let inside = c.requires.linked.next_in c.args.node (in_column (λ (n : Node). n.next) nodes c.args.node c.requires.node_in) in
    let count = length-map nodes (λ (n : Node). n.next) in
    omega (arith, c.set_next.auto.nodes)

pub returns-clause-linked : goal.returns-clause-linked
returns-clause-linked c =
    let nodes = c.args.nodes.now in
    rw (
      c.clear_queue.ensures.next,
      c.set_previous-2.ensures.next,
      c.set_next-2.ensures.next,
      c.set_previous.ensures.next,
      c.set_next.ensures.next,
      c.clear_queue.ensures.previous,
      c.set_previous-2.ensures.previous,
      c.set_next-2.ensures.previous,
      c.set_previous.ensures.previous,
      c.set_next.ensures.previous,
    )
    (unlink_linked (next_nodes nodes) (previous_nodes nodes) c.args.node (get_or nodes c.args.node no_node).previous (get_or nodes c.args.node no_node).next c.requires.linked
    (in_column (λ (n : Node). n.next) nodes c.args.node c.requires.node_in) (previous_read nodes c.args.node c.requires.node_in) (next_read nodes c.args.node c.requires.node_in))

pub returns-clause-alone : goal.returns-clause-alone
returns-clause-alone c =
    let nodes = c.args.nodes.now in
    rw (c.clear_queue.ensures.next, c.set_previous-2.ensures.next, c.set_next-2.ensures.next, c.set_previous.ensures.next, c.set_next.ensures.next)
    (unlink_alone (next_nodes nodes) (previous_nodes nodes) c.args.node (get_or nodes c.args.node no_node).previous (get_or nodes c.args.node no_node).next c.requires.linked
    (in_column (λ (n : Node). n.next) nodes c.args.node c.requires.node_in) (previous_read nodes c.args.node c.requires.node_in) (next_read nodes c.args.node c.requires.node_in))

pub returns-clause-still_alone : goal.returns-clause-still_alone
returns-clause-still_alone c i is =
    let nodes = c.args.nodes.now in
    rw (c.clear_queue.ensures.next, c.set_previous-2.ensures.next, c.set_next-2.ensures.next, c.set_previous.ensures.next, c.set_next.ensures.next)
    (unlink_still_alone (next_nodes nodes) (previous_nodes nodes) c.args.node (get_or nodes c.args.node no_node).previous (get_or nodes c.args.node no_node).next c.requires.linked
    (in_column (λ (n : Node). n.next) nodes c.args.node c.requires.node_in) (previous_read nodes c.args.node c.requires.node_in) (next_read nodes c.args.node c.requires.node_in) i is)

pub returns-clause-ring : goal.returns-clause-ring
returns-clause-ring c head before after ring apart head_in =
    let nodes = c.args.nodes.now in
    rw (
      c.clear_queue.ensures.next,
      c.set_previous-2.ensures.next,
      c.set_next-2.ensures.next,
      c.set_previous.ensures.next,
      c.set_next.ensures.next,
      previous_read nodes c.args.node c.requires.node_in,
      next_read nodes c.args.node c.requires.node_in,
    )
    (unlink_ring (next_nodes nodes) (previous_nodes nodes) c.args.node c.requires.linked (in_column (λ (n : Node). n.next) nodes c.args.node c.requires.node_in)
    head before after ring apart (in_column (λ (n : Node). n.next) nodes head head_in))

pub returns-clause-others : goal.returns-clause-others
returns-clause-others c h standing ring out =
    let nodes = c.args.nodes.now in
    rw (
      c.clear_queue.ensures.next,
      c.set_previous-2.ensures.next,
      c.set_next-2.ensures.next,
      c.set_previous.ensures.next,
      c.set_next.ensures.next,
      previous_read nodes c.args.node c.requires.node_in,
      next_read nodes c.args.node c.requires.node_in,
    )
    (unlink_others (next_nodes nodes) (previous_nodes nodes) c.args.node c.requires.linked (in_column (λ (n : Node). n.next) nodes c.args.node c.requires.node_in) h standing ring out)
