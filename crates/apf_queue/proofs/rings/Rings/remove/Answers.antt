use Rattle.std.proofs.Common.{List, Some, None, set, take, ◌≡◌, ◌<◌, ◌-◌, length, ◌∙◌, ap, sym, arith}
use Rattle.std.proofs.lemmas.List.{get_or_read, with_items_is, length-map}
use Rattle.apf_queue.specs.declared.nodes.Node.{Node}
use Rattle.apf_queue.specs.Nodes.{next_nodes, previous_nodes, queues_of, costs_of}
use Rattle.apf_queue.specs.RingsView.{queue_at}
use Rattle.apf_queue.proofs.Columns.{node_queue}
use Rattle.apf_queue.proofs.RingLists.{seen_requests}
use Rattle.apf_queue.proofs.RingSteps.{recorded_is, recorded_in, recorded_some, taken_out, remove_rings, remove_seen}
use Rattle.apf_queue.proofs.rings.Rings.remove.Goals as goal
use Rattle.apf_queue.proofs.rings.Rings.remove.Goals.{After-queue}
use Rattle.apf_queue.proofs.rings.Rings.remove.Given.{Over}

pub unlink-requires-clause-node_in : goal.unlink-requires-clause-node_in
unlink-requires-clause-node_in g c =
    let e = seen_requests _ _ _ _ _ c.self.view_is in
    let n = length-map c.self.inside.nodes.items (λ (n : Node). n.next) in
    omega (arith, c.self.invariant.one_node_each, c.requires)

pub unlink-requires-clause-linked : goal.unlink-requires-clause-linked
unlink-requires-clause-linked g c = rw c.deref_mut.ensures.value c.self.invariant.linked

-- the queue that was read is the one that is recorded
read_is : (g : Over) (c : After-queue g) → c.queue.result ≡ queue_at (queues_of c.self.inside.nodes.items) c.args.request
read_is g c =
    let s = c.self.inside in
    let same = seen_requests _ _ _ _ _ c.self.view_is in
    let nodes = length-map s.nodes.items (λ (n : Node). n.next) in
    let node : c.args.request < length s.nodes.items = omega (arith, c.self.invariant.one_node_each, c.requires) in
    c.queue.ensures ∙ node_queue s.nodes.items c.args.request c.index.result.now node c.index.ensures

pub returns-in_err-queue-clause-stood : goal.returns-in_err-queue-clause-stood
returns-in_err-queue-clause-stood g c =
    let read = read_is g (goal.at.returns-in_err-queue-clause-stood g c).After-queue in
    recorded_is _ _ _ _ _ _ _ c.self.view_is c.self.invariant c.from_residual.result c.args.request (c.from_residual.ensures ∙ sym c.in_err-queue.was ∙ read)

pub returns-in_err-queue-clause-in_place : goal.returns-in_err-queue-clause-in_place
returns-in_err-queue-clause-in_place g c q before after e = taken_out _ _ _ _ _ _ _ c.self.view_is c.self.invariant q c.args.request before after e

pub index_mut-requires : goal.index_mut-requires
index_mut-requires g c =
    let recorded = sym (read_is g (goal.at.index_mut-requires g c).After-queue) ∙ c.in_ok-queue.was in
    let inside = recorded_in _ _ _ _ _ _ _ c.self.view_is c.self.invariant c.in_ok-queue.queue c.args.request recorded in
    omega arith

pub overflow_sub-index_mut : goal.overflow_sub-index_mut
overflow_sub-index_mut g c =
    let s = c.self.inside in
    let recorded = sym (read_is g (goal.at.overflow_sub-index_mut g c).After-queue) ∙ c.in_ok-queue.was in
    let inside = recorded_in _ _ _ _ _ _ _ c.self.view_is c.self.invariant c.in_ok-queue.queue c.args.request recorded in
    let length_read = get_or_read s.lengths.items c.in_ok-queue.queue c.index_mut.result.now inside c.index_mut.ensures.value 0 in
    let some = recorded_some _ _ _ _ _ _ _ c.self.view_is c.self.invariant c.in_ok-queue.queue c.args.request recorded in
    omega arith

pub invariant_of-self : goal.invariant_of-self
invariant_of-self g c =
    let s = c.self.inside in
    let same = seen_requests _ _ _ _ _ c.self.view_is in
    let recorded = sym (read_is g (goal.at.invariant_of-self g c).After-queue) ∙ c.in_ok-queue.was in
    let inside = recorded_in _ _ _ _ _ _ _ c.self.view_is c.self.invariant c.in_ok-queue.queue c.args.request recorded in
    let length_read = get_or_read s.lengths.items c.in_ok-queue.queue c.index_mut.result.now inside c.index_mut.ensures.value 0 in
    let some = recorded_some _ _ _ _ _ _ _ c.self.view_is c.self.invariant c.in_ok-queue.queue c.args.request recorded in
    let handed = c.deref_mut.ensures.value in
    let count = length-map s.nodes.items (λ (n : Node). n.next) in
    let still_alone = rw handed at c.unlink.ensures.still_alone in
    let ring = rw (handed, ← count) at c.unlink.ensures.ring in
    let others = rw handed at c.unlink.ensures.others in
    let queues = c.unlink.ensures.queues ∙ ap (λ (ns : List Node). set (queues_of ns) c.args.request None) handed in
    let nodes = with_items_is s.nodes c.unlink.new.nodes (c.unlink.auto.nodes ∙ c.deref_mut.ensures.len) in
    let same_len = length-map c.unlink.new.nodes (λ (n : Node). n.next) ∙ c.unlink.auto.nodes ∙ ap length handed ∙ sym count in
    rw (nodes, queues) (remove_rings s.requests (next_nodes s.nodes.items) (previous_nodes s.nodes.items) (queues_of s.nodes.items) s.lengths.items (take s.requests (costs_of s.nodes.items))
    c.args.self.now c.self.view_is c.self.invariant
    c.in_ok-queue.queue c.args.request (omega (arith, c.requires)) recorded
    (next_nodes c.unlink.new.nodes) (previous_nodes c.unlink.new.nodes) c.unlink.ensures.linked same_len c.unlink.ensures.alone still_alone ring others
    (c.index_mut.result.now - 1) (omega arith))

pub returns-clause-stood : goal.returns-clause-stood
returns-clause-stood g c =
    let read = read_is g (goal.at.returns-clause-stood g c).After-queue in
    recorded_is _ _ _ _ _ _ _ c.self.view_is c.self.invariant (Some c.in_ok-queue.queue) c.args.request (sym c.in_ok-queue.was ∙ read)

pub returns-clause-some : goal.returns-clause-some
returns-clause-some g c =
    let s = c.self.inside in
    let same = seen_requests _ _ _ _ _ c.self.view_is in
    let recorded = sym (read_is g (goal.at.returns-clause-some g c).After-queue) ∙ c.in_ok-queue.was in
    let inside = recorded_in _ _ _ _ _ _ _ c.self.view_is c.self.invariant c.in_ok-queue.queue c.args.request recorded in
    let length_read = get_or_read s.lengths.items c.in_ok-queue.queue c.index_mut.result.now inside c.index_mut.ensures.value 0 in
    let some = recorded_some _ _ _ _ _ _ _ c.self.view_is c.self.invariant c.in_ok-queue.queue c.args.request recorded in
    let handed = c.deref_mut.ensures.value in
    let count = length-map s.nodes.items (λ (n : Node). n.next) in
    let still_alone = rw handed at c.unlink.ensures.still_alone in
    let ring = rw (handed, ← count) at c.unlink.ensures.ring in
    let others = rw handed at c.unlink.ensures.others in
    let costs = c.unlink.ensures.costs ∙ ap costs_of handed in
    let nodes = with_items_is s.nodes c.unlink.new.nodes (c.unlink.auto.nodes ∙ c.deref_mut.ensures.len) in
    let same_len = length-map c.unlink.new.nodes (λ (n : Node). n.next) ∙ c.unlink.auto.nodes ∙ ap length handed ∙ sym count in
    rw nodes (remove_seen s.requests (next_nodes s.nodes.items) (previous_nodes s.nodes.items) (queues_of s.nodes.items) s.lengths.items (take s.requests (costs_of s.nodes.items))
    c.args.self.now c.self.view_is c.self.invariant
    c.in_ok-queue.queue c.args.request (omega (arith, c.requires)) recorded
    (next_nodes c.unlink.new.nodes) (previous_nodes c.unlink.new.nodes) c.unlink.ensures.linked same_len c.unlink.ensures.alone still_alone ring others
    (c.index_mut.result.now - 1) (omega arith) (take s.requests (costs_of c.unlink.new.nodes)) (ap (take s.requests) costs))

pub returns-clause-in_place : goal.returns-clause-in_place
returns-clause-in_place g c q before after e = taken_out _ _ _ _ _ _ _ c.self.view_is c.self.invariant q c.args.request before after e
