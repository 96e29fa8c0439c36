use Rattle.std.proofs.Common.{List, Some, ◌<◌, ◌+◌, get_or, take, set, length, ◌∙◌, ap, sym, arith}
use Rattle.std.proofs.lemmas.List.{get_or_read, with_items_is, length-map}
use Rattle.apf_queue.specs.declared.nodes.Node.{Node}
use Rattle.apf_queue.specs.Nodes.{next_nodes, previous_nodes, queues_of, costs_of}
use Rattle.apf_queue.proofs.Columns.{take_set}
use Rattle.apf_queue.proofs.RingLists.{seen_count, seen_requests, seen_ring, length-follow}
use Rattle.apf_queue.proofs.RingSteps.{recorded_none, push_rings, push_seen}
use Rattle.apf_queue.proofs.rings.Rings.push.Goals as goal

pub overflow_add-head : goal.overflow_add-head
overflow_add-head g c = let e = seen_count _ _ _ _ _ c.self.view_is in omega (arith, c.self.invariant.nodes_fit)

pub link-requires-clause-linked : goal.link-requires-clause-linked
link-requires-clause-linked g c = rw c.deref_mut.ensures.value c.self.invariant.linked

pub link-requires-clause-head_in : goal.link-requires-clause-head_in
link-requires-clause-head_in g c =
    let e = seen_count _ _ _ _ _ c.self.view_is in
    let n = length-map c.self.inside.nodes.items (λ (n : Node). n.next) in
    omega (arith, c.self.invariant.one_node_each)

pub link-requires-clause-node_in : goal.link-requires-clause-node_in
link-requires-clause-node_in g c =
    let e = seen_requests _ _ _ _ _ c.self.view_is in
    let n = length-map c.self.inside.nodes.items (λ (n : Node). n.next) in
    omega (arith, c.self.invariant.one_node_each, c.requires.is_request)

pub link-requires-clause-other : goal.link-requires-clause-other
link-requires-clause-other g c same = let e = seen_requests _ _ _ _ _ c.self.view_is in absurd (omega (arith, c.requires.is_request))

pub link-requires-clause-is_queue : goal.link-requires-clause-is_queue
link-requires-clause-is_queue g c = let e = seen_count _ _ _ _ _ c.self.view_is in omega (arith, c.self.invariant.nodes_fit, c.requires.is_queue)

pub link-requires-clause-alone : goal.link-requires-clause-alone
link-requires-clause-alone g c =
    let same = seen_requests _ _ _ _ _ c.self.view_is in
    let none = recorded_none _ _ _ _ _ _ _ c.self.view_is c.self.invariant c.args.request c.requires.is_nowhere in
    ap (λ (ns : List Node). get_or (next_nodes ns) c.args.request 0) c.deref_mut.ensures.value ∙ c.self.invariant.alone c.args.request (omega (arith, c.requires.is_request)) none

pub index_mut-requires : goal.index_mut-requires
index_mut-requires g c = let e = seen_count _ _ _ _ _ c.self.view_is in omega (arith, c.requires.is_queue)

pub overflow_add-index_mut : goal.overflow_add-index_mut
overflow_add-index_mut g c =
    let s = c.self.inside in
    let count = seen_count _ _ _ _ _ c.self.view_is in
    let inside : c.args.queue < length s.lengths.items = omega (arith, c.requires.is_queue) in
    let read = get_or_read s.lengths.items c.args.queue c.index_mut.result.now inside c.index_mut.ensures.value 0 in
    let l = length-follow (next_nodes s.nodes.items) (s.requests + c.args.queue) (get_or s.lengths.items c.args.queue 0) in
    let e = ap length (seen_ring _ _ _ _ _ c.self.view_is c.args.queue) in
    omega (arith, c.requires.has_room)

pub invariant_of-self : goal.invariant_of-self
invariant_of-self g c =
    let s = c.self.inside in
    let count = seen_count _ _ _ _ _ c.self.view_is in
    let inside : c.args.queue < length s.lengths.items = omega (arith, c.requires.is_queue) in
    let read = get_or_read s.lengths.items c.args.queue c.index_mut.result.now inside c.index_mut.ensures.value 0 in
    let handed = c.deref_mut.ensures.value in
    let alone = rw handed at c.link.ensures.alone in
    let ring = rw handed at c.link.ensures.ring in
    let others = rw handed at c.link.ensures.others in
    let queues = c.link.ensures.queues ∙ ap (λ (ns : List Node). set (queues_of ns) c.args.request (Some c.args.queue)) handed in
    let nodes = with_items_is s.nodes c.link.new.nodes (c.link.auto.nodes ∙ c.deref_mut.ensures.len) in
    let same_len = length-map c.link.new.nodes (λ (n : Node). n.next) ∙ c.link.auto.nodes ∙ ap length handed ∙ sym (length-map s.nodes.items (λ (n : Node). n.next)) in
    rw (nodes, queues) (push_rings s.requests (next_nodes s.nodes.items) (previous_nodes s.nodes.items) (queues_of s.nodes.items) s.lengths.items (take s.requests (costs_of s.nodes.items))
    c.args.self.now c.self.view_is c.self.invariant
    c.args.queue c.args.request c.requires.is_queue c.requires.is_request c.requires.is_nowhere
    (next_nodes c.link.new.nodes) (previous_nodes c.link.new.nodes) c.link.ensures.linked same_len alone ring others
    (c.index_mut.result.now + 1) (ap (λ n. n + 1) read))

pub returns : goal.returns
returns g c =
    let s = c.self.inside in
    let count = seen_count _ _ _ _ _ c.self.view_is in
    let inside : c.args.queue < length s.lengths.items = omega (arith, c.requires.is_queue) in
    let read = get_or_read s.lengths.items c.args.queue c.index_mut.result.now inside c.index_mut.ensures.value 0 in
    let handed = c.deref_mut.ensures.value in
    let alone = rw handed at c.link.ensures.alone in
    let ring = rw handed at c.link.ensures.ring in
    let others = rw handed at c.link.ensures.others in
    let costs = c.link.ensures.costs ∙ ap (λ (ns : List Node). set (costs_of ns) c.args.request c.args.cost) handed in
    let nodes = with_items_is s.nodes c.link.new.nodes (c.link.auto.nodes ∙ c.deref_mut.ensures.len) in
    let same_len = length-map c.link.new.nodes (λ (n : Node). n.next) ∙ c.link.auto.nodes ∙ ap length handed ∙ sym (length-map s.nodes.items (λ (n : Node). n.next)) in
    rw nodes (push_seen s.requests (next_nodes s.nodes.items) (previous_nodes s.nodes.items) (queues_of s.nodes.items) s.lengths.items (take s.requests (costs_of s.nodes.items))
    c.args.self.now c.self.view_is c.self.invariant
    c.args.queue c.args.request c.requires.is_queue c.requires.is_request c.requires.is_nowhere
    (next_nodes c.link.new.nodes) (previous_nodes c.link.new.nodes) c.link.ensures.linked same_len alone ring others
    (c.index_mut.result.now + 1) (ap (λ n. n + 1) read) c.args.cost (take s.requests (costs_of c.link.new.nodes))
    (ap (take s.requests) costs ∙ take_set s.requests (costs_of s.nodes.items) c.args.request c.args.cost))
