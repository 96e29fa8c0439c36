use Rattle.std.proofs.Common.{◌≡◌, Some, ◌<◌, ◌+◌, get_or, length, ◌∙◌, ap, sym, arith}
use Rattle.std.proofs.lemmas.List.{get_or_read, length-map}
use Rattle.apf_queue.specs.declared.nodes.Node.{Node}
use Rattle.apf_queue.proofs.Columns.{node_next}
use Rattle.apf_queue.proofs.RingLists.{seen_count, seen_none, seen_first, seen_requests, first_in}
use Rattle.apf_queue.proofs.rings.Rings.first.Goals as goal

pub index-requires : goal.index-requires
index-requires g c = let e = seen_count _ _ _ _ _ c.self.view_is in omega (arith, c.requires)

pub overflow_add-self-inside : goal.overflow_add-self-inside
overflow_add-self-inside g c = let e = seen_count _ _ _ _ _ c.self.view_is in omega (arith, c.self.invariant.nodes_fit)

pub index-requires-2 : goal.index-requires-2
index-requires-2 g c =
    let e = seen_count _ _ _ _ _ c.self.view_is in
    let n = length-map c.self.inside.nodes.items (λ (n : Node). n.next) in
    omega (arith, c.self.invariant.one_node_each)

pub returns-then-index-eq0-clause-first : goal.returns-then-index-eq0-clause-first
returns-then-index-eq0-clause-first g c =
    let s = c.self.inside in
    let inside : c.args.queue < length s.lengths.items = (let e = seen_count _ _ _ _ _ c.self.view_is in omega (arith, c.requires)) in
    let none = sym (get_or_read s.lengths.items c.args.queue c.index.result.now inside c.index.ensures 0) ∙ c.if-index-eq0.true in
    sym (seen_none _ _ _ _ _ c.self.view_is c.args.queue none)

pub returns-clause-first : goal.returns-clause-first
returns-clause-first g c =
    let s = c.self.inside in
    let count = seen_count _ _ _ _ _ c.self.view_is in
    let inside : c.args.queue < length s.lengths.items = omega (arith, c.requires) in
    let some : get_or s.lengths.items c.args.queue 0 ≡ 0 → ⊥ = λ e. c.if-index-eq0.false (get_or_read s.lengths.items c.args.queue c.index.result.now inside c.index.ensures 0 ∙ e) in
    let nodes = length-map s.nodes.items (λ (n : Node). n.next) in
    let node : s.requests + c.args.queue < length s.nodes.items = omega (arith, c.self.invariant.one_node_each) in
    ap Some (node_next s.nodes.items (s.requests + c.args.queue) c.index-2.result.now node c.index-2.ensures)
    ∙ sym (seen_first _ _ _ _ _ c.self.view_is c.args.queue some)

pub returns-clause-is_request : goal.returns-clause-is_request
returns-clause-is_request g c =
    let s = c.self.inside in
    let count = seen_count _ _ _ _ _ c.self.view_is in
    let inside : c.args.queue < length s.lengths.items = omega (arith, c.requires) in
    let some : get_or s.lengths.items c.args.queue 0 ≡ 0 → ⊥ = λ e. c.if-index-eq0.false (get_or_read s.lengths.items c.args.queue c.index.result.now inside c.index.ensures 0 ∙ e) in
    let below = first_in _ _ _ _ _ _ c.self.invariant c.args.queue inside some in
    let same = seen_requests _ _ _ _ _ c.self.view_is in
    let nodes = length-map s.nodes.items (λ (n : Node). n.next) in
    let node : s.requests + c.args.queue < length s.nodes.items = omega (arith, c.self.invariant.one_node_each) in
    let read = node_next s.nodes.items (s.requests + c.args.queue) c.index-2.result.now node c.index-2.ensures in
    omega arith
