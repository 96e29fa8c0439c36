use Rattle.std.proofs.Common.{◌+◌, ◌<◌, ◌^◌, arith}
use Rattle.apf_queue.proofs.RingsOpening.{opening_nodes, opening_nodes_seen}
use Rattle.apf_queue.proofs.rings.Rings.new.Goals as goal

pub invariant_of-result : goal.invariant_of-result
invariant_of-result g c =
    let zero = c.in_ok-vec.ensures.items_if_clones_equal (λ y e. e) in
    let fits : c.args.requests + c.args.queues < 2 ^ 32 = omega (arith, c.requires) in
    rw zero (opening_nodes c.args.requests c.args.queues c.in_ok-nodes_alone.field-0.items fits c.in_ok-nodes_alone.ensures)

pub returns : goal.returns
returns g c =
    let zero = c.in_ok-vec.ensures.items_if_clones_equal (λ y e. e) in
    let fits : c.args.requests + c.args.queues < 2 ^ 32 = omega (arith, c.requires) in
    rw zero (opening_nodes_seen c.args.requests c.args.queues c.in_ok-nodes_alone.field-0.items fits c.in_ok-nodes_alone.ensures)
