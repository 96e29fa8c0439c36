use Rattle.std.proofs.Common.{◌<◌, ◌+◌, slice_index, length, ◌∙◌, ap, sym, arith}
use Rattle.std.proofs.lemmas.List.{get_or_read}
use Rattle.apf_queue.specs.Nodes.{next_nodes}
use Rattle.apf_queue.proofs.RingLists.{seen_count, seen_ring, length-follow}
use Rattle.apf_queue.proofs.rings.Rings.len.Goals as goal

pub index-requires : goal.index-requires
index-requires g c = let e = seen_count _ _ _ _ _ c.self.view_is in omega (arith, c.requires)

pub returns : goal.returns
returns g c =
    let s = c.self.inside in
    let inside : c.args.queue < length s.lengths.items = (let e = seen_count _ _ _ _ _ c.self.view_is in omega (arith, c.requires)) in
    get_or_read s.lengths.items c.args.queue c.index.result.now inside c.index.ensures 0
    ∙ sym (length-follow (next_nodes s.nodes.items) (s.requests + c.args.queue) (slice_index s.lengths.items c.args.queue))
    ∙ sym (ap length (seen_ring _ _ _ _ _ c.self.view_is c.args.queue))
