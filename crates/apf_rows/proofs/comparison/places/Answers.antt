-- One flow more.
use Rattle.std.proofs.Common.{arith}
use Rattle.std.proofs.lemmas.List.FromFn.{map-range_with_len_more}
use Rattle.apf_rows.specs.Comparisons.{place_of}
use Rattle.apf_rows.proofs.comparison.places.Goals as goal

pub loop-flow-preserved : goal.loop-flow-preserved
loop-flow-preserved c =
    let n = c.loop-flow.flow in
    let more = map-range_with_len_more (place_of c.args.lines.now c.args.others.now) 0 n n (omega arith) in
    cc (more, c.loop-flow.invariant, c.in_ok-push.ensures.items, c.place_of.ensures)
