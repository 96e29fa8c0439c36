-- One flow more.
use Rattle.std.proofs.Common.{[], arith}
use Rattle.std.proofs.lemmas.List.FromFn.{map-range_with_len_more}
use Rattle.apf_picture.specs.Ranks.{standing_of}
use Rattle.apf_picture.proofs.rank.no_standings.Goals as goal

pub loop-flow-preserved : goal.loop-flow-preserved
loop-flow-preserved c =
    let n = c.loop-flow.flow in
    let more = map-range_with_len_more (standing_of [] []) 0 n n (omega arith) in
    cc (more, c.loop-flow.invariant, c.in_ok-push.ensures.items)
