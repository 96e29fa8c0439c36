-- The bins reach as far as the latest time before they are the longest.
use Rattle.std.proofs.Common.{arith}
use Rattle.apf_strips.proofs.Changes.{doublings_left}
use Rattle.apf_strips.proofs.series.Series.widen_until.Goals as goal

pub double-requires : goal.double-requires
double-requires c = doublings_left c.loop-self.self.doublings c.args.to c.requires (omega (arith, c.loop-self-test.true, c.width.ensures.is))

pub loop-self-smaller : goal.loop-self-smaller
loop-self-smaller c =
    let left = doublings_left c.loop-self.self.doublings c.args.to c.requires (omega (arith, c.loop-self-test.true, c.width.ensures.is)) in
    let is = c.double.ensures.is in omega (arith, left, is)
