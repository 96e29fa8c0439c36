-- The most at the beginnings so far, and at those that are left, is that at all of them.
use Rattle.std.proofs.Common.{◌≡◌, max, drop}
use Rattle.apf_picture.proofs.Peaks.{most_from}
use Rattle.apf_picture.proofs.timeline.Timeline.most.Given as goal

abbrev pub invariant-loop-span : goal.invariant-loop-span
invariant-loop-span l = max l.most (most_from l.self (drop l.span-index l.self)) ≡ most_from l.self l.self
