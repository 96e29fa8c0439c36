-- The most so far and that of what is left is the most of all.
use Rattle.std.proofs.Common.{◌≡◌, max, drop}
use Rattle.apf_picture.specs.Columns.{most_waiting}
use Rattle.apf_picture.proofs.columns.most_waiting.Given as goal

abbrev pub invariant-loop-strip : goal.invariant-loop-strip
invariant-loop-strip l = max l.most (most_waiting (drop l.strip-index l.strips)) ≡ most_waiting l.strips
