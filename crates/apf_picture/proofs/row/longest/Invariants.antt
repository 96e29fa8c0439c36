-- The longest so far and that of what is left is the longest of all.
use Rattle.std.proofs.Common.{◌≡◌, max, drop}
use Rattle.apf_picture.specs.Rows.{longest_of}
use Rattle.apf_picture.proofs.row.longest.Given as goal

abbrev pub invariant-loop-life : goal.invariant-loop-life
invariant-loop-life l = max l.longest (longest_of l.fate (drop l.life-index l.lives)) ≡ longest_of l.fate l.lives
