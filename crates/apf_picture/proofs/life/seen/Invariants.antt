-- What is shown of the requests so far, and of those that are left.
use Rattle.std.proofs.Common.{◌≡◌, ◌++◌, drop}
use Rattle.std.specs.Prelude.{map}
use Rattle.apf_picture.specs.Lives.{life_seen}
use Rattle.apf_picture.proofs.life.seen.Given as goal

abbrev pub invariant-loop-life : goal.invariant-loop-life
invariant-loop-life l = l.seen.items ++ map (life_seen l.from l.long) (drop l.life-index l.lives) ≡ map (life_seen l.from l.long) l.lives
