-- The requests so far, and those that are left, are all.
use Rattle.std.proofs.Common.{◌≡◌, ◌++◌, length, drop}
use Rattle.apf_picture.specs.Lives.{lives_by}
use Rattle.apf_picture.proofs.life.lives.Given as goal

abbrev pub invariant-loop-number : goal.invariant-loop-number
invariant-loop-number l = record {
  lives : l.lives.items ++ lives_by (drop l.number l.trace) (drop l.number l.outcomes) (drop l.number l.flows) l.rows ≡ lives_by l.trace l.outcomes l.flows l.rows;
  each : length l.lives.items ≡ l.number;
}
