-- The flows so far have their rows.
use Rattle.std.proofs.Common.{◌≡◌}
use Rattle.apf_picture.specs.Ranks.{rows_of}
use Rattle.apf_picture.proofs.rank.rows.Given as goal

abbrev pub invariant-loop-flow : goal.invariant-loop-flow
invariant-loop-flow l = l.rows.items ≡ rows_of l.own l.flow
