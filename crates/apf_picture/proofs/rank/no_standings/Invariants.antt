-- The standings of the flows so far.
use Rattle.std.proofs.Common.{◌≡◌, []}
use Rattle.apf_picture.specs.Ranks.{standings_of}
use Rattle.apf_picture.proofs.rank.no_standings.Given as goal

abbrev pub invariant-loop-flow : goal.invariant-loop-flow
invariant-loop-flow l = l.standings.items ≡ standings_of [] [] l.flow
