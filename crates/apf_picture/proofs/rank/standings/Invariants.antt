-- The standings by the requests that were counted so far, which are the last ones.
use Rattle.std.proofs.Common.{◌≡◌, ◌-◌, ◌≤◌, drop, length}
use Rattle.std.specs.Prelude.{All}
use Rattle.apf_picture.specs.Ranks.{IsOfSome, standings_of}
use Rattle.apf_picture.proofs.rank.standings.Given as goal

abbrev pub invariant-loop-counted : goal.invariant-loop-counted
invariant-loop-counted l = record {
  all : l.standings.items ≡ standings_of (drop (length l.of - l.counted) l.outcomes) (drop (length l.of - l.counted) l.of) l.flows;
  some : All (IsOfSome l.counted) l.standings.items;
}
