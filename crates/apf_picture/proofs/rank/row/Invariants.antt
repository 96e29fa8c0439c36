-- The flow is none of those so far.
use Rattle.std.proofs.Common.{◌≡◌, ◌+◌, drop}
use Rattle.apf_picture.specs.Ranks.{place_of}
use Rattle.apf_picture.proofs.rank.row.Given as goal

abbrev pub invariant-loop-place : goal.invariant-loop-place
invariant-loop-place l = l.place + place_of l.flow (drop l.place l.own) ≡ place_of l.flow l.own
