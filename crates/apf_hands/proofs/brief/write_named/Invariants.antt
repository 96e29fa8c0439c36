-- The first hashes were written, and what is left to be written are the first of those behind them.
use Rattle.std.proofs.Common.{◌≡◌, ℕ, List, ◌++◌, drop, take}
use Rattle.std.specs.Io.KnownBytes.{Appends}
use Rattle.apf_hands.specs.Alike.{others_of}
use Rattle.apf_hands.specs.Hands.{named_text}
use Rattle.apf_hands.proofs.brief.write_named.Given as goal

abbrev pub invariant-loop-other : goal.invariant-loop-other
invariant-loop-other g l =
    (done : List ℕ) × Appends (g.W.Write.contents l.initial.out) (g.W.Write.contents l.out) (named_text done)
    × (done ++ take l.left (others_of l.hash (drop l.other-index l.hashes)) ≡ take l.most (others_of l.hash l.hashes))
