-- The queue at `place` is the shortest of those so far.
use Rattle.std.proofs.Common.{◌≡◌, ℕ, ◌<◌, ◌≤◌, length, get_or}
use Rattle.apf_history.specs.History.{waiting}
use Rattle.apf_plain.proofs.queues.shortest.Given as goal

abbrev pub invariant-loop-i : goal.invariant-loop-i
invariant-loop-i l = (l.place < length l.hand) × (l.fewest ≡ length (waiting l.history (get_or l.hand l.place 0))) × (l.place ≤ l.i)
    × ((j : ℕ) → j < l.i → l.fewest ≤ length (waiting l.history (get_or l.hand j 0)))
    × ((j : ℕ) → j < l.place → l.fewest < length (waiting l.history (get_or l.hand j 0)))
