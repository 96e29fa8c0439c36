-- The queue at `place` is the shortest of those so far.
use Rattle.std.proofs.Common.{◌≡◌, ℕ, ◌<◌, ◌≤◌, length, get_or}
use Rattle.apf_queue.specs.View.{queue_in}
use Rattle.apf_queue.proofs.queues.Queues.shortest.Given as goal

abbrev pub invariant-loop-i : goal.invariant-loop-i
invariant-loop-i g l = (l.place < length l.hand) × (l.fewest ≡ length (queue_in l.self (get_or l.hand l.place 0))) × (l.place ≤ l.i)
    × ((j : ℕ) → j < l.i → l.fewest ≤ length (queue_in l.self (get_or l.hand j 0)))
    × ((j : ℕ) → j < l.place → l.fewest < length (queue_in l.self (get_or l.hand j 0)))
