-- The places of the queues so far.
use Rattle.std.proofs.Common.{◌≡◌, length, map, take}
use Rattle.apf_hands.specs.Holders.{lists_of, places_at}
use Rattle.apf_hands.proofs.sharers.rests_of.Given as goal

abbrev pub invariant-loop-queue : goal.invariant-loop-queue
invariant-loop-queue l = (length l.rests.items ≡ l.queue-index) × (lists_of l.rests.items ≡ map (places_at l.holders) (take l.queue-index l.hand))
