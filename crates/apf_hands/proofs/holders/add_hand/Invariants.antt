-- The place stands at the queues so far.
use Rattle.std.proofs.Common.{◌≡◌, ℕ, [], ◌∷◌, ◌++◌, take}
use Rattle.std.specs.Prelude.{if◌then◌else◌}
use Rattle.apf_hands.specs.Hands.{holds}
use Rattle.apf_hands.specs.Holders.{places_at}
use Rattle.apf_hands.proofs.holders.add_hand.Given as goal

abbrev pub invariant-loop-card : goal.invariant-loop-card
invariant-loop-card l = (queue : ℕ) → places_at l.holders queue ≡ places_at l.initial.holders queue ++ (if holds (take l.card l.hand) queue then l.place ∷ [] else [])
