-- Counting round from the queue after the robin.
use Rattle.std.proofs.Common.{◌≡◌, ℕ, ◌+◌, ◌-◌, ◌%◌, ◌<◌, ◌≤◌, ◌⊎◌, inl, inr, ◌∙◌, mod-eq_of_lt, arith}
use native.Mathlib.Nat.{mod-eq-sub-mod}
use Rattle.std.proofs.lemmas.Bool.{cases_lt}
use Rattle.apf_model.specs.Fair.{steps_round}
use Rattle.apf_least.specs.Least.{IsReachedBy}

-- how far a queue is: past the robin, or past the last queue and then on
steps_after : (queues robin q : ℕ) → robin < queues → q < queues
    → ((robin < q) × (steps_round queues robin q + (robin + 1) ≡ q)) ⊎ ((q ≤ robin) × (steps_round queues robin q + (robin + 1) ≡ q + queues))
steps_after queues robin q h l = elim (cases_lt robin q) [
  | inl past ↦
      let a : (q + queues - (robin + 1)) % queues ≡ (q + queues - (robin + 1) - queues) % queues = mod-eq-sub-mod (omega arith) in
      let b : (q + queues - (robin + 1) - queues) % queues ≡ q + queues - (robin + 1) - queues = mod-eq_of_lt (omega arith) in
      let e : steps_round queues robin q ≡ q + queues - (robin + 1) - queues = a ∙ b in
      inl (past, omega arith)
  | inr up_to ↦ let e : steps_round queues robin q ≡ q + queues - (robin + 1) = mod-eq_of_lt (omega arith) in inr (up_to, omega arith)
]

-- who is reached no later from the queue after the robin is no further from the robin
pub reached_steps : (queues robin from q p : ℕ) → robin < queues → q < queues → p < queues
    → (from ≡ robin + 1) ⊎ ((from ≡ 0) × (queues ≤ robin + 1)) → IsReachedBy from q p → steps_round queues robin q ≤ steps_round queues robin p
reached_steps queues robin from q p h hq hp begins reached =
    let a = steps_after queues robin q h hq in
    let b = steps_after queues robin p h hp in
    grind arith
