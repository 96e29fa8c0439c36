-- What is made of bytes step by step, until none is left.
use Rattle.std.specs.Prelude.{ℕ, zero, suc, ◌==◌, List, length, if◌then◌else◌, Option, Some, None, option_and_then}

-- what at most so many steps make of these bytes, of which each goes on with what the ones before it made, and with the bytes that they left
unfoldable pub steps : {S : Type 0} → (S → List ℕ → Option (S × List ℕ)) → ℕ → S → List ℕ → Option S
steps step zero so_far bytes = if length bytes == 0 then Some so_far else None
steps step (suc n) so_far bytes = if length bytes == 0 then Some so_far else option_and_then (λ next. steps step n next.0 next.1) (step so_far bytes)
