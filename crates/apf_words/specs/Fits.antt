-- When a request fits.
use Rattle.std.specs.Prelude.{◌≡◌, ◌⊎◌, ℕ, ◌+◌, ◌<◌, ◌≤◌}

-- the width fits the seats in use under the limit: they have room beside one another, or it is over-wide and alone
abbrev pub Fits : ℕ → ℕ → ℕ → Type 0
Fits seats limit width = (seats + width ≤ limit) ⊎ ((limit < width) × (seats ≡ 0))
