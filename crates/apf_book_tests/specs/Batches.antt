-- The requests of a batch.
use Rattle.std.specs.Prelude.{◌≡◌, ℕ, ◌≤◌, length}
use Rattle.apf_gate.specs.declared.record.Shape.{Shape}

-- a batch of this many requests at least
pub record HasRequests (s : Shape) (n : ℕ) : Type 0 where
  pub some : n ≤ length s.widths
  pub batch : length s.widths ≡ s.slots
