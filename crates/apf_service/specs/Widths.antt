-- The width that a request's number says.
use Rattle.std.specs.Prelude.{◌≡◌, ℕ, ◌≤◌}
use Rattle.apf_words.specs.Limits.{max_width}
use Rattle.apf_gate.specs.Slots.{next_of, coded_width}

-- the next request of the slot of any other one has the width that it asked for
abbrev pub IsEveryWidthKept : Type 0
IsEveryWidthKept = (r width : ℕ) → 1 ≤ width → width ≤ max_width → coded_width (next_of r width) ≡ width
