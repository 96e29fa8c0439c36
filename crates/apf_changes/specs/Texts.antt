-- A text without its end, and around the last of a byte.
use Rattle.std.specs.Prelude.{ℕ, ◌-◌, [], ◌∷◌, length, take, Bool, nat_eq, Option, Some, None, if◌then◌else◌}
use Rattle.std.specs.Borrow.{Bor}
use Rattle.std.specs.List.{ends_with, list_any}
use Rattle.apf_objects.specs.Rules.{Text}

-- `=`
abbrev pub equals_sign : ℕ
equals_sign = 61

-- `.`
abbrev pub dot : ℕ
dot = 46

-- the text has the byte
abbrev pub has : ℕ → Text → Bool
has byte text = list_any (λ b. nat_eq b byte) text

-- the rest of a text ahead of this end, if it ends so
abbrev pub ahead : (end text : Text) → Option Text
ahead end text = if ends_with nat_eq text end then Some (take (length text - length end) text) else None

-- what stands on both sides of a byte
pub record Sides : Type 0 where
  pub front : Text
  pub back : Text

-- what the code holds
abbrev pub sides_view : Bor Text × Bor Text → Sides
sides_view sides = record { front = sides.0.now; back = sides.1.now }

-- both sides of the last of these bytes in a text that begins with this one, where those in the rest are known
abbrev pub sides_from : (wanted byte : ℕ) → Text → Option Sides → Option Sides
sides_from wanted byte rest (Some sides) = Some (record { front = byte ∷ sides.front; back = sides.back })
sides_from wanted byte rest None = if nat_eq byte wanted then Some (record { front = []; back = rest }) else None

-- both sides of the last of these bytes
abbrev pub around_last : (wanted : ℕ) → Text → Option Sides
around_last wanted [] = None
around_last wanted (byte ∷ rest) = sides_from wanted byte rest (around_last wanted rest)
