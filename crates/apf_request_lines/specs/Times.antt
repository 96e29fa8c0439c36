-- How long something took, as Go writes it: 1m2.5s, 12.345678ms, 350µs, 0s.
use Rattle.std.specs.Prelude.{ℕ, ◌+◌, ◌*◌, ◌/◌, ◌^◌, ◌==◌, List, [], ◌∷◌, length, take, drop, Bool, nat_le, nat_lt, if◌then◌else◌, Option, Some, None, option_map, option_and_then, codes}
use Rattle.std.specs.List.{starts_with, prefix_len}
use Rattle.apf_request_lines.specs.declared.times.Fraction as code
use Rattle.apf_request_lines.specs.Numbers.{is_digit, number_of}
use Rattle.apf_request_lines.specs.Steps.{steps}

infixl 10 ◌>>=◌
abbrev ◌>>=◌ : {A B : Type 0} → Option A → (A → Option B) → Option B
o >>= next = option_and_then next o

-- whether this name stands in front
abbrev pub begins : List ℕ → List ℕ → Bool
begins bytes name = starts_with (λ a b. a == b) bytes name

-- the unit whose name stands in front: its nanoseconds, and how many bytes the name has. A micro sign has two codes.
abbrev pub unit_at : List ℕ → Option (ℕ × ℕ)
unit_at bytes =
    if begins bytes (codes "ns") then Some (1, 2) else
    (if begins bytes (codes "us") then Some (1000, 2) else
    (if begins bytes (194 ∷ 181 ∷ 115 ∷ []) then Some (1000, 3) else
    (if begins bytes (206 ∷ 188 ∷ 115 ∷ []) then Some (1000, 3) else
    (if begins bytes (codes "ms") then Some (1000000, 2) else
    (if begins bytes (codes "s") then Some (1000000000, 1) else
    (if begins bytes (codes "m") then Some (60000000000, 1) else
    (if begins bytes (codes "h") then Some (3600000000000, 1) else None)))))))

-- how many digits stand in front
abbrev pub digits : List ℕ → ℕ
digits bytes = prefix_len is_digit bytes

-- a part of a unit: so many of this power of ten, and what stands behind its digits
pub record Fraction : Type 0 where
  pub number : ℕ
  pub power : ℕ
  pub rest : List ℕ

-- the digits behind a point, one to nine of them
unfoldable pub fraction_behind : List ℕ → Option Fraction
fraction_behind bytes =
    if nat_lt 9 (digits bytes) then None else
    option_map (λ n. record { number = n; power = 10 ^ digits bytes; rest = drop (digits bytes) bytes }) (number_of (take (digits bytes) bytes))

-- the point in front with its digits; without a point no part
unfoldable pub fraction_at : List ℕ → Option Fraction
fraction_at bytes = if begins bytes (codes ".") then fraction_behind (drop 1 bytes) else Some (record { number = 0; power = 1; rest = bytes })

-- a number in front with its unit, in nanoseconds rounded down, and what stands behind it
unfoldable pub amount_at : List ℕ → Option (ℕ × List ℕ)
amount_at bytes = do
  whole ← number_of (take (digits bytes) bytes)
  part ← fraction_at (drop (digits bytes) bytes)
  unit ← unit_at part.rest
  Some (whole * unit.0 + part.number * unit.0 / part.power, drop unit.1 part.rest)

-- the longest time that is read, in nanoseconds: 10,000 seconds, and what is less than a microsecond
abbrev pub longest : ℕ
longest = 10000000000999

-- a time with one more amount behind it, and what stands behind that
abbrev pub with_amount : ℕ → List ℕ → Option (ℕ × List ℕ)
with_amount so_far bytes = amount_at bytes >>= λ amount. if nat_le (so_far + amount.0) longest then Some (so_far + amount.0, amount.1) else None

-- the time of a text of amounts, at least one, in nanoseconds
unfoldable pub time_of : List ℕ → Option ℕ
time_of bytes = if length bytes == 0 then None else steps with_amount (length bytes) 0 bytes

-- a part of the code, without where it lies in memory
abbrev pub fraction : code.Fraction → Fraction
fraction part = record { number = part.number; power = part.power; rest = part.rest.now }
