-- Where a value lies on a scale, and the marks of the axis of time.
use Rattle.std.specs.Prelude.{◌≡◌, ℕ, ◌*◌, ◌^◌, ◌/◌, ◌≤◌, ◌⊎◌, min, ◌==◌, nat_le, if◌then◌else◌, List, codes}
use Rattle.apf_picture.specs.declared.scale.Unit.{Unit}
use Rattle.apf_picture.specs.declared.scale.Unit.TheVariants.{Microseconds, Milliseconds, Seconds, Minutes, Hours, Days}

-- where a value lies on a scale of this size, on which the whole is at the end; what is more is there, too
abbrev pub scaled_of : (value whole size : ℕ) → ℕ
scaled_of value whole size = if whole == 0 then 0 else min value whole * size / whole

-- the longest unit of which the time has one at least
abbrev pub unit_by : ℕ → Unit
unit_by time =
    if nat_le 86400000000 time then Days
    else (if nat_le 3600000000 time then Hours
    else (if nat_le 60000000 time then Minutes
    else (if nat_le 1000000 time then Seconds
    else (if nat_le 1000 time then Milliseconds
    else Microseconds))))

-- the longest unit of which it has four at least
abbrev pub unit_of : ℕ → Unit
unit_of time = unit_by (time / 4)

-- in microseconds
abbrev pub unit_length : Unit → ℕ
unit_length Microseconds = 1
unit_length Milliseconds = 1000
unit_length Seconds = 1000000
unit_length Minutes = 60000000
unit_length Hours = 3600000000
unit_length Days = 86400000000

-- as XML has it
abbrev pub unit_name : Unit → List ℕ
unit_name Microseconds = codes "&#181;s"
unit_name Milliseconds = codes "ms"
unit_name Seconds = codes "s"
unit_name Minutes = codes "min"
unit_name Hours = codes "h"
unit_name Days = codes "d"

-- 1, 2 or 5 times a power of ten of units
pub record IsRound (unit step : ℕ) : Type 0 where
  pub power : ℕ
  pub is : (step ≡ 10 ^ power * unit) ⊎ ((step ≡ 2 * (10 ^ power * unit)) ⊎ (step ≡ 5 * (10 ^ power * unit)))

-- the least of these such that marks that are so far apart are eleven at most
pub record IsStep (end unit step : ℕ) : Type 0 where
  pub round : IsRound unit step
  pub few : end ≤ step * 10
  pub least : (other : ℕ) → IsRound unit other → end ≤ other * 10 → step ≤ other
