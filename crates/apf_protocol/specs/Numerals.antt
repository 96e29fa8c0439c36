-- The numbers of a line.
use Rattle.std.specs.Prelude.{ℕ, ◌-◌, ◌^◌, min, List, length, Bool, ◌&&◌, ◌||◌, not, nat_eq, nat_le, nat_lt, if◌then◌else◌, Option, Some, None, slice_index}
use Rattle.std.specs.List.{list_all}
use Rattle.apf_files.specs.ScriptFile.{decimal}

-- decimal digits, one at least, with no zero before another digit: of any length
abbrev pub is_numeral : List ℕ → Bool
is_numeral digits =
    nat_lt 0 (length digits) && list_all (λ d. nat_le 48 d && nat_le d 57) digits
    && (nat_eq (length digits) 1 || not (nat_eq (slice_index digits 0) 48))

-- the number of a numeral
unfoldable pub numeral : List ℕ → Option ℕ
numeral digits = if is_numeral digits then Some (decimal digits) else None

-- a number, as far as 64 bits can say it
abbrev pub told : ℕ → ℕ
told n = min n (2 ^ 64 - 1)
