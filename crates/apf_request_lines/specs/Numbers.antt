-- Numbers in digits.
use Rattle.std.specs.Prelude.{ℕ, ◌+◌, ◌-◌, ◌*◌, ◌==◌, ◌&&◌, List, [], ◌∷◌, length, Bool, nat_le, nat_lt, if◌then◌else◌, Option, Some, None, option_and_then}

-- a digit, 0 to 9
abbrev pub is_digit : ℕ → Bool
is_digit byte = nat_le 48 byte && nat_le byte 57

-- a number with one more digit behind it, where it was below 10^17
abbrev pub with_digit : ℕ → ℕ → Option ℕ
with_digit number byte = if is_digit byte && nat_lt number 100000000000000000 then Some (10 * number + (byte - 48)) else None

-- a number with these digits behind it
unfoldable pub number_from : ℕ → List ℕ → Option ℕ
number_from number [] = Some number
number_from number (b ∷ bytes) = option_and_then (λ more. number_from more bytes) (with_digit number b)

-- the number of these digits, at least one, where it is below 10^18
abbrev pub number_of : List ℕ → Option ℕ
number_of bytes = if length bytes == 0 then None else number_from 0 bytes

-- what a hexadecimal digit counts: 0 to 9, a to f or A to F
abbrev pub hex_digit : ℕ → Option ℕ
hex_digit byte =
    if is_digit byte then Some (byte - 48) else
    (if nat_le 97 byte && nat_le byte 102 then Some (byte - 87) else
    (if nat_le 65 byte && nat_le byte 70 then Some (byte - 55) else None))

-- a number with one more hexadecimal digit behind it, where it was below 2^28
abbrev pub with_hex : ℕ → ℕ → Option ℕ
with_hex number byte = option_and_then (λ digit. if nat_lt number 268435456 then Some (16 * number + digit) else None) (hex_digit byte)

-- a number with these hexadecimal digits behind it
unfoldable pub hex_from : ℕ → List ℕ → Option ℕ
hex_from number [] = Some number
hex_from number (b ∷ bytes) = option_and_then (λ more. hex_from more bytes) (with_hex number b)
