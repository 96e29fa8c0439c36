-- A text as JSON has it.
use Rattle.std.specs.Prelude.{ℕ, zero, suc, ◌+◌, ◌-◌, ◌/◌, ◌%◌, List, [], ◌∷◌, ◌++◌, get_or, Bool, ◌&&◌, ◌||◌, ◌==◌, nat_le, nat_lt, if◌then◌else◌, Option, Some, None, codes}

-- a digit of a hexadecimal number: 48 is `0`, and 97 is `a`
abbrev pub digit_of : ℕ → ℕ
digit_of value = if nat_lt value 10 then 48 + value else 97 + (value - 10)

-- the letter that stands after a backslash for a byte, where JSON has one: for the quote, the backslash, and five control characters
abbrev pub letter_of : ℕ → Option ℕ
letter_of byte =
    if byte == 34 then Some 34
    else (if byte == 92 then Some 92
    else (if byte == 10 then Some 110
    else (if byte == 13 then Some 114
    else (if byte == 9 then Some 116
    else (if byte == 8 then Some 98
    else (if byte == 12 then Some 102
    else None))))))

-- a byte by its letter; without one a control character by its number, and any other byte as it is
abbrev pub escape_by : Option ℕ → ℕ → List ℕ
escape_by (Some letter) byte = 92 ∷ letter ∷ []
escape_by None byte = if nat_lt byte 32 then codes "\\u00" ++ digit_of (byte / 16) ∷ digit_of (byte % 16) ∷ [] else byte ∷ []

-- what stands between the quotes for a byte
abbrev pub escape_of : ℕ → List ℕ
escape_of byte = escape_by (letter_of byte) byte

-- from the one number on, and up to the other
abbrev pub is_within : (low high byte : ℕ) → Bool
is_within low high byte = nat_le low byte && nat_le byte high

-- the number of the character that begins with this byte, with these two behind it, and how many of these are its own; if it is one that
-- a terminal obeys: U+007F to U+009F, and those that turn the direction of writing, which are U+061C, U+200E, U+200F, U+202A to U+202E, and
-- U+2066 to U+2069. Of the last ones the first bytes are those of U+2000 or of U+2040.
abbrev pub obeyed_by : (first second third : ℕ) → Option (ℕ × ℕ)
obeyed_by first second third =
    if first == 127 then Some (127, 0)
    else (if (first == 194) && is_within 128 159 second then Some (second, 1)
    else (if (first == 216) && (second == 156) then Some (1564, 1)
    else (if ((first == 226) && (second == 128)) && (is_within 142 143 third || is_within 170 174 third) then Some (8192 + (third - 128), 2)
    else (if ((first == 226) && (second == 129)) && is_within 166 169 third then Some (8256 + (third - 128), 2)
    else None))))

-- a character by its number
abbrev pub number_text : ℕ → List ℕ
number_text n = codes "\\u" ++ digit_of (n / 4096 % 16) ∷ digit_of (n / 256 % 16) ∷ digit_of (n / 16 % 16) ∷ digit_of (n % 16) ∷ []

-- what stands between the quotes for a character that is obeyed, and else for its first byte
abbrev pub shown_by : Option (ℕ × ℕ) → ℕ → List ℕ
shown_by (Some obeyed) byte = number_text obeyed.0
shown_by None byte = escape_of byte

-- how many bytes of the character are passed over
abbrev pub more_of : Option (ℕ × ℕ) → ℕ
more_of (Some obeyed) = obeyed.1
more_of None = 0

-- what stands between the quotes for a text, of which this many bytes are passed over
abbrev pub escapes_from : ℕ → List ℕ → List ℕ
escapes_from passed [] = []
escapes_from (suc passed) (byte ∷ bytes) = escapes_from passed bytes
escapes_from zero (byte ∷ bytes) =
    shown_by (obeyed_by byte (get_or bytes 0 0) (get_or bytes 1 0)) byte
    ++ escapes_from (more_of (obeyed_by byte (get_or bytes 0 0) (get_or bytes 1 0))) bytes

-- what stands between the quotes for a text
abbrev pub escapes_of : List ℕ → List ℕ
escapes_of text = escapes_from 0 text

-- a text between quotes
unfoldable pub json_text : List ℕ → List ℕ
json_text text = codes "\"" ++ escapes_of text ++ codes "\""
