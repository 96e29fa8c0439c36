-- What a text between quotes says.
use Rattle.std.specs.Prelude.{ℕ, ◌+◌, ◌*◌, ◌==◌, ◌&&◌, ◌||◌, List, [], ◌∷◌, ◌++◌, length, take, drop, nat_le, nat_lt, if◌then◌else◌, Option, Some, None, option_map, option_and_then}
use Rattle.std.specs.Char.{encode_utf8}
use Rattle.apf_request_lines.specs.declared.texts.Piece.{Piece}
use Rattle.apf_request_lines.specs.declared.texts.Piece.TheVariants.{Byte, Character}
use Rattle.apf_request_lines.specs.Numbers.{hex_digit, hex_from}
use Rattle.apf_request_lines.specs.Pairs.{Written, backslash}
use Rattle.apf_request_lines.specs.Steps.{steps}

-- the bytes of a piece, which is one byte, or a character in UTF-8
abbrev pub bytes_of : Piece → List ℕ
bytes_of (Byte b) = b ∷ []
bytes_of (Character c) = encode_utf8 c

-- what a letter behind a backslash stands for: \a \b \t \n \v \f \r, and a quote, an apostrophe and a backslash for themselves
abbrev pub escaped : ℕ → Option ℕ
escaped letter =
    if letter == 97 then Some 7 else
    (if letter == 98 then Some 8 else
    (if letter == 116 then Some 9 else
    (if letter == 110 then Some 10 else
    (if letter == 118 then Some 11 else
    (if letter == 102 then Some 12 else
    (if letter == 114 then Some 13 else
    (if letter == 34 || (letter == 39 || (letter == 92)) then Some letter else None)))))))

-- the character of this number: not one of the numbers that are halves of a character in UTF-16
abbrev pub character : ℕ → Option ℕ
character code = if nat_lt code 55296 || (nat_le 57344 code && nat_lt code 1114112) then Some code else None

-- behind \x: a byte by its two hexadecimal digits, and what stands behind it
abbrev pub byte_at : List ℕ → Option (Piece × List ℕ)
byte_at [] = None
byte_at (a ∷ []) = None
byte_at (a ∷ b ∷ bytes) = option_and_then (λ high. option_map (λ low. (Byte (16 * high + low), bytes)) (hex_digit b)) (hex_digit a)

-- behind \u or \U: a character by its number in so many hexadecimal digits, and what stands behind it
unfoldable pub character_at : ℕ → List ℕ → Option (Piece × List ℕ)
character_at count bytes =
    if nat_lt (length bytes) count then None else
    option_and_then (λ code. option_map (λ c. (Character c, drop count bytes)) (character code)) (hex_from 0 (take count bytes))

-- a letter that stands for a byte, and what stands behind it
abbrev pub letter_at : ℕ → List ℕ → Option (Piece × List ℕ)
letter_at letter bytes = option_map (λ b. (Byte b, bytes)) (escaped letter)

-- behind a backslash: the piece that it begins, and what stands behind it
unfoldable pub escape_at : List ℕ → Option (Piece × List ℕ)
escape_at [] = None
escape_at (letter ∷ bytes) =
    if letter == 120 then byte_at bytes else
    (if letter == 117 then character_at 4 bytes else
    (if letter == 85 then character_at 8 bytes else
    letter_at letter bytes))

-- the first piece, and what stands behind it
unfoldable pub piece_at : List ℕ → Option (Piece × List ℕ)
piece_at [] = None
piece_at (b ∷ bytes) = if b == backslash then escape_at bytes else Some (Byte b, bytes)

-- a text with one more piece behind it
abbrev pub with_piece : List ℕ → List ℕ → Option (List ℕ × List ℕ)
with_piece so_far bytes = option_map (λ piece. (so_far ++ bytes_of piece.0, piece.1)) (piece_at bytes)

-- what a text between quotes says, piece by piece
unfoldable pub text_of : List ℕ → Option (List ℕ)
text_of bytes = steps with_piece (length bytes) [] bytes

-- what a value says: between quotes by its pieces, and else as it stands
abbrev pub said : Written → Option (List ℕ)
said value = if value.is_quoted then text_of value.bytes else Some value.bytes
