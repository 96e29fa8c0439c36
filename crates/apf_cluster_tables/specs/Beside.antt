-- Two texts of columns, one beside the other.
use Rattle.std.specs.Prelude.{ℕ, zero, suc, List, [], ◌∷◌, ◌++◌, take, drop, nat_eq, bytes_eq, if◌then◌else◌, codes}

-- the place of the first blank, and the end where there is none
abbrev pub blank_of : List ℕ → ℕ
blank_of [] = 0
blank_of (b ∷ text) = if nat_eq b 32 then 0 else suc (blank_of text)

-- what stands before the first blank
abbrev pub word_of : List ℕ → List ℕ
word_of text = take (blank_of text) text

-- what stands from the first blank on
abbrev pub rest_of : List ℕ → List ℕ
rest_of text = drop (blank_of text) text

-- two words: one of them where they are the same
unfoldable pub beside : List ℕ → List ℕ → List ℕ
beside one other = if bytes_eq one other then one else one ++ codes ">" ++ other

-- a column of two texts that begin with it, one beside the other, with a blank before it
unfoldable pub column_beside : List ℕ → List ℕ → List ℕ
column_beside one other = codes " " ++ beside (word_of one) (word_of other)

-- this many columns of two texts, in each of which a blank stands before each column: each beside that of the other text
unfoldable pub columns_beside : ℕ → List ℕ → List ℕ → List ℕ
columns_beside zero one other = []
columns_beside (suc columns) one other =
    column_beside (drop 1 one) (drop 1 other) ++ columns_beside columns (rest_of (drop 1 one)) (rest_of (drop 1 other))
