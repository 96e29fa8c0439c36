-- Numbers and times in words, as XML has them.
use Rattle.std.specs.Prelude.{ℕ, ◌/◌, ◌%◌, List, [], ◌∷◌, ◌++◌, ◌==◌, nat_lt, if◌then◌else◌, codes, decimal}
use Rattle.apf_picture.specs.declared.row.Numbers.{Numbers}

-- the texts, one after another
abbrev pub joined : List (List ℕ) → List ℕ
joined [] = []
joined (text ∷ texts) = text ++ joined texts

-- a number and a noun, in the plural where the number is not 1
abbrev pub counted_text : ℕ → List ℕ → List ℕ
counted_text number noun = if number == 1 then codes "1 " ++ noun else joined (decimal number ∷ codes " " ∷ noun ∷ codes "s" ∷ [])

-- a time in tenths of a unit
unfoldable pub tenths_text : (time unit : ℕ) → List ℕ → List ℕ
tenths_text time unit name =
    joined (decimal (time / unit) ∷ codes "." ∷ decimal (time % unit / (unit / 10)) ∷ codes " " ∷ name ∷ [])

-- a time in two units
unfoldable pub two_text : ℕ → List ℕ → ℕ → List ℕ → List ℕ
two_text whole name rest smaller =
    joined (decimal whole ∷ codes " " ∷ name ∷ codes " " ∷ decimal rest ∷ codes " " ∷ smaller ∷ [])

-- a time of this many microseconds
abbrev pub time_text : ℕ → List ℕ
time_text time =
    if nat_lt time 1000 then decimal time ++ codes " &#181;s"
    else (if nat_lt time 1000000 then tenths_text time 1000 (codes "ms")
    else (if nat_lt time 60000000 then tenths_text time 1000000 (codes "s")
    else (if nat_lt time 3600000000 then two_text (time / 1000000 / 60) (codes "min") (time / 1000000 % 60) (codes "s")
    else (if nat_lt time 86400000000 then two_text (time / 1000000 / 60 / 60) (codes "h") (time / 1000000 / 60 % 60) (codes "min")
    else two_text (time / 1000000 / 60 / 60 / 24) (codes "d") (time / 1000000 / 60 / 60 % 24) (codes "h")))))

-- how long a request waits at most, in the longest unit of which it is a whole number
abbrev pub patience_text : ℕ → List ℕ
patience_text patience =
    if patience == 0 then codes "patience 0: nobody gives up"
    else (if patience % 1000000 == 0 then joined (codes "patience " ∷ decimal (patience / 1000000) ∷ codes " s" ∷ [])
    else (if patience % 1000 == 0 then joined (codes "patience " ∷ decimal (patience / 1000) ∷ codes " ms" ∷ [])
    else joined (codes "patience " ∷ decimal patience ∷ codes " &#181;s" ∷ [])))

-- how many requests ended how
unfoldable pub endings_text : Numbers → List ℕ
endings_text n =
    joined (decimal n.executed ∷ codes " executed, " ∷ decimal n.rejected ∷ codes " rejected, " ∷ decimal n.gave_up ∷ codes " gave up" ∷ [])

-- how long those waited at most that gave up, if somebody did
unfoldable pub at_most_text : (longest : ℕ) → List ℕ
at_most_text longest = codes " after at most " ++ time_text longest

unfoldable pub after_text : Numbers → List ℕ
after_text n = if n.gave_up == 0 then [] else at_most_text n.longest_given_up

unfoldable pub longest_text : (longest : ℕ) → List ℕ
longest_text longest = codes ", longest wait " ++ time_text longest

-- the same, and the longest wait of who executed
unfoldable pub numbers_text : Numbers → List ℕ
numbers_text n = endings_text n ++ after_text n ++ longest_text n.longest

-- the number of requests, and how they ended
abbrev pub row_numbers_text : Numbers → List ℕ
row_numbers_text n = counted_text n.requests (codes "request") ++ codes ": " ++ numbers_text n
