-- The requests of one row, and their numbers.
use Rattle.std.specs.Prelude.{◌≡◌, ℕ, ◌+◌, ◌*◌, min, List, [], ◌∷◌, ◌++◌, length, map, All, filter, count_by, ◌==◌, if◌then◌else◌, Bool, true, false}
use Rattle.apf_picture.specs.declared.life.Fate.{Fate}
use Rattle.apf_picture.specs.declared.life.Fate.TheVariants.{Executed, Rejected, GaveUp}
use Rattle.apf_picture.specs.declared.life.Life.{Life}
use Rattle.apf_picture.specs.declared.row.Numbers.{Numbers}
use Rattle.apf_picture.specs.declared.row.Row.{Row}
use Rattle.apf_picture.specs.Scales.{scaled_of}
use Rattle.std.specs.List.{range_with_len}
use Rattle.apf_picture.specs.Columns.{greatest_of}
use Rattle.apf_picture.specs.Labels.{Called, called}

abbrev pub is_fate : Fate → Fate → Bool
is_fate Executed Executed = true
is_fate Executed Rejected = false
is_fate Executed GaveUp = false
is_fate Rejected Executed = false
is_fate Rejected Rejected = true
is_fate Rejected GaveUp = false
is_fate GaveUp Executed = false
is_fate GaveUp Rejected = false
is_fate GaveUp GaveUp = true

-- how many of the requests ended so
abbrev pub count_of : Fate → List Life → ℕ
count_of fate lives = count_by (λ life. is_fate fate life.fate) lives

-- how long a request waited, if it ended so
abbrev pub wait_of : Fate → Life → ℕ
wait_of fate life = if is_fate fate life.fate then life.wait else 0

-- the longest wait of the requests that ended so
abbrev pub longest_of : Fate → List Life → ℕ
longest_of fate lives = greatest_of (map (wait_of fate) lives)

-- the numbers of these requests
abbrev pub numbers_of : List Life → Numbers
numbers_of lives = record {
  requests = length lives;
  executed = count_of Executed lives;
  rejected = count_of Rejected lives;
  gave_up = count_of GaveUp lives;
  longest = longest_of Executed lives;
  longest_given_up = longest_of GaveUp lives;
}

-- the requests of a row
abbrev pub members_of : List Life → ℕ → List Life
members_of lives row = filter (λ life. life.row == row) lives

abbrev pub lives_in : Row → List Life
lives_in row = row.lives.items

-- how high the bars of this many requests are together: at most 6 pixels each, and by their share of all requests
abbrev pub tall_of : (members requests : ℕ) → ℕ
tall_of members requests = min (6 * members) (30 + scaled_of members requests 240)

-- the row has the requests of its number, and their numbers
pub record IsRow (lives : List Life) (row : Row) : Type 0 where
  pub members : lives_in row ≡ members_of lives row.number
  pub numbers : row.numbers ≡ numbers_of (members_of lives row.number)
  pub tall : row.tall ≡ tall_of (length (members_of lives row.number)) (length lives)

abbrev pub number_in : Row → ℕ
number_in row = row.number

abbrev pub label_in : Row → Called
label_in row = called row.label

-- this many rows, from the first on, with these labels
pub record AreRows (lives : List Life) (label : ℕ → Called) (count : ℕ) (rows : List Row) : Type 0 where
  pub numbers : map number_in rows ≡ range_with_len 0 count
  pub labels : map label_in rows ≡ map label (range_with_len 0 count)
  pub each : All (IsRow lives) rows

-- there is one row more, of this number and this label
pub record IsOneMore (lives : List Life) (number : ℕ) (label : Called) (old new : List Row) : Type 0 where
  pub row : Row
  pub is : new ≡ old ++ row ∷ []
  pub has : IsRow lives row
  pub number_is : number_in row ≡ number
  pub label_is : label_in row ≡ label
