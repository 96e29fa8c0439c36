-- The seats in use and the lengths of the queues, at the time of each column.
use Rattle.std.specs.Prelude.{◌≡◌, ℕ, ◌≤◌, max, List, [], ◌∷◌, Bool, false, ◌&&◌, nat_le, nat_lt, nat_eq, ◌==◌, if◌then◌else◌, map, sum_by, count_by, Option, Some, None, IsPermutation, IsSorted}
use Rattle.std.specs.List.{range_with_len, dedup}
use Rattle.std.specs.Ordering.{nat_cmp}
use Rattle.apf_picture.specs.declared.life.Life.{Life}
use Rattle.apf_picture.specs.declared.columns.Area.{Area}
use Rattle.apf_picture.specs.declared.columns.Strip.{Strip}
use Rattle.apf_picture.specs.Scales.{scaled_of}

-- the numbers of the columns
unfoldable pub columns : List ℕ
columns = range_with_len 0 880

-- the time of a column in a run of this length
abbrev pub time_of : (end column : ℕ) → ℕ
time_of end column = scaled_of column 880 end

-- the request is of the row or of one below it, and has its seats at the time
abbrev pub has_seats : (row time : ℕ) → Life → Bool
has_seats row time life = nat_le life.row row && nat_le life.until time && nat_lt time life.ends

-- the seats that it has then
abbrev pub seats_held : (row time : ℕ) → Life → ℕ
seats_held row time life = if has_seats row time life then life.seats else 0

-- the seats in use at the time by the row and those below it
abbrev pub seats_at : List Life → (row time : ℕ) → ℕ
seats_at lives row time = sum_by (seats_held row time) lives

-- the request stands in the queue at the time
abbrev pub is_in : (queue : ℕ) → Option ℕ → Bool
is_in queue None = false
is_in queue (Some other) = other == queue

abbrev pub stands : (queue time : ℕ) → Life → Bool
stands queue time life = is_in queue life.queue && nat_le life.arrives time && nat_lt time life.until

-- how many stand in the queue at the time
abbrev pub length_at : List Life → (queue time : ℕ) → ℕ
length_at lives queue time = count_by (stands queue time) lives

-- the same at the time of each column
unfoldable pub tops_of : List Life → (end row : ℕ) → List ℕ
tops_of lives end row = map (λ column. seats_at lives row (time_of end column)) columns

unfoldable pub lengths_of : List Life → (end queue : ℕ) → List ℕ
lengths_of lives end queue = map (λ column. length_at lives queue (time_of end column)) columns

-- what an area and a strip show
abbrev pub tops_in : Area → List ℕ
tops_in area = area.tops.items

abbrev pub row_in : Area → ℕ
row_in area = area.row

abbrev pub lengths_in : Strip → List ℕ
lengths_in strip = strip.lengths.items

abbrev pub queue_in : Strip → ℕ
queue_in strip = strip.queue

abbrev pub place_in : Strip → ℕ
place_in strip = strip.place

-- the queues in which requests waited, in the order of the requests
abbrev pub before_queues : Option ℕ → List ℕ → List ℕ
before_queues None queues = queues
before_queues (Some queue) queues = queue ∷ queues

abbrev pub all_queues : List Life → List ℕ
all_queues [] = []
all_queues (life ∷ lives) = before_queues life.queue (all_queues lives)

-- each of them once, in the order of their numbers
pub record AreUsedQueues (lives : List Life) (queues : List ℕ) : Type 0 where
  pub sorted : List ℕ
  pub permutation : IsPermutation (all_queues lives) sorted
  pub order : IsSorted nat_cmp sorted
  pub once : queues ≡ dedup nat_eq sorted

-- the greatest of the values, or 0 of none
abbrev pub greatest_of : List ℕ → ℕ
greatest_of [] = 0
greatest_of (value ∷ values) = max value (greatest_of values)

-- the greatest value that a number has over all times
pub record IsMost (f : ℕ → ℕ) (most : ℕ) : Type 0 where
  pub above : (time : ℕ) → f time ≤ most
  pub time : ℕ
  pub reached : f time ≡ most

-- an area shows what its row has
abbrev pub IsArea : List Life → (end : ℕ) → Area → Type 0
IsArea lives end area = tops_in area ≡ tops_of lives end area.row

-- a strip shows what its queue has, and the most that it ever has
pub record IsStrip (lives : List Life) (end : ℕ) (strip : Strip) : Type 0 where
  pub lengths : lengths_in strip ≡ lengths_of lives end strip.queue
  pub most : IsMost (length_at lives strip.queue) strip.most

-- the most that ever stand in one queue
abbrev pub most_waiting : List Strip → ℕ
most_waiting strips = greatest_of (map (λ strip. strip.most) strips)
