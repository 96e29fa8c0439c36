-- Changes, and how much they are together.
use Rattle.std.specs.Prelude.{◌≡◌, ℕ, ◌+◌, List, nat_le, if◌then◌else◌, max, map, length, take, sum_by}
use Rattle.std.specs.List.{range_with_len}
use Rattle.apf_picture.specs.declared.span.Span.{Span}
use Rattle.apf_picture.specs.declared.totals.Change.{Change}

abbrev pub amount_of : Change → ℕ
amount_of change = change.amount

-- how much a change is that comes until the time
abbrev pub amount_until : (time : ℕ) → Change → ℕ
amount_until time change = if nat_le change.time time then change.amount else 0

-- the same of all
abbrev pub sum_until : (time : ℕ) → List Change → ℕ
sum_until time changes = sum_by (amount_until time) changes

-- the sum of this many of the changes, the first ones
abbrev pub sum_of_first : List Change → (count : ℕ) → ℕ
sum_of_first changes count = sum_by amount_of (take count changes)

-- at each place the sum of as many changes
abbrev pub AreSums : List Change → List ℕ → Type 0
AreSums changes sums = sums ≡ map (sum_of_first changes) (range_with_len 0 (length changes + 1))

-- a span begins and ends. One that ends before it begins ends when it begins
abbrev pub beginning_of : Span → Change
beginning_of span = record { time = span.from; amount = span.amount }

abbrev pub end_of : Span → Change
end_of span = record { time = max span.from span.to; amount = span.amount }
