-- How many bins there are, how long they are, and the latest time, in microseconds.
use Rattle.std.specs.Prelude.{ℕ, ◌*◌, ◌^◌}

-- how many bins there are
abbrev pub bin_count : ℕ
bin_count = 400

-- how long a bin is at first
abbrev pub first_width : ℕ
first_width = 1000

-- how many times a bin becomes twice as long at most
abbrev pub most_doublings : ℕ
most_doublings = 42

-- the latest end of a span
abbrev pub most_time : ℕ
most_time = 2 ^ 60

-- how long a bin is that became twice as long so many times
unfoldable pub width_after : ℕ → ℕ
width_after doublings = first_width * 2 ^ doublings
