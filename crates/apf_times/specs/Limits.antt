-- The largest times, in microseconds, and the most requests of a calendar.
use Rattle.std.specs.Prelude.{ℕ, ◌*◌, ◌^◌}

-- the latest arrival
abbrev pub max_arrival : ℕ
max_arrival = 10 ^ 12

-- the longest run
abbrev pub max_run : ℕ
max_run = 10 ^ 10

-- the longest patience
abbrev pub max_patience : ℕ
max_patience = 10 ^ 9

-- the most requests
abbrev pub max_courses : ℕ
max_courses = 10000

-- the longest wait
abbrev pub max_wait : ℕ
max_wait = 2 * 10 ^ 14
