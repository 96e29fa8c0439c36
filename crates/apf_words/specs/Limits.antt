-- The limits of a level.
use Rattle.std.specs.Prelude.{ℕ}

-- the largest limit, in seats
abbrev pub max_limit : ℕ
max_limit = 10000

-- the most requests
abbrev pub max_requests : ℕ
max_requests = 10000

-- the largest width, in seats, and with it the most seats in use at once
abbrev pub max_width : ℕ
max_width = 20000

-- the largest cost, which a dispatch is charged, in a unit of the caller's
abbrev pub max_cost : ℕ
max_cost = 4294967295

-- the most Stations
abbrev pub max_stations : ℕ
max_stations = 64

-- the most queues
abbrev pub max_queues : ℕ
max_queues = 1024

-- the largest length limit of a queue
abbrev pub max_queue_length : ℕ
max_queue_length = 10000
