-- What the levels of a cluster are opened with.
use Rattle.std.specs.Prelude.{ℕ, ◌+◌, ◌*◌, min, Option, Some, None, if◌then◌else◌}
use Rattle.apf_words.specs.Limits.{max_limit}
use Rattle.apf_model.specs.declared.config.Config.{Config}
use Rattle.apf_model.specs.declared.response.Response.{Response}
use Rattle.apf_model.specs.declared.response.Response.TheVariants.{Queue, Reject}
use Rattle.apf_objects.specs.declared.level.LevelSettings.{LevelSettings}
use Rattle.apf_objects.specs.declared.level.Queuing.{Queuing}
use Rattle.apf_matching.specs.Limits.{borrowing_of, limits_of, max_seats, percent_of}
use Rattle.apf_matching.specs.declared.limits.LevelLimits.{LevelLimits}
use Rattle.apf_simulator.specs.Lanes.{most_slots}
use Rattle.apf_cluster_tables.specs.Limits.{limit_of}

-- the limits of a level whose nominal one is this, of a server with this many seats
abbrev pub limits_by : LevelSettings → (seats nominal : ℕ) → LevelLimits
limits_by s seats nominal = record { nominal = nominal; lendable = percent_of nominal s.lendable_percent; borrowing = borrowing_of seats nominal s.borrowing_percent }

-- The limits of a level, where all levels have this many shares: its nominal one was fixed, or it is its share of the seats
abbrev pub limits_from : LevelSettings → (seats all : ℕ) → Option ℕ → LevelLimits
limits_from s seats all (Some fixed) = limits_by s seats (min fixed max_seats)
limits_from s seats all None = limits_of s seats all

-- a level with these queues, or without queues
abbrev pub config_with : Option Queuing → ℕ → Config
config_with (Some q) limit = record { limit = limit; queues = q.queues; hand_size = q.hand_size; queue_length_limit = q.queue_length_limit; limit_response = Queue }
config_with None limit = record { limit = limit; queues = 1; hand_size = 1; queue_length_limit = 1; limit_response = Reject }

-- A level of this nominal limit. One that is exempt has as many seats as requests can be there at once, so it holds none back
abbrev pub config_of : LevelSettings → ℕ → Config
config_of s nominal = if s.is_exempt then config_with None max_limit else config_with s.queuing (limit_of nominal)

-- how many requests can wait
abbrev pub waiting_by : Response → ℕ → ℕ
waiting_by Queue room = room
waiting_by Reject room = 0

-- as many slots as requests can execute and wait, and one for a request that arrives; at most as many as a lane can have
abbrev pub slots_of : Config → ℕ
slots_of c = min (c.limit + min (waiting_by c.limit_response (c.queues * c.queue_length_limit)) most_slots + 1) most_slots
