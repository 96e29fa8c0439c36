-- How long requests waited.
use Rattle.std.specs.Prelude.{ℕ, ◌-◌, Option, Some, None}
use Rattle.apf_stream.specs.declared.ended.Ended.{Ended}

-- when a request did not wait any more: it was given its seats, or was over
abbrev pub waited_until : Option ℕ → ℕ → ℕ
waited_until None over = over
waited_until (Some since) over = since

-- how long a request waited
abbrev pub wait_of : Ended → ℕ
wait_of e = waited_until e.since e.over_at - e.hold.asked.times.arrives_at
