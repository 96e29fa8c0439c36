-- What a request took, by how long it ran.
use Rattle.std.specs.Prelude.{ℕ, ◌*◌, max, min}
use Rattle.apf_queue.specs.View.{max_charge}

-- what a request of this width took that ran this many microseconds, in microseconds of a seat: at least 1, and at most 2^46
abbrev pub seat_time_of : ℕ → ℕ → ℕ
seat_time_of wide micros = max 1 (min max_charge (wide * micros))
