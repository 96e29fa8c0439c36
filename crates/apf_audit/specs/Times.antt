-- The instants, waits and runs that an event says, in whole microseconds.
use Rattle.std.specs.Prelude.{ℕ, ◌+◌, ◌-◌, ◌/◌, ℤ, pos, negsuc, int_div, List, ◌&&◌, nat_le, if◌then◌else◌, Option, Some, None, option_and_then, Result, Ok, Err}
use Rattle.jiff_core.specs.declared.error.Error.{Error}
use Rattle.jiff_fmt.specs.Temporal.{parse_timestamp}
use Rattle.jiff_fmt.specs.Friendly.{parse_duration}
use Rattle.apf_times.specs.Limits.{max_run}

-- the longest wait, in nanoseconds
abbrev pub max_wait : ℕ
max_wait = 10000000000000

-- the number, if it is not below 0
abbrev pub natural : ℤ → Option ℕ
natural (pos n) = Some n
natural (negsuc n) = None

-- the microseconds from 1970 on, of nanoseconds
abbrev pub instant_by : Result ℤ Error → Option ℕ
instant_by (Ok nanos) = natural (int_div nanos (pos 1000))
instant_by (Err e) = None

-- the instant that a text says, as RFC 3339 and RFC 9557 have instants
unfoldable pub instant_of : List ℕ → Option ℕ
instant_of text = instant_by (parse_timestamp text)

-- the microseconds of a wait, of nanoseconds
abbrev pub micros_of : ℕ → Option ℕ
micros_of nanos = if nat_le nanos max_wait then Some (nanos / 1000) else None

abbrev pub wait_by : Result ℤ Error → Option ℕ
wait_by (Ok nanos) = option_and_then micros_of (natural nanos)
wait_by (Err e) = None

-- the wait that a text says, as Go writes durations
unfoldable pub wait_of : List ℕ → Option ℕ
wait_of text = wait_by (parse_duration text)

-- the time from one instant to the other without the wait, where a trace can have it
abbrev pub run_of : (received completed wait : ℕ) → Option ℕ
run_of received completed wait =
    if nat_le (received + wait) completed && nat_le (completed - received - wait) max_run then Some (completed - received - wait) else None
