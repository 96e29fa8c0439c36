-- The mean of how long requests ran, in microseconds.
use Rattle.std.specs.Prelude.{ℕ, ◌+◌, ◌-◌, ◌/◌, min, nat_le, if◌then◌else◌}
use Rattle.apf_charges.specs.declared.mean.Mean.{Mean}

-- the mean of none
abbrev pub no_mean : Mean
no_mean = record { count = 0; micros = 0 }

-- what stands for any longer time
abbrev pub longest : ℕ
longest = 4294967295

-- how many a mean is of when one more ran: at most 256
abbrev pub counted : ℕ → ℕ
counted n = min (n + 1) 256

-- a number that goes from m towards t by one part of n, rounded towards m
abbrev pub towards : (m t n : ℕ) → ℕ
towards m t n = if nat_le m t then m + (t - m) / n else m - (m - t) / n

-- the mean when one more ran for t
abbrev pub mean_with : Mean → ℕ → Mean
mean_with mean t = record { count = counted mean.count; micros = towards mean.micros (min t longest) (counted mean.count) }
