-- What a percentile of waits is.
use Rattle.std.specs.Prelude.{◌≡◌, ℕ, ◌*◌, ◌<◌, ◌≤◌, List, length, count_by, Contains, nat_le, nat_lt}

-- The wait is one of these waits. At least this many of a hundred are not above it, and fewer are below it.
pub record IsPercentile (percent : ℕ) (waits : List ℕ) (wait : ℕ) : Type 0 where
  pub is_one : Contains waits wait
  pub enough : percent * length waits ≤ 100 * count_by (λ w. nat_le w wait) waits
  pub fewer_below : 100 * count_by (λ w. nat_lt w wait) waits < percent * length waits

-- The wait is this percentile of these waits, or 0 if there are none.
pub record IsNearestRank (percent : ℕ) (waits : List ℕ) (wait : ℕ) : Type 0 where
  pub none : length waits ≡ 0 → wait ≡ 0
  pub some : 0 < length waits → IsPercentile percent waits wait
