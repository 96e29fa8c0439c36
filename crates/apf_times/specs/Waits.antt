-- How waits are kept: as they are while they are few, and counted by their first eight binary digits after that.
use Rattle.std.specs.Prelude.{◌≡◌, ℕ, ◌+◌, ◌-◌, ◌*◌, ◌/◌, ◌^◌, ◌<◌, ◌≤◌, ◌==◌, Bool, true, false, List, length, slice_index, count_by, Option, Some, None, IsPermutation}
use Rattle.std.specs.List.{AllByRecursion}
use Rattle.std.specs.Int.{w64, leading_zeros}
use Rattle.apf_times.specs.Limits.{max_wait}
use Rattle.apf_times.specs.Percentiles.{IsPercentile}

-- the most waits that are kept as they are
abbrev pub max_exact : ℕ
max_exact = 10000

-- how many binary digits a number has behind its first eight
unfoldable pub digits_behind : ℕ → ℕ
digits_behind n = 64 - leading_zeros w64 n - 8

-- the number with its first eight binary digits, and zeros behind them
unfoldable pub shortened : ℕ → ℕ
shortened n = n / 2 ^ digits_behind n * 2 ^ digits_behind n

-- The place of a number among those that have zeros behind their first eight binary digits, in ascending order. There are
-- 128 of each length above eight digits.
unfoldable pub place_of : ℕ → ℕ
place_of n = 128 * digits_behind n + n / 2 ^ digits_behind n

-- how many places there are up to the longest wait
abbrev pub max_places : ℕ
max_places = 5302

-- What contracts see of counted waits.
pub record TallyView : Type 0 where
  -- how many were counted
  pub total : ℕ
  -- how many have each place
  pub by_place : List ℕ

-- What contracts see of kept waits.
pub record WaitsView : Type 0 where
  -- the waits as they are
  pub exact : List ℕ
  -- the counted waits, if they are counted
  pub counts : Option TallyView

-- These waits were counted: the count of a place is how many of them have it.
pub record AreCounted (waits : List ℕ) (v : TallyView) : Type 0 where
  pub total : v.total ≡ length waits
  pub by_place : (place : ℕ) → place < max_places → slice_index v.by_place place ≡ count_by (λ w. place_of w == place) waits
  pub in_range : AllByRecursion (λ w. w ≤ max_wait) waits

-- These waits were added: they are kept as they are, or there are more than that and they are counted.
abbrev pub AreKeptAs : List ℕ → List ℕ → Option TallyView → Type 0
AreKeptAs waits exact None = (length waits ≤ max_exact) × IsPermutation waits exact
AreKeptAs waits exact (Some counts) = (max_exact < length waits) × AreCounted waits counts

-- these waits were added, in any order
abbrev pub AreKept : List ℕ → WaitsView → Type 0
AreKept waits v = AreKeptAs waits v.exact v.counts

-- how many were added
abbrev pub number_as : List ℕ → Option TallyView → ℕ
number_as exact None = length exact
number_as exact (Some counts) = counts.total

abbrev pub number : WaitsView → ℕ
number v = number_as v.exact v.counts

-- whether there is nothing there
abbrev pub is_absent : Option TallyView → Bool
is_absent None = true
is_absent (Some counts) = false

-- whether the waits are kept as they are
abbrev pub is_exact : WaitsView → Bool
is_exact v = is_absent v.counts

-- a wait as it is, or shortened
abbrev pub as_kept : Bool → ℕ → ℕ
as_kept true wait = wait
as_kept false wait = shortened wait

-- it is the percentile of these waits, which have one, as it is or shortened
pub record IsKeptPercentile (exact : Bool) (percent : ℕ) (waits : List ℕ) (result : ℕ) : Type 0 where
  pub wait : ℕ
  pub is_percentile : IsPercentile percent waits wait
  pub is : result ≡ as_kept exact wait
