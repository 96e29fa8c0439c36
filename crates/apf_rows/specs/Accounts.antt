-- What requests that were told came to.
use Rattle.std.specs.Prelude.{◌≡◌, ℕ, ◌+◌, ◌*◌, ◌^◌, ◌≤◌, Bool, List, [], ◌∷◌, fold, length, max, nat_le, Option, Some, None, IfSome}
use Rattle.apf_words.specs.declared.decision.Decision.{Decision}
use Rattle.apf_words.specs.declared.decision.Decision.TheVariants.{Execute, QueueFull, Closed, Cancelled, ConcurrencyLimit}
use Rattle.apf_times.specs.Limits.{max_wait}
use Rattle.apf_times.specs.Waits.{AreKept, IsKeptPercentile, WaitsView, max_exact}
use Rattle.apf_stream.specs.States.{IsAsked}
use Rattle.apf_stream.specs.Waits.{wait_of}
use Rattle.apf_stream.specs.declared.ended.Ended.{Ended}
use Rattle.apf_rows.specs.declared.sums.Sums.{Sums}
use Rattle.apf_rows.specs.declared.account.Figures.{Figures}

-- the seat-time of a request that was given its seats, and of no other
abbrev pub taken : Option ℕ → ℕ → ℕ
taken None time = 0
taken (Some since) time = time

-- its width times how long it ran, if it was given its seats
abbrev pub seat_time_of : Ended → ℕ
seat_time_of e = taken e.since (e.hold.asked.width * e.hold.asked.times.runs_for)

-- one for an execution
abbrev pub executes : Decision → ℕ
executes Execute = 1
executes QueueFull = 0
executes Closed = 0
executes Cancelled = 0
executes ConcurrencyLimit = 0

-- one for a rejection
abbrev pub rejects : Decision → ℕ
rejects Execute = 0
rejects QueueFull = 1
rejects Closed = 1
rejects Cancelled = 0
rejects ConcurrencyLimit = 1

-- one for a cancellation
abbrev pub cancels : Decision → ℕ
cancels Execute = 0
cancels QueueFull = 0
cancels Closed = 0
cancels Cancelled = 1
cancels ConcurrencyLimit = 0

-- the sum of a number of each request
abbrev pub total : (Ended → ℕ) → List Ended → ℕ
total of [] = 0
total of (e ∷ told) = of e + total of told

-- the greatest of a number of each request, or 0
abbrev pub greatest : (Ended → ℕ) → List Ended → ℕ
greatest of [] = 0
greatest of (e ∷ told) = max (of e) (greatest of told)

-- the wait of a request that was executed, and of no other
abbrev pub executed_wait : Decision → ℕ → List ℕ
executed_wait Execute wait = wait ∷ []
executed_wait QueueFull wait = []
executed_wait Closed wait = []
executed_wait Cancelled wait = []
executed_wait ConcurrencyLimit wait = []

-- a wait before others, if there is one
abbrev pub before : List ℕ → List ℕ → List ℕ
before [] waits = waits
before (wait ∷ _) waits = wait ∷ waits

-- the waits of those that were executed, the last that was told first
abbrev pub waits_of : List Ended → List ℕ
waits_of told = fold (λ waits e. before (executed_wait e.decision (wait_of e)) waits) [] told

-- the wait of a request that was executed, or 0
abbrev pub long_of : Decision → ℕ → ℕ
long_of Execute wait = wait
long_of QueueFull wait = 0
long_of Closed wait = 0
long_of Cancelled wait = 0
long_of ConcurrencyLimit wait = 0

-- the counts and sums of these requests
pub record AreSums (told : List Ended) (s : Sums) : Type 0 where
  pub requests : s.requests ≡ length told
  pub executed : s.executed ≡ total (λ e. executes e.decision) told
  pub rejected : s.rejected ≡ total (λ e. rejects e.decision) told
  pub cancelled : s.cancelled ≡ total (λ e. cancels e.decision) told
  pub seat_time : s.seat_time ≡ total seat_time_of told
  pub waited : s.waited ≡ total wait_of told
  -- the longest wait of those that were executed
  pub longest : s.longest ≡ greatest (λ e. long_of e.decision (wait_of e)) told
  -- when the last of them was over
  pub last : s.last ≡ greatest (λ e. e.over_at) told

-- the counts and sums with one request more
abbrev pub with_one : Ended → Sums → Sums
with_one e s = record {
  requests = s.requests + 1;
  executed = s.executed + executes e.decision;
  rejected = s.rejected + rejects e.decision;
  cancelled = s.cancelled + cancels e.decision;
  seat_time = s.seat_time + seat_time_of e;
  waited = s.waited + wait_of e;
  longest = max s.longest (long_of e.decision (wait_of e));
  last = max s.last e.over_at;
}

-- each number that a request asked for is in its range, and it was over while there are times
pub record IsInReach (e : Ended) : Type 0 where
  pub asked : IsAsked e.hold.asked
  pub over : e.over_at ≤ max_wait
  pub since : IfSome e.since (λ at. at ≤ max_wait)

-- no sum is more than that many requests can come to
pub record AreBounded (s : Sums) : Type 0 where
  pub executed : s.executed ≤ s.requests
  pub rejected : s.rejected ≤ s.requests
  pub cancelled : s.cancelled ≤ s.requests
  pub seat_time : s.seat_time ≤ s.requests * 2 ^ 48
  pub waited : s.waited ≤ s.requests * 2 ^ 48

-- What contracts see of an account.
pub record AccountView : Type 0 where
  pub sums : Sums
  -- the waits of those that were executed
  pub waits : WaitsView

-- the account is of these requests
pub record IsAccount (told : List Ended) (a : AccountView) : Type 0 where
  pub sums : AreSums told a.sums
  pub waits : AreKept (waits_of told) a.waits

-- no sum is too large, and as many waits are kept as were executed
pub record IsHeld (a : AccountView) : Type 0 where
  pub bounded : AreBounded a.sums
  pub waits : List ℕ
  pub kept : AreKept waits a.waits
  pub many : length waits ≡ a.sums.executed

-- the percentile of these waits, as it is or shortened, or 0 if there are none
abbrev pub IsRank : Bool → ℕ → List ℕ → ℕ → Type 0
IsRank exact percent [] result = result ≡ 0
IsRank exact percent (wait ∷ waits) result = IsKeptPercentile exact percent (wait ∷ waits) result

-- The figures of these requests. Percentiles are shortened once there are more than 10,000 waits.
pub record AreFigures (told : List Ended) (f : Figures) : Type 0 where
  pub sums : AreSums told f.sums
  pub exact : f.is_exact ≡ nat_le (length (waits_of told)) max_exact
  pub median : IsRank f.is_exact 50 (waits_of told) f.median
  pub high : IsRank f.is_exact 99 (waits_of told) f.high
