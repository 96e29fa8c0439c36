-- How many waits are kept, and which percentiles they have.
use Rattle.std.proofs.Common.{◌≡◌, ℕ, ◌+◌, ◌<◌, ◌≤◌, Bool, true, false, List, [], ◌∷◌, ◌++◌, length, fold, Option, Some, None, refl, sym, ap, ◌∙◌, subst, arith}
use Rattle.std.specs.Prelude.{IsPermutation, nat_le}
use Rattle.std.proofs.lemmas.List.Sorted.{length_permutation}
use Rattle.std.proofs.lemmas.List.Sums.{fold-append}
use Rattle.std.proofs.lemmas.Bool.Decides.{nat_tests}
use Rattle.apf_words.specs.declared.decision.Decision.{Decision}
use Rattle.apf_words.specs.declared.decision.Decision.TheVariants.{Execute, QueueFull, Closed, Cancelled, ConcurrencyLimit}
use Rattle.apf_times.specs.Waits.{AreKept, AreKeptAs, IsKeptPercentile, TallyView, WaitsView, is_absent, is_exact, max_exact, number, number_as}
use Rattle.apf_stream.specs.declared.ended.Ended.{Ended}
use Rattle.apf_rows.specs.Accounts.{IsRank, before, executed_wait, executes, waits_of}
use Rattle.apf_stream.specs.Waits.{wait_of}

number_by : (waits exact : List ℕ) (counts : Option TallyView) → AreKeptAs waits exact counts → number_as exact counts ≡ length waits
number_by waits exact None kept = length_permutation waits exact kept.1
number_by waits exact (Some counts) kept = kept.1.total

-- as many are kept as were added
pub kept_number : (waits : List ℕ) (v : WaitsView) → AreKept waits v → number v ≡ length waits
kept_number waits v kept = number_by waits v.exact v.counts kept

-- one more was told
pub waits_then : (told : List Ended) (e : Ended) → waits_of (told ++ e ∷ []) ≡ before (executed_wait e.decision (wait_of e)) (waits_of told)
waits_then told e = fold-append _ [] told (e ∷ [])

-- as many waits as were executed
pub before_number : (d : Decision) (wait : ℕ) (waits : List ℕ) → length (before (executed_wait d wait) waits) ≡ length waits + executes d
before_number Execute wait waits = omega arith
before_number QueueFull wait waits = omega arith
before_number Closed wait waits = omega arith
before_number Cancelled wait waits = omega arith
before_number ConcurrencyLimit wait waits = omega arith

-- whether the waits are kept as they are
exact_by : (waits exact : List ℕ) (counts : Option TallyView) → AreKeptAs waits exact counts → is_absent counts ≡ nat_le (length waits) max_exact
exact_by waits exact None kept = let low = kept.0 in grind (arith, nat_tests)
exact_by waits exact (Some counts) kept = let high = kept.0 in grind (arith, nat_tests)

pub kept_exact : (waits : List ℕ) (v : WaitsView) → AreKept waits v → is_exact v ≡ nat_le (length waits) max_exact
kept_exact waits v kept = exact_by waits v.exact v.counts kept

-- a percentile that is told, or 0 for no waits
pub rank_of : (exact : Bool) (percent result : ℕ) (waits : List ℕ) → (length waits ≡ 0 → result ≡ 0) → (0 < length waits → IsKeptPercentile exact percent waits result) → IsRank exact percent waits result
rank_of exact percent result [] none some = none refl
rank_of exact percent result (w ∷ waits) none some = some (omega arith)
