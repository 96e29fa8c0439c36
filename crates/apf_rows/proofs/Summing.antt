-- The counts and sums of requests, with one more.
use Rattle.std.proofs.Common.{◌≡◌, ℕ, ◌+◌, List, [], ◌∷◌, ◌++◌, length, max, refl, sym, ap, ◌∙◌, length-append, arith}
use Rattle.apf_stream.specs.declared.ended.Ended.{Ended}
use Rattle.apf_rows.specs.declared.sums.Sums.{Sums}
use Rattle.apf_rows.specs.Accounts.{AreSums, cancels, executes, greatest, long_of, rejects, seat_time_of, total, with_one}
use Rattle.apf_stream.specs.Waits.{wait_of}

total_then : (of : Ended → ℕ) (told : List Ended) (e : Ended) → total of (told ++ e ∷ []) ≡ total of told + of e
total_then of [] e = omega arith
total_then of (x ∷ told) e = let r = total_then of told e in omega arith

greatest_then : (of : Ended → ℕ) (told : List Ended) (e : Ended) → greatest of (told ++ e ∷ []) ≡ max (greatest of told) (of e)
greatest_then of [] e = omega arith
greatest_then of (x ∷ told) e = let r = greatest_then of told e in omega arith

pub more_sums : (told : List Ended) (e : Ended) (s : Sums) → AreSums told s → AreSums (told ++ e ∷ []) (with_one e s)
more_sums told e s are = record {
  requests = ap (λ (n : ℕ). n + 1) are.requests ∙ sym (length-append told (e ∷ []));
  executed = ap (λ (n : ℕ). n + executes e.decision) are.executed ∙ sym (total_then (λ x. executes x.decision) told e);
  rejected = ap (λ (n : ℕ). n + rejects e.decision) are.rejected ∙ sym (total_then (λ x. rejects x.decision) told e);
  cancelled = ap (λ (n : ℕ). n + cancels e.decision) are.cancelled ∙ sym (total_then (λ x. cancels x.decision) told e);
  seat_time = ap (λ (n : ℕ). n + seat_time_of e) are.seat_time ∙ sym (total_then seat_time_of told e);
  waited = ap (λ (n : ℕ). n + wait_of e) are.waited ∙ sym (total_then wait_of told e);
  longest = ap (λ (n : ℕ). max n (long_of e.decision (wait_of e))) are.longest ∙ sym (greatest_then (λ x. long_of x.decision (wait_of x)) told e);
  last = ap (λ (n : ℕ). max n e.over_at) are.last ∙ sym (greatest_then (λ x. x.over_at) told e);
}
