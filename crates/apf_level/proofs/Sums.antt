-- The sums of decisions.
use Rattle.std.proofs.Common.{◌≡◌, ℕ, zero, suc, ◌+◌, ◌<◌, ◌≤◌, Option, Some, None, refl, sym, ap, ◌∙◌, arith, add-one, List, [], ◌∷◌, ◌++◌, length}
use Rattle.std.specs.Prelude.{slice_get}
use Rattle.apf_words.specs.declared.decision.Decision.{Decision}
use Rattle.apf_words.specs.declared.decision.Decision.TheVariants.{Execute, QueueFull, Closed, Cancelled, ConcurrencyLimit}
use Rattle.apf_model.specs.Outcome.{decided, decided_at}
use Rattle.std.proofs.lemmas.Option.{get_or_from_slice_get}
use Rattle.apf_gate.specs.Ends.{WordsView}
use Rattle.apf_book.specs.Laws.{decision_in}
use Rattle.apf_level.specs.declared.report.Counts.{Counts}
use Rattle.apf_level.specs.Reports.{counted, AreSums}

more : (e : Decision) (f : ℕ → Option Decision) (n : ℕ) (d : Decision) → f n ≡ Some d → decided e f (n + 1) ≡ decided e f n + decided_at e (Some d)
more e f n d is = ap (decided e f) (add-one n) ∙ ap (λ (x : Option Decision). decided e f n + decided_at e x) is

pub sums_more : (c : Counts) (f : ℕ → Option Decision) (n : ℕ) (d : Decision) → AreSums c f n → f n ≡ Some d → AreSums (counted c d) f (n + 1)
sums_more c f n Execute s is = record {
  executed = (let m = more Execute f n Execute is in let k = s.executed in omega arith);
  queue_full = (let m = more QueueFull f n Execute is in let k = s.queue_full in omega arith);
  closed = (let m = more Closed f n Execute is in let k = s.closed in omega arith);
  concurrency_limit = (let m = more ConcurrencyLimit f n Execute is in let k = s.concurrency_limit in omega arith);
  cancelled = (let m = more Cancelled f n Execute is in let k = s.cancelled in omega arith);
  all = (let k = s.all in omega arith);
}
sums_more c f n QueueFull s is = record {
  executed = (let m = more Execute f n QueueFull is in let k = s.executed in omega arith);
  queue_full = (let m = more QueueFull f n QueueFull is in let k = s.queue_full in omega arith);
  closed = (let m = more Closed f n QueueFull is in let k = s.closed in omega arith);
  concurrency_limit = (let m = more ConcurrencyLimit f n QueueFull is in let k = s.concurrency_limit in omega arith);
  cancelled = (let m = more Cancelled f n QueueFull is in let k = s.cancelled in omega arith);
  all = (let k = s.all in omega arith);
}
sums_more c f n Closed s is = record {
  executed = (let m = more Execute f n Closed is in let k = s.executed in omega arith);
  queue_full = (let m = more QueueFull f n Closed is in let k = s.queue_full in omega arith);
  closed = (let m = more Closed f n Closed is in let k = s.closed in omega arith);
  concurrency_limit = (let m = more ConcurrencyLimit f n Closed is in let k = s.concurrency_limit in omega arith);
  cancelled = (let m = more Cancelled f n Closed is in let k = s.cancelled in omega arith);
  all = (let k = s.all in omega arith);
}
sums_more c f n Cancelled s is = record {
  executed = (let m = more Execute f n Cancelled is in let k = s.executed in omega arith);
  queue_full = (let m = more QueueFull f n Cancelled is in let k = s.queue_full in omega arith);
  closed = (let m = more Closed f n Cancelled is in let k = s.closed in omega arith);
  concurrency_limit = (let m = more ConcurrencyLimit f n Cancelled is in let k = s.concurrency_limit in omega arith);
  cancelled = (let m = more Cancelled f n Cancelled is in let k = s.cancelled in omega arith);
  all = (let k = s.all in omega arith);
}
sums_more c f n ConcurrencyLimit s is = record {
  executed = (let m = more Execute f n ConcurrencyLimit is in let k = s.executed in omega arith);
  queue_full = (let m = more QueueFull f n ConcurrencyLimit is in let k = s.queue_full in omega arith);
  closed = (let m = more Closed f n ConcurrencyLimit is in let k = s.closed in omega arith);
  concurrency_limit = (let m = more ConcurrencyLimit f n ConcurrencyLimit is in let k = s.concurrency_limit in omega arith);
  cancelled = (let m = more Cancelled f n ConcurrencyLimit is in let k = s.cancelled in omega arith);
  all = (let k = s.all in omega arith);
}

-- a list that goes on as f does
pub get_push : {A : Type 0} (xs : List A) (x : A) (f : ℕ → Option A) → ((r : ℕ) → r < length xs → slice_get xs r ≡ f r) → f (length xs) ≡ Some x → (r : ℕ) → r < length xs + 1 → slice_get (xs ++ x ∷ []) r ≡ f r
get_push [] x f h is zero low = sym is
get_push [] x f h is (suc r) low = absurd (omega (arith, low))
get_push (y ∷ ys) x f h is zero low = h zero (omega arith)
get_push (y ∷ ys) x f h is (suc r) low = get_push ys x (λ k. f (suc k)) (λ k l. h (suc k) (omega (arith, l))) is r (omega (arith, low))

pub get_past : {A : Type 0} (xs : List A) (r : ℕ) → length xs ≤ r → slice_get xs r ≡ None
get_past [] r low = refl
get_past (y ∷ ys) zero low = absurd (omega (arith, low))
get_past (y ∷ ys) (suc r) low = get_past ys r (omega (arith, low))

-- what a word says
pub in_words : (w : WordsView) (r : ℕ) (d : Decision) → slice_get w.decisions r ≡ Some (Some d) → decision_in w r ≡ Some d
in_words w r d e = get_or_from_slice_get w.decisions r (Some d) None e
