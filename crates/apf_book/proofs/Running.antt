-- The running numbers of a log.
use Rattle.std.proofs.Common.{◌≡◌, ℕ, ◌+◌, ◌≤◌, Bool, true, false, cond, List, [], ◌∷◌, length, arith}
use Rattle.std.specs.Prelude.{count_by}
use Rattle.std.proofs.lemmas.List.Sums.{sum_by-cons}
use Rattle.apf_history.specs.declared.events.Event.{Event}
use Rattle.apf_model.specs.Outcome.{is_enter, is_full, is_dispatch, is_strike}
use Rattle.apf_book.specs.LedgerKept.{AreRunning}

pub count : (p : Event → Bool) (e : Event) (h : List Event) → count_by p (e ∷ h) ≡ cond (p e) 1 0 + count_by p h
count p e h = sum_by-cons (λ x. cond (p x) 1 0) e h

-- one event more
pub running_after : (h : List Event) (e : Event) (a b c d i j k l : ℕ) → AreRunning h a b c d
    → cond (is_enter e) 1 0 + a ≡ i → cond (is_dispatch e) 1 0 + b ≡ j → cond (is_strike e) 1 0 + c ≡ k → cond (is_full e) 1 0 + d ≡ l → AreRunning (e ∷ h) i j k l
running_after h e a b c d i j k l is m n o p = record {
  entered_is = let x = count is_enter e h in let y = is.entered_is in omega arith;
  dispatched_is = let x = count is_dispatch e h in let y = is.dispatched_is in omega arith;
  struck_is = let x = count is_strike e h in let y = is.struck_is in omega arith;
  full_is = let x = count is_full e h in let y = is.full_is in omega arith;
}

at_most_one : (b : Bool) → cond b 1 0 ≤ 1
at_most_one true = omega arith
at_most_one false = omega arith

-- no number is above the length
pub count_within : (p : Event → Bool) (h : List Event) → count_by p h ≤ length h
count_within p [] = omega arith
count_within p (e ∷ h) = let a = count p e h in let b = count_within p h in let c = at_most_one (p e) in omega arith
