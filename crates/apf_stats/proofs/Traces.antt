-- What a trace shows as it goes on.
use Rattle.std.proofs.Common.{◌≡◌, ◌≢◌, ℕ, ◌+◌, List, [], ◌∷◌, ◌++◌, Option, Some, None, refl, sym, ◌∙◌, subst, arith, le_refl, le_trans}
use Rattle.apf_stats.specs.declared.board.Entry.{Entry}
use Rattle.apf_stats.specs.Numbers.{IsBelow}
use Rattle.apf_stats.specs.Traces.{after_step, shown, NoneOf, AreMade}

pub below_refl : (numbers : List ℕ) → IsBelow numbers numbers
below_refl numbers = record { entered = le_refl _; dispatched = le_refl _; struck = le_refl _; full = le_refl _ }

pub below_trans : (a b c : List ℕ) → IsBelow a b → IsBelow b c → IsBelow a c
below_trans a b c first then = record {
  entered = le_trans first.entered then.entered;
  dispatched = le_trans first.dispatched then.dispatched;
  struck = le_trans first.struck then.struck;
  full = le_trans first.full then.full;
}

-- what was shown once is below what is shown later
pub rises : (count : ℕ) (later saw : List Entry) → AreMade count (later ++ saw) → IsBelow (shown saw) (shown (later ++ saw))
rises count [] saw made = below_refl (shown saw)
rises count (newest ∷ later) saw made = below_trans (shown saw) (shown (later ++ saw)) (shown (newest ∷ (later ++ saw))) (rises count later saw made.3) made.2

abbrev IsNothing : Option (List ℕ) → Type 0
IsNothing None = Unit {0}
IsNothing (Some _) = ⊥

is_none : {new : List ℕ} → None ≡ Some new → ⊥
is_none e = subst IsNothing e tt

-- steps of others than the writer publish nothing
nothing_new : (published : Option (List ℕ)) (numbers : List ℕ) → (published ≢ None → ⊥) → after_step published numbers ≡ numbers
nothing_new None numbers none = refl
nothing_new (Some new) numbers none = absurd (none (λ e. is_none (sym e)))

pub shown_else : (count : ℕ) (later saw : List Entry) → AreMade count (later ++ saw) → NoneOf 0 later → shown (later ++ saw) ≡ shown saw
shown_else count [] saw made none = refl
shown_else count (newest ∷ later) saw made none = nothing_new newest.published (shown (later ++ saw)) (λ some. none.0 (made.1 some)) ∙ shown_else count later saw made.3 none.1

-- more passes made the same steps
pub made_more : (count : ℕ) (trace : List Entry) → AreMade count trace → AreMade (count + 1) trace
made_more count [] made = tt
made_more count (newest ∷ trace) made = (let by = made.0 in omega arith, made.1, made.2, made_more count trace made.3)

-- none of these steps is of a pass that is still to come
pub none_of_beginning : (count : ℕ) (later saw : List Entry) → AreMade count (later ++ saw) → NoneOf count later
none_of_beginning count [] saw made = tt
none_of_beginning count (newest ∷ later) saw made = ((λ same. let by = made.0 in absurd (omega arith)), none_of_beginning count later saw made.3)
