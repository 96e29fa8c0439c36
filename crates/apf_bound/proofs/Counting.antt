-- How many wait, by the law of legal histories.
use Rattle.std.proofs.Common.{◌≡◌, ℕ, ◌+◌, ◌≤◌, Bool, cond, eqb, List, [], ◌∷◌, length, arith}
use Rattle.std.specs.Prelude.{count_by}
use Rattle.std.proofs.lemmas.List.Sums.{count_by-le-length, sum_by-cons}
use Rattle.apf_history.specs.declared.events.Event.{Event}
use Rattle.apf_history.specs.declared.events.Event.TheVariants.{Enter, Dispatch, Strike}
use Rattle.apf_history.specs.declared.events.LogEntry.{LogEntry}
use Rattle.apf_history.specs.declared.events.LogEntry.TheVariants.{Happens, Spends, Settles}
use Rattle.apf_history.specs.History.{waiting, IsLegal}
use Rattle.apf_history.specs.Order.{is_enter_into, is_dispatch_from, is_strike_from}
use Rattle.apf_history.specs.Charged.{events}
use Rattle.apf_bound.specs.Kept.{Counts, CountLaw}

pub opened : CountLaw → Counts
unfolding CountLaw
opened law = law

one_more : (p : Event → Bool) (e : Event) (h : List Event) → count_by p (e ∷ h) ≡ cond (p e) 1 0 + count_by p h
one_more p e h = sum_by-cons (λ x. cond (p x) 1 0) e h

module _ (law : Counts) (hands : ℕ → List ℕ) (limit : ℕ) (h : List Event) (r p q : ℕ) where
  pub entered_one : IsLegal hands limit (Enter r p ∷ h) → length (waiting (Enter r p ∷ h) q) ≡ length (waiting h q) + cond (eqb p q) 1 0
  entered_one legal =
      let before = law hands limit h q legal.1 in
      let now = law hands limit (Enter r p ∷ h) q legal in
      let enters : count_by (is_enter_into q) (Enter r p ∷ h) ≡ cond (eqb p q) 1 0 + count_by (is_enter_into q) h = one_more (is_enter_into q) (Enter r p) h in
      let dispatches : count_by (is_dispatch_from q) (Enter r p ∷ h) ≡ 0 + count_by (is_dispatch_from q) h = one_more (is_dispatch_from q) (Enter r p) h in
      let strikes : count_by (is_strike_from q) (Enter r p ∷ h) ≡ 0 + count_by (is_strike_from q) h = one_more (is_strike_from q) (Enter r p) h in
      omega arith

  pub dispatched_one : IsLegal hands limit (Dispatch r p ∷ h) → length (waiting (Dispatch r p ∷ h) q) + cond (eqb p q) 1 0 ≡ length (waiting h q)
  dispatched_one legal =
      let before = law hands limit h q legal.1 in
      let now = law hands limit (Dispatch r p ∷ h) q legal in
      let enters : count_by (is_enter_into q) (Dispatch r p ∷ h) ≡ 0 + count_by (is_enter_into q) h = one_more (is_enter_into q) (Dispatch r p) h in
      let dispatches : count_by (is_dispatch_from q) (Dispatch r p ∷ h) ≡ cond (eqb p q) 1 0 + count_by (is_dispatch_from q) h = one_more (is_dispatch_from q) (Dispatch r p) h in
      let strikes : count_by (is_strike_from q) (Dispatch r p ∷ h) ≡ 0 + count_by (is_strike_from q) h = one_more (is_strike_from q) (Dispatch r p) h in
      omega arith

  pub struck_one : IsLegal hands limit (Strike r p ∷ h) → length (waiting (Strike r p ∷ h) q) + cond (eqb p q) 1 0 ≡ length (waiting h q)
  struck_one legal =
      let before = law hands limit h q legal.1 in
      let now = law hands limit (Strike r p ∷ h) q legal in
      let enters : count_by (is_enter_into q) (Strike r p ∷ h) ≡ 0 + count_by (is_enter_into q) h = one_more (is_enter_into q) (Strike r p) h in
      let dispatches : count_by (is_dispatch_from q) (Strike r p ∷ h) ≡ 0 + count_by (is_dispatch_from q) h = one_more (is_dispatch_from q) (Strike r p) h in
      let strikes : count_by (is_strike_from q) (Strike r p ∷ h) ≡ cond (eqb p q) 1 0 + count_by (is_strike_from q) h = one_more (is_strike_from q) (Strike r p) h in
      omega arith

pub few_wait : Counts → (hands : ℕ → List ℕ) (limit : ℕ) (h : List Event) (q : ℕ) → IsLegal hands limit h → length (waiting h q) ≤ length h
few_wait law hands limit h q legal = let all = law hands limit h q legal in let most = count_by-le-length (is_enter_into q) h in omega arith

pub few_events : (l : List LogEntry) → length (events l) ≤ length l
few_events [] = omega arith
few_events (Happens e ∷ l) = let before = few_events l in omega arith
few_events (Spends r q old new ∷ l) = let before = few_events l in omega arith
few_events (Settles r q old new ∷ l) = let before = few_events l in omega arith
