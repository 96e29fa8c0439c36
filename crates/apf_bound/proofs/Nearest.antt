-- The best of all pairs is the one that came furthest apart.
use Rattle.std.proofs.Common.{◌≡◌, ◌≢◌, ℕ, ◌<◌, inl, inr, Bool, true, false, List, Option, Some, None, refl, sym, ap, ◌∙◌, subst, arith}
use Rattle.std.proofs.lemmas.Bool.{cases_eq, cases_lt}
use Rattle.apf_history.specs.declared.events.LogEntry.{LogEntry}
use Rattle.apf_history.specs.Charged.{seat_time}
use Rattle.apf_bound.specs.declared.furthest.Furthest.{Furthest}
use Rattle.apf_bound.specs.Bounds.{IsAhead, IsNearest}
use Rattle.apf_bound.specs.Pairs.{cell}
use Rattle.apf_bound.specs.Stretched.{StretchesView, AreStretchesOf, was_waited_in, IsBestOf, IsPair}
use Rattle.apf_bound.proofs.Stretching.{at_most, attained, was_in, never_waited}

module _ (measure : ℕ → ℕ) (l : List LogEntry) (s : StretchesView) (of_log : AreStretchesOf measure l s) where
  another : (a : ℕ) → 1 < s.queues → (b : ℕ) × (b < s.queues) × (a ≢ b)
  another a two = elim (cases_eq a 0) [
    | inl zero ↦ (1, two, (λ e. (omega arith)))
    | inr other ↦ (0, (omega arith), other)
  ]

  is_pair : (a b : ℕ) → a < s.queues → b < s.queues → a ≢ b → was_waited_in l a ≡ true → IsPair s a b
  is_pair a b low low' two was = record { first = low; second = low'; two = two; waited = of_log.waited a low ∙ was }

  -- no queue was waited in, if there is no pair
  nobody_waited : IsBestOf (cell s.most) (IsPair s) None → 1 < s.queues → (a : ℕ) → a < s.queues → was_waited_in l a ≡ false
  nobody_waited none two a low = by_test (was_waited_in l a) refl where
    by_test : (t : Bool) → was_waited_in l a ≡ t → was_waited_in l a ≡ false
    by_test false was = was
    by_test true was = let b = another a two in absurd (none a b.0 (is_pair a b.0 low b.1 b.2 was))

  pub nearest : (best : Option Furthest) → IsBestOf (cell s.most) (IsPair s) best → IsNearest s.queues measure l best
  nearest None none = elim (cases_lt 1 s.queues) [
    | inr few ↦ inl few
    | inl two ↦ inr (λ a later earlier low is. never_waited later earlier a (subst (λ (m : List LogEntry). was_waited_in m a ≡ false) is (nobody_waited none two a low)))
  ]
  nearest (Some f) best =
      let among = best.among in
      let is = best.is ∙ of_log.most f.busy f.other among.first among.second in
      record {
        is_busy = among.first;
        is_other = among.second;
        are_two = among.two;
        attained = subst (IsAhead measure l f.busy f.other) (sym is) (attained measure l f.busy f.other (sym (of_log.waited f.busy among.first) ∙ among.waited));
        most = λ a b later stretch earlier low low' h. elim (cases_eq a b) [
          | inl same ↦ (let e = ap (λ (q : ℕ). seat_time measure stretch q) same in omega arith)
          | inr two ↦ (
              let all = at_most measure l later stretch earlier a b h in
              let less = best.most a b (is_pair a b low low' two (was_in l later stretch earlier a h)) in
              let e = of_log.most a b low low' in
              omega arith)
        ];
        first = λ a b low low' two h. (
            let pair = is_pair a b low low' two (was_in l h.later h.stretch h.earlier a h.is_stretch) in
            let all = at_most measure l h.later h.stretch h.earlier a b h.is_stretch in
            let by = h.by in
            let less = best.most a b pair in
            let e = of_log.most a b low low' in
            best.first a b pair (omega arith));
      }
