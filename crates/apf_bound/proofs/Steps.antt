-- One queue more of a loop over queues.
use Rattle.std.proofs.Common.{◌≡◌, ◌≢◌, ℕ, ◌+◌, ◌<◌, ◌≤◌, ◌⊎◌, inl, inr, Bool, true, false, Option, Some, None, refl, sym, ap, ◌∙◌, subst, arith}
use Rattle.std.specs.Prelude.{◌==◌, ◌&&◌, nat_lt, nat_le, if◌then◌else◌, slice_index_or}
use Rattle.std.proofs.lemmas.Bool.{cases_eq, cases_lt, false≢true}
use Rattle.std.proofs.lemmas.Bool.Decides.{nat_tests}
use Rattle.apf_bound.specs.declared.furthest.Furthest.{Furthest}
use Rattle.apf_bound.specs.Stretched.{StretchesView, IsBest, IsBestOf, IsPair, IsPairBelow, IsPairUntil, further_of}

-- what is done to queue k, after it was done to those before it
pub one_more : (k a : ℕ) (p : Bool) (did before at_k last did' : ℕ) → before ≡ (if nat_lt a k && p then did else at_k) → last ≡ (if (a == k) && p then did' else before) → (a ≡ k → did' ≡ did)
    → last ≡ (if nat_lt a (k + 1) && p then did else at_k)
one_more k a true did before at_k last did' b l same = grind (arith, nat_tests)
one_more k a false did before at_k last did' b l same = grind (arith, nat_tests)

-- what was not done yet
pub not_yet : (k a : ℕ) (p : Bool) (did before at_k : ℕ) → before ≡ (if nat_lt a k && p then did else at_k) → a ≡ k → before ≡ at_k
not_yet k a true did before at_k b same = grind (arith, nat_tests)
not_yet k a false did before at_k b same = grind (arith, nat_tests)

is_above : (far ahead : ℕ) → far < ahead → nat_le ahead far ≡ false
is_above far ahead more = grind (arith, nat_tests)

is_within : (far ahead : ℕ) → ahead ≤ far → nat_le ahead far ≡ true
is_within far ahead less = grind (arith, nat_tests)

module _ (number : ℕ → ℕ → ℕ) where
  -- the best of some pairs is the best of the same pairs
  same_pairs : (P Q : ℕ → ℕ → Type 0) → ((a b : ℕ) → P a b → Q a b) → ((a b : ℕ) → Q a b → P a b) → (best : Option Furthest) → IsBestOf number P best → IsBestOf number Q best
  same_pairs P Q to from None h = λ a b q. h a b (from a b q)
  same_pairs P Q to from (Some f) h = record {
    among = to f.busy f.other h.among;
    is = h.is;
    most = λ a b q. h.most a b (from a b q);
    first = λ a b q. h.first a b (from a b q);
  }

  module _ (s : StretchesView) where
    below_until : (low a b : ℕ) → IsPairUntil s low 0 a b → IsPairBelow s low a b
    below_until low a b p = elim (cases_eq a low) [
      | inl same ↦ absurd (let none : b < 0 = p.2 same in omega arith)
      | inr two ↦ (p.0, (let most = p.1 in omega arith))
    ]

    pub begun : (low : ℕ) (best : Option Furthest) → IsBestOf number (IsPairBelow s low) best → IsBestOf number (IsPairUntil s low 0) best
    begun low = same_pairs (IsPairBelow s low) (IsPairUntil s low 0) (λ a b p. (p.0, (let less = p.1 in omega arith), λ same. absurd (let less = p.1 in omega arith))) (below_until low)

    pub skipped : (low until : ℕ) → until ≡ low → (best : Option Furthest) → IsBestOf number (IsPairUntil s low until) best → IsBestOf number (IsPairUntil s low (until + 1)) best
    skipped low until same = same_pairs (IsPairUntil s low until) (IsPairUntil s low (until + 1)) (λ a b p. (p.0, p.1, λ here. let less = p.2 here in omega arith))
        (λ a b p. (p.0, p.1, λ here. let less = p.2 here in let two = p.0.two in omega arith))

    pub ended : (low : ℕ) (best : Option Furthest) → IsBestOf number (IsPairUntil s low s.queues) best → IsBestOf number (IsPairBelow s (low + 1)) best
    ended low = same_pairs (IsPairUntil s low s.queues) (IsPairBelow s (low + 1)) (λ a b p. (p.0, (let most = p.1 in omega arith))) (λ a b p. (p.0, (let less = p.1 in omega arith), λ here. p.0.second))

    pub never : (low : ℕ) → slice_index_or s.waited low false ≡ false → (best : Option Furthest) → IsBestOf number (IsPairBelow s low) best → IsBestOf number (IsPairBelow s (low + 1)) best
    never low waited = same_pairs (IsPairBelow s low) (IsPairBelow s (low + 1)) (λ a b p. (p.0, (let less = p.1 in omega arith)))
        (λ a b p. elim (cases_eq a low) [
          | inl same ↦ absurd (false≢true (sym waited ∙ (ap (λ (q : ℕ). slice_index_or s.waited q false) (sym same) ∙ p.0.waited)))
          | inr two ↦ (p.0, (let less = p.1 in omega arith))
        ])

    pub all : (queues : ℕ) → queues ≡ s.queues → (best : Option Furthest) → IsBestOf number (IsPairBelow s queues) best → IsBestOf number (IsPair s) best
    all queues same = same_pairs (IsPairBelow s queues) (IsPair s) (λ a b p. p.0) (λ a b p. (p, (let less = p.first in omega arith)))

    module _ (low until : ℕ) (in_low : low < s.queues) (in_until : until < s.queues) (two : until ≢ low) (waited : slice_index_or s.waited low false ≡ true) where
      -- a pair that is looked at is that one, or was looked at before
      looked : (a b : ℕ) → IsPairUntil s low (until + 1) a b → IsPairUntil s low until a b ⊎ ((a ≡ low) × (b ≡ until))
      looked a b p = elim (cases_eq a low) [
        | inr other ↦ inl (p.0, p.1, λ here. absurd (other here))
        | inl same ↦ elim (cases_eq b until) [
          | inl same' ↦ inr (same, same')
          | inr other ↦ inl (p.0, p.1, λ here. (let less = p.2 here in omega arith))
        ]
      ]

      this_one : IsPairUntil s low (until + 1) low until
      this_one = (record { first = in_low; second = in_until; two = λ e. two (sym e); waited = waited }, (omega arith), λ here. (omega arith))

      still : (a b : ℕ) → IsPairUntil s low until a b → IsPairUntil s low (until + 1) a b
      still a b p = (p.0, p.1, λ here. (let less = p.2 here in omega arith))

      pub compared : (best : Option Furthest) → IsBestOf number (IsPairUntil s low until) best
          → IsBest number (IsPairUntil s low (until + 1)) (further_of best (record { busy = low; other = until; ahead = number low until }))
      compared None h = record {
        among = this_one;
        is = refl;
        most = λ a b p. elim (looked a b p) [ inl old ↦ absurd (h a b old) | inr new ↦ (let e = new.0 in let e' = new.1 in rw (e, e') (omega arith)) ];
        first = λ a b p same. elim (looked a b p) [ inl old ↦ absurd (h a b old) | inr new ↦ (let e = new.0 in let e' = new.1 in ((omega arith), λ _. (omega arith))) ];
      }
      compared (Some f) h = elim (cases_lt f.ahead (number low until)) [
        | inl more ↦ subst (λ (b : Bool). IsBest number (IsPairUntil s low (until + 1)) (if b then f else (record { busy = low; other = until; ahead = number low until }))) (sym (is_above f.ahead (number low until) more)) (record {
          among = this_one;
          is = refl;
          most = λ a b p. elim (looked a b p) [ inl old ↦ (let most = h.most a b old in omega arith) | inr new ↦ (let e = new.0 in let e' = new.1 in rw (e, e') (omega arith)) ];
          first = λ a b p same. elim (looked a b p) [ inl old ↦ absurd (let most = h.most a b old in omega arith) | inr new ↦ (let e = new.0 in let e' = new.1 in ((omega arith), λ _. (omega arith))) ];
        })
        | inr less ↦ subst (λ (b : Bool). IsBest number (IsPairUntil s low (until + 1)) (if b then f else (record { busy = low; other = until; ahead = number low until }))) (sym (is_within f.ahead (number low until) less)) (record {
          among = still f.busy f.other h.among;
          is = h.is;
          most = λ a b p. elim (looked a b p) [ inl old ↦ h.most a b old | inr new ↦ (let e = new.0 in let e' = new.1 in rw (e, e') less) ];
          first = λ a b p same. elim (looked a b p) [
            | inl old ↦ h.first a b old same
            | inr new ↦ (let e = new.0 in let e' = new.1 in let among = h.among in ((let m = among.1 in omega arith), λ here. (let u = among.2 in let m = here ∙ e in let v = u m in omega arith)))
          ];
        })
      ]
