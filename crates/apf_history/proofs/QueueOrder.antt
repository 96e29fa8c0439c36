-- A queue serves in the order of entry.
use Rattle.std.proofs.Common.{◌≡◌, ℕ, inl, inr, Bool, true, false, cond, not, eqb, List, [], ◌∷◌, ◌++◌, append_assoc, refl, sym, ap, ap₂, ◌∙◌, subst}
use Rattle.std.specs.Prelude.{◌||◌, Contains, filter}
use Rattle.std.proofs.lemmas.Bool.{cases_eq, eq-eqb, ne_eqb, false≢true}
use Rattle.std.proofs.lemmas.List.Elements.{filter-append, Contains-push_cases}
use Rattle.apf_history.specs.declared.events.Event.{Event}
use Rattle.apf_history.specs.declared.events.Event.TheVariants.{Enter, Full, Dispatch, Strike}
use Rattle.apf_history.specs.History.{entered, has_left, waiting, IsLegal}
use Rattle.apf_history.specs.Order.{dispatched_from, is_struck}
use Rattle.apf_history.proofs.Lists.{without, Contains-head, Contains-tail, Contains-none, without-absent, first_split, first_contains, filter-both}
use Rattle.apf_history.proofs.Waiting.{waiting_else, waiting_enter, waiting_dispatch, waiting_strike, without_else, without_front, not_left}
use Rattle.apf_history.proofs.Statuses.{waits, final}

-- who did not leave was not struck
struck_left : (h : List Event) (r : ℕ) → has_left h r ≡ false → is_struck h r ≡ false
struck_left [] r e = refl
struck_left (Enter j q ∷ h) r e = struck_left h r e
struck_left (Full j q ∷ h) r e = struck_left h r e
struck_left (Dispatch j q ∷ h) r e = struck_left h r (right (eqb j r) (has_left h r) e) where
  right : (a b : Bool) → (a || b) ≡ false → b ≡ false
  right true b e = absurd (false≢true (sym e))
  right false b e = e
struck_left (Strike j q ∷ h) r e = both (eqb j r) (has_left h r) (is_struck h r) e (struck_left h r) where
  both : (a b c : Bool) → (a || b) ≡ false → (b ≡ false → c ≡ false) → (a || c) ≡ false
  both true b c e f = absurd (false≢true (sym e))
  both false b c e f = f e

-- who was dispatched has a Dispatch
dispatched_has : (h : List Event) (q r : ℕ) → Contains (dispatched_from h q) r → Contains h (Dispatch r q)
dispatched_has [] q r c = absurd (Contains-none r c)
dispatched_has (Enter j p ∷ h) q r c = Contains-tail (Enter j p) h (Dispatch r q) (dispatched_has h q r c)
dispatched_has (Full j p ∷ h) q r c = Contains-tail (Full j p) h (Dispatch r q) (dispatched_has h q r c)
dispatched_has (Strike j p ∷ h) q r c = Contains-tail (Strike j p) h (Dispatch r q) (dispatched_has h q r c)
dispatched_has (Dispatch j p ∷ h) q r c = elim (cases_eq p q) [
  | inl e ↦ elim (Contains-push_cases (dispatched_from h q) j r (subst (λ (b : Bool). Contains (cond b (dispatched_from h q ++ j ∷ []) (dispatched_from h q)) r) (eq-eqb p q e) c)) [
    | inl old ↦ Contains-tail (Dispatch j p) h (Dispatch r q) (dispatched_has h q r old)
    | inr new ↦ subst (λ (x : Event). Contains (Dispatch j p ∷ h) x) (ap₂ Dispatch new e) (Contains-head (Dispatch j p) h)
  ]
  | inr ne ↦ Contains-tail (Dispatch j p) h (Dispatch r q) (dispatched_has h q r (subst (λ (b : Bool). Contains (cond b (dispatched_from h q ++ j ∷ []) (dispatched_from h q)) r) (ne_eqb p q ne) c))
]

module _ (hands : ℕ → List ℕ) (limit : ℕ) where
  pub in_order : (h : List Event) → IsLegal hands limit h → (q : ℕ) → filter (λ r. not (is_struck h r)) (entered h q) ≡ dispatched_from h q ++ waiting h q
  in_order [] l q = refl
  in_order (Enter j p ∷ h) l q = elim (cases_eq p q) [
    | inl e ↦ ap (λ (b : Bool). filter (λ r. not (is_struck h r)) (cond b (entered h q ++ j ∷ []) (entered h q))) (eq-eqb p q e)
        ∙ (filter-append (λ r. not (is_struck h r)) (entered h q) (j ∷ [])
        ∙ (ap (λ (b : Bool). filter (λ r. not (is_struck h r)) (entered h q) ++ cond (not b) (j ∷ []) []) (struck_left h j (not_left hands limit h l.1 j l.0.0))
        ∙ (ap (λ (xs : List ℕ). xs ++ j ∷ []) (in_order h l.1 q)
        ∙ (append_assoc (dispatched_from h q) (waiting h q) (j ∷ [])
        ∙ ap (λ (xs : List ℕ). dispatched_from h q ++ xs) (sym (ap (waiting (Enter j p ∷ h)) (sym e) ∙ (waiting_enter hands limit h l.1 j p l.0.0 ∙ ap (λ (s : ℕ). waiting h s ++ j ∷ []) e)))))))
    | inr ne ↦ ap (λ (b : Bool). filter (λ r. not (is_struck h r)) (cond b (entered h q ++ j ∷ []) (entered h q))) (ne_eqb p q ne)
        ∙ (in_order h l.1 q ∙ ap (λ (xs : List ℕ). dispatched_from h q ++ xs) (sym (waiting_else h j p q ne)))
  ]
  in_order (Full j p ∷ h) l q = in_order h l.1 q
  in_order (Dispatch j p ∷ h) l q = elim (cases_eq p q) [
    | inl e ↦ in_order h l.1 q
        ∙ (ap (λ (xs : List ℕ). dispatched_from h q ++ xs) (ap (waiting h) (sym e) ∙ (first_split (waiting h p) j l.0 ∙ (ap (λ (xs : List ℕ). j ∷ xs) (sym (without_front hands limit h l.1 j p l.0) ∙ sym (waiting_dispatch h j p p)) ∙ ap (λ (s : ℕ). j ∷ waiting (Dispatch j p ∷ h) s) e)))
        ∙ (sym (append_assoc (dispatched_from h q) (j ∷ []) (waiting (Dispatch j p ∷ h) q))
        ∙ sym (ap (λ (b : Bool). cond b (dispatched_from h q ++ j ∷ []) (dispatched_from h q) ++ waiting (Dispatch j p ∷ h) q) (eq-eqb p q e))))
    | inr ne ↦ in_order h l.1 q
        ∙ (ap (λ (xs : List ℕ). dispatched_from h q ++ xs) (sym (waiting_dispatch h j p q ∙ without_else hands limit h l.1 j p q (first_contains (waiting h p) j l.0) (λ x. ne (sym x))))
        ∙ sym (ap (λ (b : Bool). cond b (dispatched_from h q ++ j ∷ []) (dispatched_from h q) ++ waiting (Dispatch j p ∷ h) q) (ne_eqb p q ne)))
  ]
  in_order (Strike j p ∷ h) l q =
      let not_dispatched : Contains (dispatched_from h q) j → ⊥ = λ (c : Contains (dispatched_from h q) j).
      (let s = final hands limit h l.1 (Dispatch j q) (dispatched_has h q j c) (λ x. cc) in let w = waits hands limit h l.1 p j l.0 in let bad = sym s ∙ w in cc) in
      filter-both (λ x. eqb j x) (is_struck h) (entered h q)
      ∙ (ap (without j) (in_order h l.1 q)
      ∙ (filter-append (λ x. not (eqb j x)) (dispatched_from h q) (waiting h q)
      ∙ (ap (λ (xs : List ℕ). xs ++ without j (waiting h q)) (without-absent j (dispatched_from h q) not_dispatched)
      ∙ ap (λ (xs : List ℕ). dispatched_from h q ++ xs) (sym (waiting_strike h j p q)))))
