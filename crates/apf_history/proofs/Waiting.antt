-- Who waits in a legal history, and what each event makes of it.
use Rattle.std.proofs.Common.{◌≡◌, ◌≢◌, ℕ, suc, ◌+◌, ◌≤◌, ◌⊎◌, inl, inr, Bool, true, false, cond, not, eqb, List, [], ◌∷◌, ◌++◌, length, drop, Some, refl, sym, ap, ◌∙◌, subst, arith}
use Rattle.std.specs.Prelude.{◌||◌, Contains, slice_get, filter}
use Rattle.std.proofs.lemmas.Bool.{cases_eq, eq-eqb, ne_eqb, false≢true, or_left, or_right}
use Rattle.std.proofs.lemmas.List.{length_push}
use Rattle.std.proofs.lemmas.List.Elements.{filter-append, All-contains, All-contains_itself, All-filter, Contains-push_cases}
use Rattle.apf_history.specs.declared.events.Event.{Event}
use Rattle.apf_history.specs.declared.events.Event.TheVariants.{Enter, Full, Dispatch, Strike}
use Rattle.apf_history.specs.Numbered.{put}
use Rattle.apf_history.specs.History.{queue_of, entered, has_left, has_arrived, waiting, MayFollow, IsLegal}
use Rattle.apf_history.specs.Order.{changed}
use Rattle.apf_history.proofs.Sums.{put_here, put_else}
use Rattle.apf_history.proofs.Lists.{without, AreApart, Contains-none, NotIn-from, AreApart-push, AreApart-filter, without-absent, without-first, length-without, first_split, first_contains, filter-both}

pub or_false : (a b : Bool) → (a || b) ≡ false → (a ≡ false) × (b ≡ false)
or_false true b e = absurd (false≢true (sym e))
or_false false b e = (refl, e)

pub other_number : (j r : ℕ) → eqb j r ≡ false → j ≢ r
other_number j r e same = false≢true (sym e ∙ eq-eqb j r same)

-- each beginning of a legal history is legal
pub IsLegal-append : (hands : ℕ → List ℕ) (limit : ℕ) (later earlier : List Event) → IsLegal hands limit (later ++ earlier) → IsLegal hands limit earlier
IsLegal-append hands limit [] earlier l = l
IsLegal-append hands limit (e ∷ later) earlier l = IsLegal-append hands limit later earlier l.1

-- who entered one queue in the newest event, or entered before
pub entered_cases : (h : List Event) (j s q r : ℕ) → Contains (entered (Enter j s ∷ h) q) r → Contains (entered h q) r ⊎ ((s ≡ q) × (j ≡ r))
entered_cases h j s q r c = elim (cases_eq s q) [
  | inl e ↦ elim (Contains-push_cases (entered h q) j r (subst (λ (b : Bool). Contains (cond b (entered h q ++ j ∷ []) (entered h q)) r) (eq-eqb s q e) c)) [
    | inl old ↦ inl old
    | inr new ↦ inr (e, new)
  ]
  | inr ne ↦ inl (subst (λ (b : Bool). Contains (cond b (entered h q ++ j ∷ []) (entered h q)) r) (ne_eqb s q ne) c)
]

-- who entered a queue arrived
entered_arrived : (h : List Event) (q r : ℕ) → Contains (entered h q) r → has_arrived h r ≡ true
entered_arrived [] q r c = absurd (Contains-none r c)
entered_arrived (Enter j p ∷ h) q r c = elim (entered_cases h j p q r c) [
  | inl old ↦ or_right (eqb j r) (has_arrived h r) (entered_arrived h q r old)
  | inr new ↦ or_left (eqb j r) (has_arrived h r) (eq-eqb j r new.1)
]
entered_arrived (Full j p ∷ h) q r c = or_right (eqb j r) (has_arrived h r) (entered_arrived h q r c)
entered_arrived (Dispatch j p ∷ h) q r c = entered_arrived h q r c
entered_arrived (Strike j p ∷ h) q r c = entered_arrived h q r c

-- who waits in a queue entered it
waiting_entered : (h : List Event) (q r : ℕ) → Contains (waiting h q) r → Contains (entered h q) r
waiting_entered h q r c = All-contains (Contains (entered h q)) (waiting h q) r (All-filter (λ j. not (has_left h j)) (Contains (entered h q)) (entered h q) (All-contains_itself (entered h q))) c

pub waiting_arrived : (h : List Event) (q r : ℕ) → Contains (waiting h q) r → has_arrived h r ≡ true
waiting_arrived h q r c = entered_arrived h q r (waiting_entered h q r c)

first_arrived : (h : List Event) (q r : ℕ) → slice_get (waiting h q) 0 ≡ Some r → has_arrived h r ≡ true
first_arrived h q r e = waiting_arrived h q r (first_contains (waiting h q) r e)

-- what each event makes of who waits
pub waiting_dispatch : (h : List Event) (j p q : ℕ) → waiting (Dispatch j p ∷ h) q ≡ without j (waiting h q)
waiting_dispatch h j p q = filter-both (λ x. eqb j x) (has_left h) (entered h q)

pub waiting_strike : (h : List Event) (j p q : ℕ) → waiting (Strike j p ∷ h) q ≡ without j (waiting h q)
waiting_strike h j p q = filter-both (λ x. eqb j x) (has_left h) (entered h q)

pub waiting_else : (h : List Event) (j p q : ℕ) → p ≢ q → waiting (Enter j p ∷ h) q ≡ waiting h q
waiting_else h j p q ne = ap (λ (b : Bool). filter (λ r. not (has_left h r)) (cond b (entered h q ++ j ∷ []) (entered h q))) (ne_eqb p q ne)

waiting_here : (h : List Event) (j q : ℕ) → has_left h j ≡ false → waiting (Enter j q ∷ h) q ≡ waiting h q ++ j ∷ []
waiting_here h j q e = ap (λ (b : Bool). filter (λ r. not (has_left h r)) (cond b (entered h q ++ j ∷ []) (entered h q))) (eq-eqb q q refl)
    ∙ (filter-append (λ r. not (has_left h r)) (entered h q) (j ∷ [])
    ∙ ap (λ (b : Bool). waiting h q ++ cond (not b) (j ∷ []) []) e)

module _ (hands : ℕ → List ℕ) (limit : ℕ) where
  -- who did not arrive did not leave
  pub not_left : (h : List Event) → IsLegal hands limit h → (r : ℕ) → has_arrived h r ≡ false → has_left h r ≡ false
  not_left [] l r e = refl
  not_left (Enter j q ∷ h) l r e = not_left h l.1 r (or_false (eqb j r) (has_arrived h r) e).1
  not_left (Full j q ∷ h) l r e = not_left h l.1 r (or_false (eqb j r) (has_arrived h r) e).1
  not_left (Dispatch j q ∷ h) l r e =
      let other : j ≢ r = λ same. false≢true (sym e ∙ (ap (has_arrived h) (sym same) ∙ first_arrived h q j l.0)) in
      ap (λ (b : Bool). b || has_left h r) (ne_eqb j r other) ∙ not_left h l.1 r e
  not_left (Strike j q ∷ h) l r e =
      let other : j ≢ r = λ same. false≢true (sym e ∙ (ap (has_arrived h) (sym same) ∙ waiting_arrived h q j l.0)) in
      ap (λ (b : Bool). b || has_left h r) (ne_eqb j r other) ∙ not_left h l.1 r e

  pub waiting_enter : (h : List Event) → IsLegal hands limit h → (j q : ℕ) → has_arrived h j ≡ false → waiting (Enter j q ∷ h) q ≡ waiting h q ++ j ∷ []
  waiting_enter h l j q e = waiting_here h j q (not_left h l j e)

  -- nobody entered two queues
  entered_one : (h : List Event) → IsLegal hands limit h → (p q r : ℕ) → Contains (entered h p) r → Contains (entered h q) r → p ≡ q
  entered_one [] l p q r c d = absurd (Contains-none r c)
  entered_one (Enter j s ∷ h) l p q r c d = elim (entered_cases h j s p r c) [
    | inl a ↦ elim (entered_cases h j s q r d) [
      | inl b ↦ entered_one h l.1 p q r a b
      | inr b ↦ absurd (false≢true (sym l.0.0 ∙ (ap (has_arrived h) b.1 ∙ entered_arrived h p r a)))
    ]
    | inr a ↦ elim (entered_cases h j s q r d) [
      | inl b ↦ absurd (false≢true (sym l.0.0 ∙ (ap (has_arrived h) a.1 ∙ entered_arrived h q r b)))
      | inr b ↦ sym a.0 ∙ b.0
    ]
  ]
  entered_one (Full j s ∷ h) l p q r c d = entered_one h l.1 p q r c d
  entered_one (Dispatch j s ∷ h) l p q r c d = entered_one h l.1 p q r c d
  entered_one (Strike j s ∷ h) l p q r c d = entered_one h l.1 p q r c d

  -- nobody waits in two queues
  pub stands_in_one : (h : List Event) → IsLegal hands limit h → (p q r : ℕ) → Contains (waiting h p) r → Contains (waiting h q) r → p ≡ q
  stands_in_one h l p q r c d = entered_one h l p q r (waiting_entered h p r c) (waiting_entered h q r d)

  -- nobody entered twice
  entered_apart : (h : List Event) → IsLegal hands limit h → (q : ℕ) → AreApart (entered h q)
  entered_apart [] l q = tt
  entered_apart (Enter j s ∷ h) l q = elim (cases_eq s q) [
    | inl e ↦ subst (λ (b : Bool). AreApart (cond b (entered h q ++ j ∷ []) (entered h q))) (sym (eq-eqb s q e))
        (AreApart-push (entered h q) j (entered_apart h l.1 q) (NotIn-from j (entered h q) (λ x c same. false≢true (sym l.0.0 ∙ (ap (has_arrived h) (sym same) ∙ entered_arrived h q x c)))))
    | inr ne ↦ subst (λ (b : Bool). AreApart (cond b (entered h q ++ j ∷ []) (entered h q))) (sym (ne_eqb s q ne)) (entered_apart h l.1 q)
  ]
  entered_apart (Full j s ∷ h) l q = entered_apart h l.1 q
  entered_apart (Dispatch j s ∷ h) l q = entered_apart h l.1 q
  entered_apart (Strike j s ∷ h) l q = entered_apart h l.1 q

  pub waiting_apart : (h : List Event) → IsLegal hands limit h → (q : ℕ) → AreApart (waiting h q)
  waiting_apart h l q = AreApart-filter (λ r. not (has_left h r)) (entered h q) (entered_apart h l q)

  -- a request that waits in one queue is taken out of no other
  pub without_else : (h : List Event) → IsLegal hands limit h → (j p q : ℕ) → Contains (waiting h p) j → q ≢ p → without j (waiting h q) ≡ waiting h q
  without_else h l j p q c ne = without-absent j (waiting h q) (λ d. ne (stands_in_one h l q p j d c))

  pub without_front : (h : List Event) → IsLegal hands limit h → (j p : ℕ) → slice_get (waiting h p) 0 ≡ Some j → without j (waiting h p) ≡ drop 1 (waiting h p)
  without_front h l j p e =
      let split = first_split (waiting h p) j e in
      ap (without j) split ∙ without-first j (drop 1 (waiting h p)) (subst AreApart split (waiting_apart h l p))

  -- the queue that an event names, and the others
  pub waiting_named : (h : List Event) → IsLegal hands limit h → (e : Event) → MayFollow hands limit h e → waiting (e ∷ h) (queue_of e) ≡ changed e (waiting h (queue_of e))
  waiting_named h l (Enter j p) m = waiting_enter h l j p m.0
  waiting_named h l (Full j p) m = refl
  waiting_named h l (Dispatch j p) m = waiting_dispatch h j p p ∙ without_front h l j p m
  waiting_named h l (Strike j p) m = waiting_strike h j p p

  pub waiting_others : (h : List Event) → IsLegal hands limit h → (e : Event) → MayFollow hands limit h e → (q : ℕ) → q ≢ queue_of e → waiting (e ∷ h) q ≡ waiting h q
  waiting_others h l (Enter j p) m q ne = waiting_else h j p q (λ x. ne (sym x))
  waiting_others h l (Full j p) m q ne = refl
  waiting_others h l (Dispatch j p) m q ne = waiting_dispatch h j p q ∙ without_else h l j p q (first_contains (waiting h p) j m) ne
  waiting_others h l (Strike j p) m q ne = waiting_strike h j p q ∙ without_else h l j p q m ne

  pub queues_after : (h : List Event) → IsLegal hands limit h → (e : Event) → MayFollow hands limit h e → (q : ℕ) → waiting (e ∷ h) q ≡ put (waiting h) (queue_of e) (changed e (waiting h (queue_of e))) q
  queues_after h l e m q = elim (cases_eq q (queue_of e)) [
    | inl same ↦ ap (waiting (e ∷ h)) same ∙ (waiting_named h l e m ∙ sym (ap (put (waiting h) (queue_of e) (changed e (waiting h (queue_of e)))) same ∙ put_here (waiting h) (queue_of e) (changed e (waiting h (queue_of e)))))
    | inr ne ↦ waiting_others h l e m q ne ∙ sym (put_else (waiting h) (queue_of e) (changed e (waiting h (queue_of e))) q ne)
  ]

  -- how many wait after an event, and how many there were
  fewer_dispatched : (h : List Event) → IsLegal hands limit h → (j p : ℕ) → Contains (waiting h p) j → length (waiting h p) ≡ suc (length (without j (waiting h p)))
  fewer_dispatched h l j p c = length-without j (waiting h p) (waiting_apart h l p) c

  pub length_dispatch : (h : List Event) → IsLegal hands limit h → (j p : ℕ) → slice_get (waiting h p) 0 ≡ Some j → length (waiting h p) ≡ suc (length (waiting (Dispatch j p ∷ h) p))
  length_dispatch h l j p m = fewer_dispatched h l j p (first_contains (waiting h p) j m) ∙ ap suc (ap length (sym (waiting_dispatch h j p p)))

  pub length_strike : (h : List Event) → IsLegal hands limit h → (j p : ℕ) → Contains (waiting h p) j → length (waiting h p) ≡ suc (length (waiting (Strike j p ∷ h) p))
  length_strike h l j p m = fewer_dispatched h l j p m ∙ ap suc (ap length (sym (waiting_strike h j p p)))

  pub length_enter : (h : List Event) → IsLegal hands limit h → (j p : ℕ) → has_arrived h j ≡ false → length (waiting (Enter j p ∷ h) p) ≡ length (waiting h p) + 1
  length_enter h l j p m = ap length (waiting_enter h l j p m) ∙ length_push (waiting h p) j

  within_named : (h : List Event) → IsLegal hands limit h → (e : Event) → MayFollow hands limit h e → length (waiting h (queue_of e)) ≤ limit → length (waiting (e ∷ h) (queue_of e)) ≤ limit
  within_named h l (Enter j p) m old = let n = length_enter h l j p m.0 in let room = m.2 in omega arith
  within_named h l (Full j p) m old = old
  within_named h l (Dispatch j p) m old = let n = length_dispatch h l j p m in omega arith
  within_named h l (Strike j p) m old = let n = length_strike h l j p m in omega arith

  -- no queue is above the limit
  pub within_limit : (h : List Event) → IsLegal hands limit h → (q : ℕ) → length (waiting h q) ≤ limit
  within_limit [] l q = omega arith
  within_limit (e ∷ h) l q = elim (cases_eq q (queue_of e)) [
    | inl same ↦ let is = ap (λ (p : ℕ). length (waiting (e ∷ h) p)) same in let here = within_named h l.1 e l.0 (within_limit h l.1 (queue_of e)) in omega arith
    | inr ne ↦ let is = ap length (waiting_others h l.1 e l.0 q ne) in let old = within_limit h l.1 q in omega arith
  ]
