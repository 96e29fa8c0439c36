-- Nobody executes twice, by any log.
use Rattle.std.proofs.Common.{◌≡◌, ◌≢◌, ◌⊎◌, ℕ, ◌+◌, ◌≤◌, inl, inr, Bool, cond, true, false, eqb, List, [], ◌∷◌, sym, ap, ◌∙◌, subst, arith}
use Rattle.std.specs.Prelude.{◌&&◌, count_by}
use Rattle.std.proofs.lemmas.Bool.{cases_eq, eq-eqb, ne_eqb}
use Rattle.std.proofs.lemmas.List.Sums.{sum_by-cons}
use Rattle.apf_history.specs.declared.events.Event.{Event}
use Rattle.apf_history.specs.declared.events.Event.TheVariants.{Enter, Full, Dispatch, Strike}
use Rattle.apf_history.specs.declared.events.LogEntry.{LogEntry}
use Rattle.apf_history.specs.declared.events.LogEntry.TheVariants.{Happens, Spends, Settles}
use Rattle.apf_history.specs.Numbered.{width}
use Rattle.apf_history.specs.Order.{is_dispatch_of}
use Rattle.apf_history.specs.Charged.{events, Running, ended, IsAmong, runs, total, FollowsChoices, one_if_is}
use Rattle.apf_line.proofs.Tallies.{how_often}

-- what requests that execute come to without one of them
total_ended : (f : Running → ℕ) (r k : ℕ) (xs : List Running) → IsAmong r k xs → total f (ended r k xs) + f (record { request = r; charge = k }) ≡ total f xs
total_ended f r k [] is = absurd is
total_ended f r k (x ∷ xs) is = elim (cases_eq x.request r) [
  | inl same ↦ elim (cases_eq x.charge k) [
    | inl equal ↦
        (let flag : (eqb x.request r && eqb x.charge k) ≡ true = ap (λ (b : Bool). b && eqb x.charge k) (eq-eqb x.request r same) ∙ eq-eqb x.charge k equal in
        let w : total f (ended r k (x ∷ xs)) ≡ total f xs = ap (λ (b : Bool). total f (cond b xs (x ∷ ended r k xs))) flag in
        let e : f x ≡ f (record { request = r; charge = k }) = ap (λ (i : ℕ). f (record { request = i; charge = x.charge })) same ∙ ap (λ (i : ℕ). f (record { request = r; charge = i })) equal in
        omega arith)
    | inr other ↦
        (let flag : (eqb x.request r && eqb x.charge k) ≡ false = ap (λ (b : Bool). b && eqb x.charge k) (eq-eqb x.request r same) ∙ ne_eqb x.charge k other in
        let w : total f (ended r k (x ∷ xs)) ≡ f x + total f (ended r k xs) = ap (λ (b : Bool). total f (cond b xs (x ∷ ended r k xs))) flag in
        let old = total_ended f r k xs (later is (λ both. other both.1)) in omega arith)
  ]
  | inr other ↦
      (let flag : (eqb x.request r && eqb x.charge k) ≡ false = ap (λ (b : Bool). b && eqb x.charge k) (ne_eqb x.request r other) in
      let w : total f (ended r k (x ∷ xs)) ≡ f x + total f (ended r k xs) = ap (λ (b : Bool). total f (cond b xs (x ∷ ended r k xs))) flag in
      let old = total_ended f r k xs (later is (λ both. other both.0)) in omega arith)
] where
  later : (((x.request ≡ r) × (x.charge ≡ k)) ⊎ IsAmong r k xs) → ¬ ((x.request ≡ r) × (x.charge ≡ k)) → IsAmong r k xs
  later (inl same) other = absurd (other same)
  later (inr is) other = is

count : (r : ℕ) (e : Event) (h : List Event) → count_by (is_dispatch_of r) (e ∷ h) ≡ cond (is_dispatch_of r e) 1 0 + count_by (is_dispatch_of r) h
count r e h = sum_by-cons (λ x. cond (is_dispatch_of r x) 1 0) e h

module _ (queues : ℕ) (costs : List ℕ) (r : ℕ) where
  -- how often r executes from q
  abbrev often : List LogEntry → ℕ → ℕ
  often l q = how_often r (runs costs l q)

  dispatch_here : (j p q : ℕ) (l : List LogEntry) → p ≡ q → often (Happens (Dispatch j p) ∷ l) q ≡ one_if_is r j + often l q
  dispatch_here j p q l same = ap (λ (b : Bool). how_often r (cond b (record { request = j; charge = width costs j } ∷ runs costs l q) (runs costs l q))) (eq-eqb p q same)

  dispatch_else : (j p q : ℕ) (l : List LogEntry) → p ≢ q → often (Happens (Dispatch j p) ∷ l) q ≡ often l q
  dispatch_else j p q l other = ap (λ (b : Bool). how_often r (cond b (record { request = j; charge = width costs j } ∷ runs costs l q) (runs costs l q))) (ne_eqb p q other)

  spend_same : (j p k m q : ℕ) (l : List LogEntry) → IsAmong j k (runs costs l p) → often (Spends j p k m ∷ l) q ≡ often l q
  spend_same j p k m q l is = elim (cases_eq p q) [
    | inl same ↦
        (let w : often (Spends j p k m ∷ l) q ≡ one_if_is r j + how_often r (ended j k (runs costs l q)) = ap (λ (b : Bool). how_often r (cond b (record { request = j; charge = m } ∷ ended j k (runs costs l q)) (runs costs l q))) (eq-eqb p q same) in
        let t = total_ended (λ x. one_if_is r x.request) j k (runs costs l q) (subst (λ (i : ℕ). IsAmong j k (runs costs l i)) same is) in omega arith)
    | inr other ↦ ap (λ (b : Bool). how_often r (cond b (record { request = j; charge = m } ∷ ended j k (runs costs l q)) (runs costs l q))) (ne_eqb p q other)
  ]

  settle_fewer : (j p k m q : ℕ) (l : List LogEntry) → IsAmong j k (runs costs l p) → often (Settles j p k m ∷ l) q ≤ often l q
  settle_fewer j p k m q l is = elim (cases_eq p q) [
    | inl same ↦
        (let w : often (Settles j p k m ∷ l) q ≡ how_often r (ended j k (runs costs l q)) = ap (λ (b : Bool). how_often r (cond b (ended j k (runs costs l q)) (runs costs l q))) (eq-eqb p q same) in
        let t = total_ended (λ x. one_if_is r x.request) j k (runs costs l q) (subst (λ (i : ℕ). IsAmong j k (runs costs l i)) same is) in omega arith)
    | inr other ↦ (let w : often (Settles j p k m ∷ l) q ≡ often l q = ap (λ (b : Bool). how_often r (cond b (ended j k (runs costs l q)) (runs costs l q))) (ne_eqb p q other) in omega arith)
  ]

  -- it executes from one queue at most, as often as it was dispatched at most
  pub twice : (x p : ℕ) → x ≢ p → (l : List LogEntry) → FollowsChoices queues costs l → often l x + often l p ≤ count_by (is_dispatch_of r) (events l)
  twice x p ne [] d = omega arith
  twice x p ne (Happens (Enter j i) ∷ l) d = let old = twice x p ne l d.1 in let c = count r (Enter j i) (events l) in omega arith
  twice x p ne (Happens (Full j i) ∷ l) d = let old = twice x p ne l d.1 in let c = count r (Full j i) (events l) in omega arith
  twice x p ne (Happens (Strike j i) ∷ l) d = let old = twice x p ne l d.1 in let c = count r (Strike j i) (events l) in omega arith
  twice x p ne (Happens (Dispatch j i) ∷ l) d =
      let old = twice x p ne l d.1 in let c = count r (Dispatch j i) (events l) in
      elim (cases_eq i x) [
        | inl is ↦ (let a = dispatch_here j i x l is in let b = dispatch_else j i p l (λ e. ne (sym is ∙ e)) in omega arith)
        | inr other ↦ elim (cases_eq i p) [
          | inl is ↦ (let a = dispatch_else j i x l other in let b = dispatch_here j i p l is in omega arith)
          | inr neither ↦ (let a = dispatch_else j i x l other in let b = dispatch_else j i p l neither in omega arith)
        ]
      ]
  twice x p ne (Spends j i k m ∷ l) d = let old = twice x p ne l d.1 in let a = spend_same j i k m x l d.0 in let b = spend_same j i k m p l d.0 in omega arith
  twice x p ne (Settles j i k m ∷ l) d = let old = twice x p ne l d.1 in let a = settle_fewer j i k m x l d.0 in let b = settle_fewer j i k m p l d.0 in omega arith
