-- Who executes, and is charged something else than it takes, is charged something else later, or is there at the end.
use Rattle.std.proofs.Common.{◌≡◌, ◌≢◌, ◌⊎◌, ℕ, ◌+◌, ◌<◌, ◌≤◌, inl, inr, Bool, cond, true, false, eqb, List, [], ◌∷◌, ◌++◌, refl, sym, ap, ◌∙◌, subst, arith}
use Rattle.std.specs.Prelude.{◌&&◌}
use Rattle.std.proofs.lemmas.Bool.{cases_eq, eq-eqb, ne_eqb}
use Rattle.apf_history.specs.declared.events.Event.{Event}
use Rattle.apf_history.specs.declared.events.Event.TheVariants.{Enter, Full, Dispatch, Strike}
use Rattle.apf_history.specs.declared.events.LogEntry.{LogEntry}
use Rattle.apf_history.specs.declared.events.LogEntry.TheVariants.{Happens, Spends, Settles}
use Rattle.apf_history.specs.Numbered.{width}
use Rattle.apf_history.specs.Tally.{tally}
use Rattle.apf_history.specs.Charged.{events, Running, ended, IsAmong, runs, misjudged, misjudged_from, HasSeats, one_if_is}
use Rattle.apf_line.proofs.Tallies.{how_often, total_append, AreCovered, covered_append, within}

-- who is among one of two lists
among_cond : (r k : ℕ) (b : Bool) (xs ys : List Running) → IsAmong r k xs → IsAmong r k ys → IsAmong r k (cond b xs ys)
among_cond r k true xs ys x y = x
among_cond r k false xs ys x y = y

-- another request ended: who executes executes still
survives : (r k j m : ℕ) (xs : List Running) → r ≢ j → IsAmong r k xs → IsAmong r k (ended j m xs)
survives r k j m [] ne is = is
survives r k j m (x ∷ xs) ne (inl same) =
    let flag : (eqb x.request j && eqb x.charge m) ≡ false = ap (λ (b : Bool). b && eqb x.charge m) (ne_eqb x.request j (λ e. ne (sym same.0 ∙ e))) in
    subst (λ (b : Bool). IsAmong r k (cond b xs (x ∷ ended j m xs))) (sym flag) (inl same)
survives r k j m (x ∷ xs) ne (inr is) = among_cond r k (eqb x.request j && eqb x.charge m) xs (x ∷ ended j m xs) is (inr (survives r k j m xs ne is))

-- the events of a log that goes on
pub events_append : (later earlier : List LogEntry) → events (later ++ earlier) ≡ events later ++ events earlier
events_append [] earlier = refl
events_append (Happens e ∷ later) earlier = ap (λ (h : List Event). e ∷ h) (events_append later earlier)
events_append (Spends r q old new ∷ later) earlier = events_append later earlier
events_append (Settles r q old new ∷ later) earlier = events_append later earlier

module _ (costs : List ℕ) (Held : List Event → ℕ → Type 0) (less : (newer h : List Event) (r : ℕ) → Held (newer ++ h) r → Held h r) where
  -- who is charged anew held its seats then
  abbrev pub AreHeld : List LogEntry → Type 0
  AreHeld [] = Unit {0}
  AreHeld (Happens e ∷ l) = AreHeld l
  AreHeld (Spends r q old new ∷ l) = Held (events l) r × AreHeld l
  AreHeld (Settles r q old new ∷ l) = Held (events l) r × AreHeld l

  held_before : (later l : List LogEntry) (r : ℕ) → Held (events (later ++ l)) r → Held (events l) r
  held_before later l r h = less (events later) (events l) r (subst (λ (x : List Event). Held x r) (events_append later l) h)

  pub goes_on : (later l : List LogEntry) (r k q : ℕ) → AreHeld (later ++ l) → IsAmong r k (runs costs l q) → Held (events l) r ⊎ IsAmong r k (runs costs (later ++ l) q)
  goes_on [] l r k q held is = inr is
  goes_on (Happens (Enter j p) ∷ later) l r k q held is = goes_on later l r k q held is
  goes_on (Happens (Full j p) ∷ later) l r k q held is = goes_on later l r k q held is
  goes_on (Happens (Strike j p) ∷ later) l r k q held is = goes_on later l r k q held is
  goes_on (Happens (Dispatch j p) ∷ later) l r k q held is = elim (goes_on later l r k q held is) [
    | inl was ↦ inl was
    | inr still ↦ inr (among_cond r k (eqb p q) (record { request = j; charge = width costs j } ∷ runs costs (later ++ l) q) (runs costs (later ++ l) q) (inr still) still)
  ]
  goes_on (Spends j p old new ∷ later) l r k q held is = elim (goes_on later l r k q held.1 is) [
    | inl was ↦ inl was
    | inr still ↦ elim (cases_eq r j) [
      | inl same ↦ inl (held_before later l r (subst (λ (i : ℕ). Held (events (later ++ l)) i) (sym same) held.0))
      | inr other ↦ inr (among_cond r k (eqb p q) (record { request = j; charge = new } ∷ ended j old (runs costs (later ++ l) q)) (runs costs (later ++ l) q) (inr (survives r k j old (runs costs (later ++ l) q) other still)) still)
    ]
  ]
  goes_on (Settles j p old new ∷ later) l r k q held is = elim (goes_on later l r k q held.1 is) [
    | inl was ↦ inl was
    | inr still ↦ elim (cases_eq r j) [
      | inl same ↦ inl (held_before later l r (subst (λ (i : ℕ). Held (events (later ++ l)) i) (sym same) held.0))
      | inr other ↦ inr (among_cond r k (eqb p q) (ended j old (runs costs (later ++ l) q)) (runs costs (later ++ l) q) (survives r k j old (runs costs (later ++ l) q) other still) still)
    ]
  ]

-- each one who is misjudged is one of the first n, and has its seats by these numbers
abbrev pub AreSeatedBy : (wide measure f : ℕ → ℕ) (n : ℕ) → List Running → Type 0
AreSeatedBy wide measure f n xs = (r k : ℕ) → IsAmong r k xs → (k ≡ measure r) ⊎ ((r < n) × (wide r ≤ f r))

covers : (wide measure f : ℕ → ℕ) (n : ℕ) (xs : List Running) → AreSeatedBy wide measure f n xs → AreCovered (misjudged wide measure) f n xs
covers wide measure f n [] all = tt
covers wide measure f n (x ∷ xs) all =
    let rest = covers wide measure f n xs (λ r k is. all r k (inr is)) in
    elim (cases_eq x.charge (measure x.request)) [
      | inl same ↦ (inl (ap (λ (b : Bool). cond b 0 (wide x.request)) (eq-eqb x.charge (measure x.request) same)), rest)
      | inr other ↦ elim (all x.request x.charge (inl (refl, refl))) [
        | inl same ↦ absurd (other same)
        | inr seated ↦
            (let is : misjudged wide measure x ≡ wide x.request = ap (λ (b : Bool). cond b 0 (wide x.request)) (ne_eqb x.charge (measure x.request) other) in
            let le = seated.1 in
            (inr (seated.0, (let z : misjudged wide measure x ≤ f x.request = omega arith in z)), rest))
      ]
    ]

-- so those of two queues have no more seats than all together
module _ (seats : ℕ) (wide measure f : ℕ → ℕ) (n : ℕ) (costs : List ℕ) (l : List LogEntry)
    (few : tally f n ≤ seats)
    (seated : (q : ℕ) → AreSeatedBy wide measure f n (runs costs l q))
    (once : (x p : ℕ) → x ≢ p → (r : ℕ) → how_often r (runs costs l x) + how_often r (runs costs l p) ≤ 1) where
  both : (x p : ℕ) → x ≢ p → misjudged_from wide measure costs l x + misjudged_from wide measure costs l p ≤ seats
  both x p ne =
      let xs = runs costs l x in let ys = runs costs l p in
      let all = within (misjudged wide measure) n (xs ++ ys) f (λ r. (let a = once x p ne r in let b = total_append (λ y. one_if_is r y.request) xs ys in omega arith))
      (covered_append (misjudged wide measure) f n xs ys (covers wide measure f n xs (seated x)) (covers wide measure f n ys (seated p))) in
      let sum = total_append (misjudged wide measure) xs ys in omega arith

  pub has_seats : HasSeats seats wide measure costs l
  has_seats = record {
    each = λ x. (let a = both x (x + 1) (λ e. omega arith) in omega arith);
    both = both;
  }
