-- Agreement of a history with decisions, as the plain program judges it.
use Rattle.std.proofs.Common.{◌≡◌, ◌≢◌, ℕ, zero, suc, ◌<◌, ◌⊎◌, inl, inr, Bool, true, false, eqb, List, [], ◌∷◌, length, arith, Option, Some, None, refl, sym, ap, ◌∙◌, subst}
use Rattle.std.specs.Prelude.{◌||◌, Contains}
use Rattle.std.proofs.lemmas.Bool.{cases_eq, eq-eqb, ne_eqb, false≢true}
use Rattle.apf_words.specs.declared.decision.Decision.{Decision}
use Rattle.apf_words.specs.declared.decision.Decision.TheVariants.{Execute, QueueFull, Closed, Cancelled, ConcurrencyLimit}
use Rattle.apf_history.specs.declared.events.Event.{Event}
use Rattle.apf_history.specs.declared.events.Event.TheVariants.{Enter, Full, Dispatch, Strike}
use Rattle.apf_history.specs.Outcome.{Agrees, decided_at}
use Rattle.apf_plain.specs.Histories.{decision_in, IsDecidedSo, AreDecided, has_full, has_dispatch}
use Rattle.apf_plain.proofs.Events.{Contains-head, Contains-tail, Contains-none, Contains-cons_cases}

decided_by : (d : ℕ → Option Decision) (h : List Event) (e : Event) → AreDecided d h → Contains h e → IsDecidedSo d e
decided_by d [] e a c = absurd (Contains-none e c)
decided_by d (f ∷ h) e a c = elim (Contains-cons_cases f h e c) [
  | inl is ↦ subst (IsDecidedSo d) is a.0
  | inr there ↦ decided_by d h e a.1 there
]

by_decided : (d : ℕ → Option Decision) (h : List Event) → ((e : Event) → Contains h e → IsDecidedSo d e) → AreDecided d h
by_decided d [] each = tt
by_decided d (f ∷ h) each = (each f (Contains-head f h), by_decided d h (λ e c. each e (Contains-tail f h e c)))

or_cases : (a b : Bool) → (a || b) ≡ true → (a ≡ true) ⊎ (b ≡ true)
or_cases true b e = inl refl
or_cases false b e = inr e

or_right : (a b : Bool) → b ≡ true → (a || b) ≡ true
or_right true b e = refl
or_right false b e = e

same_of : (j r : ℕ) → eqb j r ≡ true → j ≡ r
same_of j r e = elim (cases_eq j r) [ inl same ↦ same | inr ne ↦ absurd (false≢true (sym (ne_eqb j r ne) ∙ e)) ]

full_in : (h : List Event) (r : ℕ) → has_full h r ≡ true → (q : ℕ) × Contains h (Full r q)
full_in [] r e = absurd (false≢true e)
full_in (Full j q ∷ h) r e = elim (or_cases (eqb j r) (has_full h r) e) [
  | inl is ↦ (q, subst (λ (i : ℕ). Contains (Full j q ∷ h) (Full i q)) (same_of j r is) (Contains-head (Full j q) h))
  | inr there ↦ let w = full_in h r there in (w.0, Contains-tail (Full j q) h (Full r w.0) w.1)
]
full_in (Enter j q ∷ h) r e = let w = full_in h r e in (w.0, Contains-tail (Enter j q) h (Full r w.0) w.1)
full_in (Dispatch j q ∷ h) r e = let w = full_in h r e in (w.0, Contains-tail (Dispatch j q) h (Full r w.0) w.1)
full_in (Strike j q ∷ h) r e = let w = full_in h r e in (w.0, Contains-tail (Strike j q) h (Full r w.0) w.1)

is_full : (e : Event) (r q : ℕ) → e ≡ Full r q → (h : List Event) → has_full (e ∷ h) r ≡ true
is_full (Full j p) r q same h = let e : j ≡ r = cc in ap (λ (b : Bool). b || has_full h r) (eq-eqb j r e)
is_full (Enter j p) r q same h = absurd (cc)
is_full (Dispatch j p) r q same h = absurd (cc)
is_full (Strike j p) r q same h = absurd (cc)

more_full : (e : Event) (h : List Event) (r : ℕ) → has_full h r ≡ true → has_full (e ∷ h) r ≡ true
more_full (Full j p) h r e = or_right (eqb j r) (has_full h r) e
more_full (Enter j p) h r e = e
more_full (Dispatch j p) h r e = e
more_full (Strike j p) h r e = e

in_full : (h : List Event) (r q : ℕ) → Contains h (Full r q) → has_full h r ≡ true
in_full [] r q c = absurd (Contains-none (Full r q) c)
in_full (f ∷ h) r q c = elim (Contains-cons_cases f h (Full r q) c) [
  | inl is ↦ is_full f r q is h
  | inr there ↦ more_full f h r (in_full h r q there)
]

pub dispatch_in : (h : List Event) (r : ℕ) → has_dispatch h r ≡ true → (q : ℕ) × Contains h (Dispatch r q)
dispatch_in [] r e = absurd (false≢true e)
dispatch_in (Dispatch j q ∷ h) r e = elim (or_cases (eqb j r) (has_dispatch h r) e) [
  | inl is ↦ (q, subst (λ (i : ℕ). Contains (Dispatch j q ∷ h) (Dispatch i q)) (same_of j r is) (Contains-head (Dispatch j q) h))
  | inr there ↦ let w = dispatch_in h r there in (w.0, Contains-tail (Dispatch j q) h (Dispatch r w.0) w.1)
]
dispatch_in (Enter j q ∷ h) r e = let w = dispatch_in h r e in (w.0, Contains-tail (Enter j q) h (Dispatch r w.0) w.1)
dispatch_in (Full j q ∷ h) r e = let w = dispatch_in h r e in (w.0, Contains-tail (Full j q) h (Dispatch r w.0) w.1)
dispatch_in (Strike j q ∷ h) r e = let w = dispatch_in h r e in (w.0, Contains-tail (Strike j q) h (Dispatch r w.0) w.1)

is_dispatch : (e : Event) (r q : ℕ) → e ≡ Dispatch r q → (h : List Event) → has_dispatch (e ∷ h) r ≡ true
is_dispatch (Dispatch j p) r q same h = let e : j ≡ r = cc in ap (λ (b : Bool). b || has_dispatch h r) (eq-eqb j r e)
is_dispatch (Enter j p) r q same h = absurd (cc)
is_dispatch (Full j p) r q same h = absurd (cc)
is_dispatch (Strike j p) r q same h = absurd (cc)

more_dispatch : (e : Event) (h : List Event) (r : ℕ) → has_dispatch h r ≡ true → has_dispatch (e ∷ h) r ≡ true
more_dispatch (Dispatch j p) h r e = or_right (eqb j r) (has_dispatch h r) e
more_dispatch (Enter j p) h r e = e
more_dispatch (Full j p) h r e = e
more_dispatch (Strike j p) h r e = e

pub in_dispatch : (h : List Event) (r q : ℕ) → Contains h (Dispatch r q) → has_dispatch h r ≡ true
in_dispatch [] r q c = absurd (Contains-none (Dispatch r q) c)
in_dispatch (f ∷ h) r q c = elim (Contains-cons_cases f h (Dispatch r q) c) [
  | inl is ↦ is_dispatch f r q is h
  | inr there ↦ more_dispatch f h r (in_dispatch h r q there)
]

-- agreement is what the two judges say together
abbrev pub HasEachFull : (ℕ → Option Decision) → List Event → Type 0
HasEachFull d h = (r : ℕ) → d r ≡ Some QueueFull → has_full h r ≡ true

pub agrees_by : (d : ℕ → Option Decision) (h : List Event) → AreDecided d h → HasEachFull d h → Agrees h d
agrees_by d h a f = record {
  dispatched = λ r q c. decided_by d h (Dispatch r q) a c;
  struck = λ r q c. decided_by d h (Strike r q) a c;
  full = λ r. ((λ w. decided_by d h (Full r w.0) a w.1), λ e. full_in h r (f r e));
}

pub agrees_decided : (d : ℕ → Option Decision) (h : List Event) → Agrees h d → AreDecided d h
agrees_decided d h g = by_decided d h each where
  each : (e : Event) → Contains h e → IsDecidedSo d e
  each (Enter r q) c = tt
  each (Full r q) c = (g.full r).0 (q, c)
  each (Dispatch r q) c = g.dispatched r q c
  each (Strike r q) c = g.struck r q c

pub agrees_full : (d : ℕ → Option Decision) (h : List Event) → Agrees h d → HasEachFull d h
agrees_full d h g r e = let w = (g.full r).1 e in in_full h r w.0 w.1

-- past the list nobody is decided
pub decided_within : (ds : List (Option Decision)) (r : ℕ) (d : Decision) → decision_in ds r ≡ Some d → r < length ds
decided_within [] r d e = absurd (cc)
decided_within (x ∷ xs) zero d e = omega arith
decided_within (x ∷ xs) (suc r) d e = let l = decided_within xs r d e in omega arith

-- one request more that is decided so, or not
pub decided_yes : (d : Decision) (x : Option Decision) → x ≡ Some d → decided_at d x ≡ 1
decided_yes Execute x e = ap (decided_at Execute) e
decided_yes QueueFull x e = ap (decided_at QueueFull) e
decided_yes Closed x e = ap (decided_at Closed) e
decided_yes Cancelled x e = ap (decided_at Cancelled) e
decided_yes ConcurrencyLimit x e = ap (decided_at ConcurrencyLimit) e

pub decided_no : (d : Decision) (x : Option Decision) → x ≢ Some d → decided_at d x ≡ 0
decided_no Execute None ne = refl
decided_no Execute (Some Execute) ne = absurd (ne refl)
decided_no Execute (Some QueueFull) ne = refl
decided_no Execute (Some Closed) ne = refl
decided_no Execute (Some Cancelled) ne = refl
decided_no Execute (Some ConcurrencyLimit) ne = refl
decided_no QueueFull None ne = refl
decided_no QueueFull (Some Execute) ne = refl
decided_no QueueFull (Some QueueFull) ne = absurd (ne refl)
decided_no QueueFull (Some Closed) ne = refl
decided_no QueueFull (Some Cancelled) ne = refl
decided_no QueueFull (Some ConcurrencyLimit) ne = refl
decided_no Closed None ne = refl
decided_no Closed (Some Execute) ne = refl
decided_no Closed (Some QueueFull) ne = refl
decided_no Closed (Some Closed) ne = absurd (ne refl)
decided_no Closed (Some Cancelled) ne = refl
decided_no Closed (Some ConcurrencyLimit) ne = refl
decided_no Cancelled None ne = refl
decided_no Cancelled (Some Execute) ne = refl
decided_no Cancelled (Some QueueFull) ne = refl
decided_no Cancelled (Some Closed) ne = refl
decided_no Cancelled (Some Cancelled) ne = absurd (ne refl)
decided_no Cancelled (Some ConcurrencyLimit) ne = refl
decided_no ConcurrencyLimit None ne = refl
decided_no ConcurrencyLimit (Some Execute) ne = refl
decided_no ConcurrencyLimit (Some QueueFull) ne = refl
decided_no ConcurrencyLimit (Some Closed) ne = refl
decided_no ConcurrencyLimit (Some Cancelled) ne = refl
decided_no ConcurrencyLimit (Some ConcurrencyLimit) ne = absurd (ne refl)
