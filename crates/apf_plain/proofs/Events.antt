-- The events of a history: members, counts, and how many can wait.
use Rattle.std.proofs.Common.{◌≡◌, ℕ, suc, ◌+◌, ◌<◌, ◌≤◌, ◌⊎◌, inl, inr, Bool, true, false, cond, eqb, not, List, [], ◌∷◌, ◌++◌, length, refl, arith}
use Rattle.std.specs.Prelude.{Contains, count_by}
use Rattle.std.proofs.lemmas.List.{length_push}
use Rattle.std.proofs.lemmas.List.Elements.{Contains-append_cases, Contains-push_cases}
use Rattle.std.proofs.lemmas.List.Sums.{sum_by-cons, length-filter, count_by-le-length}
use Rattle.apf_history.specs.declared.events.Event.{Event}
use Rattle.apf_history.specs.declared.events.Event.TheVariants.{Enter, Full, Dispatch, Strike}
use Rattle.apf_history.specs.History.{entered, has_left, waiting}

pub Contains-head : {A : Type 0} (x : A) (xs : List A) → Contains (x ∷ xs) x
Contains-head x xs = (0, omega arith, refl)

pub Contains-tail : {A : Type 0} (x : A) (xs : List A) (y : A) → Contains xs y → Contains (x ∷ xs) y
Contains-tail x xs y c = (suc c.0, omega arith, c.2)

pub Contains-none : {A : Type 0} (y : A) → Contains [] y → ⊥
Contains-none y c = let l : c.0 < 0 = c.1 in absurd (omega arith)

pub Contains-cons_cases : {A : Type 0} (x : A) (xs : List A) (y : A) → Contains (x ∷ xs) y → (x ≡ y) ⊎ Contains xs y
Contains-cons_cases x xs y c = elim (Contains-append_cases (x ∷ []) xs y c) [
  | inl here ↦ elim (Contains-push_cases [] x y here) [ inl none ↦ absurd (Contains-none y none) | inr e ↦ inl e ]
  | inr there ↦ inr there
]

-- one event more
pub count : (p : Event → Bool) (e : Event) (h : List Event) → count_by p (e ∷ h) ≡ cond (p e) 1 0 + count_by p h
count p e h = sum_by-cons (λ x. cond (p x) 1 0) e h

-- no more wait than there are events
entered_short : (h : List Event) (q : ℕ) → length (entered h q) ≤ length h
entered_short [] q = omega arith
entered_short (Enter j p ∷ h) q = let old = entered_short h q in let more = one_more (eqb p q) (entered h q) j in omega arith where
  one_more : (b : Bool) (xs : List ℕ) (r : ℕ) → length (cond b (xs ++ r ∷ []) xs) ≤ suc (length xs)
  one_more true xs r = let n = length_push xs r in omega arith
  one_more false xs r = omega arith
entered_short (Full j p ∷ h) q = let old = entered_short h q in omega arith
entered_short (Dispatch j p ∷ h) q = let old = entered_short h q in omega arith
entered_short (Strike j p ∷ h) q = let old = entered_short h q in omega arith

pub waiting_short : (h : List Event) (q : ℕ) → length (waiting h q) ≤ length h
waiting_short h q = let stayed : ℕ → Bool = λ r. not (has_left h r) in
    let a = length-filter stayed (entered h q) in let b = count_by-le-length stayed (entered h q) in let c = entered_short h q in omega arith
