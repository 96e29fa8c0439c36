-- Lists without repeats, and a request that is put into one or taken out.
use Rattle.std.proofs.Common.{◌≡◌, ◌≢◌, ℕ, suc, ◌<◌, ◌⊎◌, inl, inr, Bool, true, false, cond, not, eqb, List, [], ◌∷◌, ◌++◌, length, drop, Option, Some, None, refl, sym, ap, ◌∙◌, subst, arith}
use Rattle.std.specs.Prelude.{Contains, slice_get}
use Rattle.std.proofs.lemmas.Bool.{cases_eq, eq-eqb, ne_eqb, false≢true}
use Rattle.std.proofs.lemmas.List.Elements.{All-contains, All-contains_itself, All-filter, filter_passes, Contains-append_cases, Contains-push_cases}
use Rattle.apf_queue.specs.Nodes.{NotIn, AreApart}
use Rattle.apf_queue.specs.RingsView.{without}

pub Contains-head : (x : ℕ) (xs : List ℕ) → Contains (x ∷ xs) x
Contains-head x xs = (0, omega arith, refl)

pub Contains-tail : (x : ℕ) (xs : List ℕ) (y : ℕ) → Contains xs y → Contains (x ∷ xs) y
Contains-tail x xs y c = (suc c.0, omega arith, c.2)

pub Contains-cons_cases : (x : ℕ) (xs : List ℕ) (y : ℕ) → Contains (x ∷ xs) y → (x ≡ y) ⊎ Contains xs y
Contains-cons_cases x xs y c = elim (Contains-append_cases (x ∷ []) xs y c) [
  | inl here ↦ elim (Contains-push_cases [] x y here) [ inl none ↦ absurd (let h : none.0 < 0 = none.1 in omega arith) | inr e ↦ inl e ]
  | inr there ↦ inr there
]

-- a number that none of these equals
pub NotIn-from : (i : ℕ) (xs : List ℕ) → ((x : ℕ) → Contains xs x → x ≢ i) → NotIn i xs
NotIn-from i [] h = tt
NotIn-from i (x ∷ xs) h = ((λ e. h x (Contains-head x xs) (sym e)), NotIn-from i xs (λ y c. h y (Contains-tail x xs y c)))

pub NotIn-contains : (i : ℕ) (xs : List ℕ) → NotIn i xs → Contains xs i → ⊥
NotIn-contains i [] h c = absurd (let l : c.0 < 0 = c.1 in omega arith)
NotIn-contains i (x ∷ xs) h c = elim (Contains-cons_cases x xs i c) [ inl e ↦ h.0 (sym e) | inr there ↦ NotIn-contains i xs h.1 there ]

NotIn-push : (i : ℕ) (xs : List ℕ) (y : ℕ) → NotIn i xs → i ≢ y → NotIn i (xs ++ y ∷ [])
NotIn-push i [] y h ne = (ne, tt)
NotIn-push i (x ∷ xs) y h ne = (h.0, NotIn-push i xs y h.1 ne)

-- one more at the end
pub AreApart-push : (xs : List ℕ) (y : ℕ) → AreApart xs → NotIn y xs → AreApart (xs ++ y ∷ [])
AreApart-push [] y h out = (tt, tt)
AreApart-push (x ∷ xs) y h out = (NotIn-push x xs y h.0 (λ e. out.0 (sym e)), AreApart-push xs y h.1 out.1)

NotIn-out : (i : ℕ) (before : List ℕ) (r : ℕ) (after : List ℕ) → NotIn i (before ++ r ∷ after) → NotIn i (before ++ after)
NotIn-out i [] r after h = h.1
NotIn-out i (x ∷ before) r after h = (h.0, NotIn-out i before r after h.1)

-- one fewer in the middle
pub AreApart-out : (before : List ℕ) (r : ℕ) (after : List ℕ) → AreApart (before ++ r ∷ after) → AreApart (before ++ after)
AreApart-out [] r after h = h.1
AreApart-out (x ∷ before) r after h = (NotIn-out x before r after h.0, AreApart-out before r after h.1)

NotIn-right : (i : ℕ) (xs ys : List ℕ) → NotIn i (xs ++ ys) → NotIn i ys
NotIn-right i [] ys h = h
NotIn-right i (x ∷ xs) ys h = NotIn-right i xs ys h.1

pub length-out : (before : List ℕ) (r : ℕ) (after : List ℕ) → length (before ++ r ∷ after) ≡ suc (length (before ++ after))
length-out [] r after = refl
length-out (x ∷ before) r after = ap suc (length-out before r after)

without-skips : (r x : ℕ) (xs : List ℕ) → r ≢ x → without r (x ∷ xs) ≡ x ∷ without r xs
without-skips r x xs ne = ap (λ (b : Bool). cond (not b) (x ∷ without r xs) (without r xs)) (ne_eqb r x ne)

without-drops : (r : ℕ) (xs : List ℕ) → without r (r ∷ xs) ≡ without r xs
without-drops r xs = ap (λ (b : Bool). cond (not b) (r ∷ without r xs) (without r xs)) (eq-eqb r r refl)

without-absent : (r : ℕ) (xs : List ℕ) → NotIn r xs → without r xs ≡ xs
without-absent r [] h = refl
without-absent r (x ∷ xs) h = without-skips r x xs h.0 ∙ ap (λ ys. x ∷ ys) (without-absent r xs h.1)

-- the list without a request that stands there once
pub without-out : (before : List ℕ) (r : ℕ) (after : List ℕ) → AreApart (before ++ r ∷ after) → without r (before ++ r ∷ after) ≡ before ++ after
without-out [] r after h = without-drops r after ∙ without-absent r after h.0
without-out (x ∷ before) r after h =
    let ne : r ≢ x = λ e. (NotIn-right x before (r ∷ after) h.0).0 (sym e) in
    without-skips r x (before ++ r ∷ after) ne ∙ ap (λ ys. x ∷ ys) (without-out before r after h.1)

-- where a request stands
pub record IsSplit (xs : List ℕ) (r : ℕ) : Type 0 where
  pub before : List ℕ
  pub after : List ℕ
  pub is : xs ≡ before ++ r ∷ after

pub split_at : (xs : List ℕ) (r : ℕ) → Contains xs r → IsSplit xs r
split_at [] r c = absurd (let l : c.0 < 0 = c.1 in omega arith)
split_at (x ∷ xs) r c = elim (Contains-cons_cases x xs r c) [
  | inl e ↦ record { before = []; after = xs; is = ap (λ y. y ∷ xs) e }
  | inr there ↦ let s = split_at xs r there in record { before = x ∷ s.before; after = s.after; is = ap (λ ys. x ∷ ys) s.is }
]

-- the list without r has the others, and only these
pub Contains-without : (r : ℕ) (xs : List ℕ) (x : ℕ) → Contains (without r xs) x → Contains xs x × (x ≢ r)
Contains-without r xs x c = (
  All-contains (Contains xs) (without r xs) x (All-filter (λ j. not (eqb r j)) (Contains xs) xs (All-contains_itself xs)) c,
  λ e. let passes = All-contains (λ (j : ℕ). not (eqb r j) ≡ true) (without r xs) x (filter_passes (λ j. not (eqb r j)) xs) c in
      let fails : not (eqb r x) ≡ false = ap not (eq-eqb r x (sym e)) in false≢true (sym fails ∙ passes),
)

pub without-contains : (r : ℕ) (xs : List ℕ) (x : ℕ) → Contains xs x → x ≢ r → Contains (without r xs) x
without-contains r [] x c ne = c
without-contains r (y ∷ ys) x c ne = elim (cases_eq r y) [
  | inl e ↦ elim (Contains-cons_cases y ys x c) [
    | inl same ↦ absurd (ne (sym same ∙ sym e))
    | inr there ↦ subst (λ (zs : List ℕ). Contains zs x) (sym (ap (λ z. without r (z ∷ ys)) (sym e) ∙ without-drops r ys)) (without-contains r ys x there ne)
  ]
  | inr other ↦ subst (λ (zs : List ℕ). Contains zs x) (sym (without-skips r y ys other)) (elim (Contains-cons_cases y ys x c) [
    | inl same ↦ subst (λ (z : ℕ). Contains (y ∷ without r ys) z) same (Contains-head y (without r ys))
    | inr there ↦ Contains-tail y (without r ys) x (without-contains r ys x there ne)
  ])
]

first_none : {r : ℕ} → ◌≡◌ {A = Option ℕ} None (Some r) → ⊥
first_none e = cc

-- a list whose first is r
pub first_split : (xs : List ℕ) (r : ℕ) → slice_get xs 0 ≡ Some r → xs ≡ r ∷ drop 1 xs
first_split [] r e = absurd (first_none e)
first_split (x ∷ xs) r e = let same : x ≡ r = cc in ap (λ y. y ∷ xs) same

pub first_contains : (xs : List ℕ) (r : ℕ) → slice_get xs 0 ≡ Some r → Contains xs r
first_contains xs r e = subst (λ (ys : List ℕ). Contains ys r) (sym (first_split xs r e)) (Contains-head r (drop 1 xs))
