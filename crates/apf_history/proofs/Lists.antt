-- Lists without repeats, and a number that is put into one or taken out.
use Rattle.std.proofs.Common.{◌≡◌, ◌≢◌, ℕ, suc, ◌<◌, ◌⊎◌, inl, inr, Bool, true, false, cond, not, eqb, List, [], ◌∷◌, ◌++◌, length, drop, Option, Some, None, refl, sym, ap, ◌∙◌, subst, arith}
use Rattle.std.specs.Prelude.{◌||◌, All, AllPairs, Contains, slice_get, filter}
use Rattle.std.proofs.lemmas.Bool.{cases_eq, eq-eqb, ne_eqb, false≢true}
use Rattle.std.proofs.lemmas.List.Elements.{All-nil, All-cons, All-contains, All-contains_itself, All-filter, filter_passes, Contains-append_cases, Contains-push_cases}
use Rattle.std.proofs.lemmas.List.Kept.{AllPairs-cons}

-- the list without r
abbrev pub without : ℕ → List ℕ → List ℕ
without r rs = filter (λ j. not (eqb r j)) rs

-- i is none of these
abbrev pub NotIn : ℕ → List ℕ → Type 0
NotIn i [] = Unit {0}
NotIn i (x ∷ xs) = (i ≢ x) × NotIn i xs

-- no number stands there twice
abbrev pub AreApart : List ℕ → Type 0
AreApart [] = Unit {0}
AreApart (x ∷ xs) = NotIn x xs × AreApart xs

pub Contains-head : {A : Type 0} (x : A) (xs : List A) → Contains (x ∷ xs) x
Contains-head x xs = (0, omega arith, refl)

pub Contains-tail : {A : Type 0} (x : A) (xs : List A) (y : A) → Contains xs y → Contains (x ∷ xs) y
Contains-tail x xs y c = (suc c.0, omega arith, c.2)

pub Contains-none : {A : Type 0} (y : A) → Contains [] y → ⊥
Contains-none y c = let l : c.0 < 0 = c.1 in absurd (omega arith)

pub Contains-cons_cases : {A : Type 0} (x : A) (xs : List A) (y : A) → Contains (x ∷ xs) y → (x ≡ y) ⊎ Contains xs y
Contains-cons_cases x xs y c = elim (Contains-append_cases (x ∷ []) xs y c) [
  | inl here ↦ elim (Contains-push_cases [] x y here) [ inl none ↦ absurd (Contains-none y none) | inr e ↦ inl e ]
  | inr there ↦ inr there
]

pub NotIn-from : (i : ℕ) (xs : List ℕ) → ((x : ℕ) → Contains xs x → x ≢ i) → NotIn i xs
NotIn-from i [] h = tt
NotIn-from i (x ∷ xs) h = ((λ e. h x (Contains-head x xs) (sym e)), NotIn-from i xs (λ y c. h y (Contains-tail x xs y c)))

pub NotIn-contains : (i : ℕ) (xs : List ℕ) → NotIn i xs → Contains xs i → ⊥
NotIn-contains i [] h c = Contains-none i c
NotIn-contains i (x ∷ xs) h c = elim (Contains-cons_cases x xs i c) [ inl e ↦ h.0 (sym e) | inr there ↦ NotIn-contains i xs h.1 there ]

NotIn-push : (i : ℕ) (xs : List ℕ) (y : ℕ) → NotIn i xs → i ≢ y → NotIn i (xs ++ y ∷ [])
NotIn-push i [] y h ne = (ne, tt)
NotIn-push i (x ∷ xs) y h ne = (h.0, NotIn-push i xs y h.1 ne)

-- one more at the end
pub AreApart-push : (xs : List ℕ) (y : ℕ) → AreApart xs → NotIn y xs → AreApart (xs ++ y ∷ [])
AreApart-push [] y h out = (tt, tt)
AreApart-push (x ∷ xs) y h out = (NotIn-push x xs y h.0 (λ e. out.0 (sym e)), AreApart-push xs y h.1 out.1)

NotIn-filter : (p : ℕ → Bool) (i : ℕ) (xs : List ℕ) → NotIn i xs → NotIn i (filter p xs)
NotIn-filter p i xs h = NotIn-from i (filter p xs) (λ x c e. NotIn-contains i xs h (subst (λ (y : ℕ). Contains xs y) e (All-contains (Contains xs) (filter p xs) x (All-filter p (Contains xs) xs (All-contains_itself xs)) c)))

apart_at : (p : ℕ → Bool) (x : ℕ) (xs : List ℕ) (b : Bool) → NotIn x xs → AreApart (filter p xs) → AreApart (cond b (x ∷ filter p xs) (filter p xs))
apart_at p x xs true out rest = (NotIn-filter p x xs out, rest)
apart_at p x xs false out rest = rest

pub AreApart-filter : (p : ℕ → Bool) (xs : List ℕ) → AreApart xs → AreApart (filter p xs)
AreApart-filter p [] a = tt
AreApart-filter p (x ∷ xs) a = apart_at p x xs (p x) a.0 (AreApart-filter p xs a.1)

NotIn-all : (i : ℕ) (xs : List ℕ) → NotIn i xs → All (λ x. i ≢ x) xs
NotIn-all i [] h = All-nil (λ x. i ≢ x)
NotIn-all i (x ∷ xs) h = All-cons (λ x. i ≢ x) x xs h.0 (NotIn-all i xs h.1)

-- each differs from each later one
pub AreApart-pairs : (xs : List ℕ) → AreApart xs → AllPairs (λ x later. x ≢ later) xs
AreApart-pairs [] h = λ i j d l m. absurd (let n : j < 0 = m in omega arith)
AreApart-pairs (x ∷ xs) h = AllPairs-cons (λ x later. x ≢ later) x xs (NotIn-all x xs h.0) (AreApart-pairs xs h.1)

pub without-absent : (r : ℕ) (xs : List ℕ) → (Contains xs r → ⊥) → without r xs ≡ xs
without-absent r [] h = refl
without-absent r (x ∷ xs) h =
    let ne : r ≢ x = λ e. h (subst (λ (y : ℕ). Contains (x ∷ xs) y) (sym e) (Contains-head x xs)) in
    ap (λ (b : Bool). cond (not b) (x ∷ without r xs) (without r xs)) (ne_eqb r x ne) ∙ ap (λ ys. x ∷ ys) (without-absent r xs (λ c. h (Contains-tail x xs r c)))

pub without-first : (r : ℕ) (xs : List ℕ) → AreApart (r ∷ xs) → without r (r ∷ xs) ≡ xs
without-first r xs a = ap (λ (b : Bool). cond (not b) (r ∷ without r xs) (without r xs)) (eq-eqb r r refl) ∙ without-absent r xs (λ c. NotIn-contains r xs a.0 c)

-- the list without r has the others, and only these
pub Contains-without : (r : ℕ) (xs : List ℕ) (x : ℕ) → Contains (without r xs) x → Contains xs x × (x ≢ r)
Contains-without r xs x c = (
  All-contains (Contains xs) (without r xs) x (All-filter (λ j. not (eqb r j)) (Contains xs) xs (All-contains_itself xs)) c,
  λ e. let passes = All-contains (λ (j : ℕ). not (eqb r j) ≡ true) (without r xs) x (filter_passes (λ j. not (eqb r j)) xs) c in
      let fails : not (eqb r x) ≡ false = ap not (eq-eqb r x (sym e)) in false≢true (sym fails ∙ passes),
)

pub without-contains : (r : ℕ) (xs : List ℕ) (x : ℕ) → Contains xs x → x ≢ r → Contains (without r xs) x
without-contains r [] x c ne = c
without-contains r (y ∷ ys) x c ne = elim (cases_eq r y) [
  | inl e ↦ elim (Contains-cons_cases y ys x c) [
    | inl same ↦ absurd (ne (sym same ∙ sym e))
    | inr there ↦ subst (λ (zs : List ℕ). Contains zs x) (sym (ap (λ (b : Bool). cond (not b) (y ∷ without r ys) (without r ys)) (eq-eqb r y e))) (without-contains r ys x there ne)
  ]
  | inr other ↦ subst (λ (zs : List ℕ). Contains zs x) (sym (ap (λ (b : Bool). cond (not b) (y ∷ without r ys) (without r ys)) (ne_eqb r y other))) (elim (Contains-cons_cases y ys x c) [
    | inl same ↦ subst (λ (z : ℕ). Contains (y ∷ without r ys) z) same (Contains-head y (without r ys))
    | inr there ↦ Contains-tail y (without r ys) x (without-contains r ys x there ne)
  ])
]

-- one fewer
pub length-without : (r : ℕ) (xs : List ℕ) → AreApart xs → Contains xs r → length xs ≡ suc (length (without r xs))
length-without r [] a c = absurd (Contains-none r c)
length-without r (x ∷ xs) a c = elim (cases_eq r x) [
  | inl e ↦ ap suc (sym (ap length (ap (λ (b : Bool). cond (not b) (x ∷ without r xs) (without r xs)) (eq-eqb r x e)
      ∙ without-absent r xs (λ there. NotIn-contains x xs a.0 (subst (λ (y : ℕ). Contains xs y) e there)))))
  | inr ne ↦ elim (Contains-cons_cases x xs r c) [
    | inl same ↦ absurd (ne (sym same))
    | inr there ↦ ap suc (length-without r xs a.1 there) ∙ ap suc (sym (ap length (ap (λ (b : Bool). cond (not b) (x ∷ without r xs) (without r xs)) (ne_eqb r x ne))))
  ]
]

first_none : {r : ℕ} → ◌≡◌ {A = Option ℕ} None (Some r) → ⊥
first_none e = cc

-- a list whose first is r
pub first_split : (xs : List ℕ) (r : ℕ) → slice_get xs 0 ≡ Some r → xs ≡ r ∷ drop 1 xs
first_split [] r e = absurd (first_none e)
first_split (x ∷ xs) r e = let same : x ≡ r = cc in ap (λ y. y ∷ xs) same

pub first_contains : (xs : List ℕ) (r : ℕ) → slice_get xs 0 ≡ Some r → Contains xs r
first_contains xs r e = subst (λ (ys : List ℕ). Contains ys r) (sym (first_split xs r e)) (Contains-head r (drop 1 xs))

-- two tests in turn
both_at : (a b : Bool) (p : ℕ → Bool) (x : ℕ) (ys zs : List ℕ) → p x ≡ a → zs ≡ filter (λ y. not (p y)) ys → cond (not (a || b)) (x ∷ zs) zs ≡ filter (λ y. not (p y)) (cond (not b) (x ∷ ys) ys)
both_at true true p x ys zs e same = same
both_at true false p x ys zs e same = same ∙ sym (ap (λ (c : Bool). cond (not c) (x ∷ filter (λ y. not (p y)) ys) (filter (λ y. not (p y)) ys)) e)
both_at false true p x ys zs e same = same
both_at false false p x ys zs e same = ap (λ ws. x ∷ ws) same ∙ sym (ap (λ (c : Bool). cond (not c) (x ∷ filter (λ y. not (p y)) ys) (filter (λ y. not (p y)) ys)) e)

pub filter-both : (p q : ℕ → Bool) (xs : List ℕ) → filter (λ x. not (p x || q x)) xs ≡ filter (λ x. not (p x)) (filter (λ x. not (q x)) xs)
filter-both p q [] = refl
filter-both p q (x ∷ xs) = both_at (p x) (q x) p x (filter (λ x. not (q x)) xs) (filter (λ x. not (p x || q x)) xs) refl (filter-both p q xs)
