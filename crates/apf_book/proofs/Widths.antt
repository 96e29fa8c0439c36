-- The widths of a list of requests together, where one is put in or taken out.
use Rattle.std.proofs.Common.{◌≡◌, ◌≢◌, ℕ, suc, ◌+◌, ◌<◌, ◌⊎◌, inl, inr, Bool, cond, not, eqb, List, [], ◌∷◌, ◌++◌, drop, Some, refl, sym, ap, ◌∙◌, subst, arith}
use Rattle.std.specs.Prelude.{AllPairs, Contains, slice_get, filter}
use Rattle.std.proofs.lemmas.Bool.{cases_eq, eq-eqb, ne_eqb}
use Rattle.std.proofs.lemmas.List.Elements.{Contains-append_cases, Contains-push_cases}
use Rattle.std.proofs.lemmas.Option.{none-some, same_Some}
use Rattle.apf_history.specs.Numbered.{width}
use Rattle.apf_model.specs.Waits.{total_width}

-- the list without r
abbrev pub without : ℕ → List ℕ → List ℕ
without r xs = filter (λ j. not (eqb r j)) xs

contains_head : (x : ℕ) (xs : List ℕ) → Contains (x ∷ xs) x
contains_head x xs = (0, omega arith, refl)

contains_tail : (x : ℕ) (xs : List ℕ) (y : ℕ) → Contains xs y → Contains (x ∷ xs) y
contains_tail x xs y c = (suc c.0, omega arith, c.2)

contains_none : (y : ℕ) → Contains [] y → ⊥
contains_none y c = let l : c.0 < 0 = c.1 in absurd (omega arith)

contains_cases : (x : ℕ) (xs : List ℕ) (y : ℕ) → Contains (x ∷ xs) y → (x ≡ y) ⊎ Contains xs y
contains_cases x xs y c = elim (Contains-append_cases (x ∷ []) xs y c) [
  | inl here ↦ elim (Contains-push_cases [] x y here) [ inl none ↦ absurd (contains_none y none) | inr e ↦ inl e ]
  | inr there ↦ inr there
]

-- the first of a list stands in it
pub first_stands : (xs : List ℕ) (r : ℕ) → slice_get xs 0 ≡ Some r → Contains xs r
first_stands [] r e = absurd (none-some r e)
first_stands (x ∷ xs) r e = subst (λ (y : ℕ). Contains (x ∷ xs) y) (same_Some x r e) (contains_head x xs)

-- who is not the first stands behind it
pub drop_keeps : (xs : List ℕ) (j r : ℕ) → slice_get xs 0 ≡ Some j → j ≢ r → Contains xs r → Contains (drop 1 xs) r
drop_keeps [] j r e ne c = absurd (none-some j e)
drop_keeps (x ∷ xs) j r e ne c = elim (contains_cases x xs r c) [ inl same ↦ absurd (ne (sym (same_Some x j e) ∙ same)) | inr there ↦ there ]

taken : (r x : ℕ) (xs : List ℕ) → r ≡ x → without r (x ∷ xs) ≡ without r xs
taken r x xs e = ap (λ (b : Bool). cond (not b) (x ∷ without r xs) (without r xs)) (eq-eqb r x e)

left : (r x : ℕ) (xs : List ℕ) → r ≢ x → without r (x ∷ xs) ≡ x ∷ without r xs
left r x xs ne = ap (λ (b : Bool). cond (not b) (x ∷ without r xs) (without r xs)) (ne_eqb r x ne)

-- who is another is left
pub without_keeps : (j : ℕ) (xs : List ℕ) (r : ℕ) → j ≢ r → Contains xs r → Contains (without j xs) r
without_keeps j [] r ne c = c
without_keeps j (x ∷ xs) r ne c = elim (cases_eq j x) [
  | inl e ↦ elim (contains_cases x xs r c) [
    | inl same ↦ absurd (ne (e ∙ same))
    | inr there ↦ subst (λ (ys : List ℕ). Contains ys r) (sym (taken j x xs e)) (without_keeps j xs r ne there)
  ]
  | inr other ↦ subst (λ (ys : List ℕ). Contains ys r) (sym (left j x xs other)) (elim (contains_cases x xs r c) [
    | inl same ↦ subst (λ (y : ℕ). Contains (x ∷ without j xs) y) same (contains_head x (without j xs))
    | inr there ↦ contains_tail x (without j xs) r (without_keeps j xs r ne there)
  ])
]

without_absent : (r : ℕ) (xs : List ℕ) → (Contains xs r → ⊥) → without r xs ≡ xs
without_absent r [] h = refl
without_absent r (x ∷ xs) h =
    left r x xs (λ e. h (subst (λ (y : ℕ). Contains (x ∷ xs) y) (sym e) (contains_head x xs)))
    ∙ ap (λ (ys : List ℕ). x ∷ ys) (without_absent r xs (λ c. h (contains_tail x xs r c)))

-- one more at the end
pub total_push : (widths xs : List ℕ) (y : ℕ) → total_width widths (xs ++ y ∷ []) ≡ total_width widths xs + width widths y
total_push widths [] y = omega arith
total_push widths (x ∷ xs) y = let old = total_push widths xs y in omega arith

-- the first one fewer
pub total_drop : (widths xs : List ℕ) (r : ℕ) → slice_get xs 0 ≡ Some r → total_width widths (drop 1 xs) + width widths r ≡ total_width widths xs
total_drop widths [] r e = absurd (none-some r e)
total_drop widths (x ∷ xs) r e = let same = ap (width widths) (same_Some x r e) in omega arith

-- one fewer, of a list without repeats
pub total_without : (widths : List ℕ) (r : ℕ) (xs : List ℕ) → AllPairs (λ j later. j ≢ later) xs → Contains xs r → total_width widths (without r xs) + width widths r ≡ total_width widths xs
total_without widths r [] apart c = absurd (contains_none r c)
total_without widths r (x ∷ xs) apart c = elim (cases_eq r x) [
  | inl e ↦
      (let gone = without_absent r xs (λ there. apart 0 (suc there.0) r (omega arith) (omega (arith, there.1)) (sym e ∙ sym there.2)) in
      let is = ap (total_width widths) (taken r x xs e ∙ gone) in
      let same = ap (width widths) e in omega arith)
  | inr ne ↦ elim (contains_cases x xs r c) [
    | inl same ↦ absurd (ne (sym same))
    | inr there ↦
        (let old = total_without widths r xs (λ i j d l m. apart (suc i) (suc j) d (omega arith) (omega arith)) there in
        let is = ap (total_width widths) (left r x xs ne) in omega arith)
  ]
]
