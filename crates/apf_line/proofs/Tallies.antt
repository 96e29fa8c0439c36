-- Sums over requests that execute, and over the first numbers.
use Rattle.std.proofs.Common.{◌≡◌, ◌≢◌, ◌⊎◌, ℕ, zero, suc, ◌+◌, ◌<◌, ◌≤◌, inl, inr, Bool, cond, List, [], ◌∷◌, ◌++◌, refl, sym, ap, ◌∙◌, arith, eq-eqb, ne_eqb}
use mathlib.Core.Logic.{dite}
use native.Mathlib.Decide.{ℕ_discrete}
use Rattle.apf_history.specs.Tally.{tally}
use Rattle.apf_history.specs.Numbered.{put}
use Rattle.apf_history.specs.Charged.{Running, total, one_if_is}

put_here : (f : ℕ → ℕ) (r a : ℕ) → put f r a r ≡ a
put_here f r a = ap (λ (b : Bool). cond b a (f r)) (eq-eqb r r refl)

put_else : (f : ℕ → ℕ) (r a j : ℕ) → j ≢ r → put f r a j ≡ f j
put_else f r a j other = ap (λ (b : Bool). cond b a (f j)) (ne_eqb j r other)

tally_same : (f g : ℕ → ℕ) (n : ℕ) → ((j : ℕ) → j < n → g j ≡ f j) → tally g n ≡ tally f n
tally_same f g zero same = refl
tally_same f g (suc n) same = let before : tally g n ≡ tally f n = tally_same f g n (λ j l. same j (omega arith)) in let here : g n ≡ f n = same n (omega arith) in omega arith

-- two sums that differ at r alone
tally_at : (f g : ℕ → ℕ) (n r : ℕ) → r < n → ((j : ℕ) → j ≢ r → g j ≡ f j) → tally g n + f r ≡ tally f n + g r
tally_at f g zero r l same = absurd (omega arith)
tally_at f g (suc n) r l same = dite (ℕ_discrete r n)
    (λ e. let before : tally g n ≡ tally f n = tally_same f g n (λ j k. same j (λ x. omega arith)) in let gn : g r ≡ g n = ap g e in let fn : f r ≡ f n = ap f e in omega arith)
    (λ ne. let inner : tally g n + f r ≡ tally f n + g r = tally_at f g n r (omega arith) same in let here : g n ≡ f n = same n (λ x. ne (sym x)) in omega arith)

-- the sum without the number at r
without : (f : ℕ → ℕ) (n r : ℕ) → r < n → tally (put f r 0) n + f r ≡ tally f n
without f n r low = let a = tally_at f (put f r 0) n r low (λ j other. put_else f r 0 j other) in let b : put f r 0 r ≡ 0 = put_here f r 0 in omega arith

tally_nothing : (n : ℕ) → tally (λ _. 0) n ≡ 0
tally_nothing zero = refl
tally_nothing (suc n) = let a = tally_nothing n in omega arith

-- a sum in which one number alone counts
pub tally_one : (r a n : ℕ) → tally (put (λ (_ : ℕ). 0) r a) n ≤ a
tally_one r a zero = omega arith
tally_one r a (suc n) = dite (ℕ_discrete n r)
    (λ e.
    let here : put (λ (_ : ℕ). 0) r a n ≡ a = ap (put (λ (_ : ℕ). 0) r a) e ∙ put_here (λ (_ : ℕ). 0) r a in
    let before : tally (put (λ (_ : ℕ). 0) r a) n ≡ tally (λ _. 0) n = tally_same (λ _. 0) (put (λ (_ : ℕ). 0) r a) n (λ j l. put_else (λ (_ : ℕ). 0) r a j (λ x. omega arith)) in
    let none = tally_nothing n in omega arith)
    (λ ne. let here : put (λ (_ : ℕ). 0) r a n ≡ 0 = put_else (λ (_ : ℕ). 0) r a n ne in let before = tally_one r a n in omega arith)

-- how often r is one of these
abbrev pub how_often : ℕ → List Running → ℕ
how_often r xs = total (λ x. one_if_is r x.request) xs

pub total_append : (f : Running → ℕ) (xs ys : List Running) → total f (xs ++ ys) ≡ total f xs + total f ys
total_append f [] ys = omega arith
total_append f (x ∷ xs) ys = let a = total_append f xs ys in omega arith

-- each of these adds nothing, or no more than its request's number of the first n
abbrev pub AreCovered : (Running → ℕ) → (ℕ → ℕ) → ℕ → List Running → Type 0
AreCovered g f n [] = Unit {0}
AreCovered g f n (x ∷ xs) = ((g x ≡ 0) ⊎ ((x.request < n) × (g x ≤ f x.request))) × AreCovered g f n xs

pub covered_append : (g : Running → ℕ) (f : ℕ → ℕ) (n : ℕ) (xs ys : List Running) → AreCovered g f n xs → AreCovered g f n ys → AreCovered g f n (xs ++ ys)
covered_append g f n [] ys a b = b
covered_append g f n (x ∷ xs) ys a b = (a.0, covered_append g f n xs ys a.1 b)

once_is : (r : ℕ) → one_if_is r r ≡ 1
once_is r = ap (λ (b : Bool). cond b 1 0) (eq-eqb r r refl)

is_once : (r j : ℕ) → j ≡ r → one_if_is r j ≡ 1
is_once r j same = ap (λ (b : Bool). cond b 1 0) (eq-eqb j r same)

covered_else : (g : Running → ℕ) (f : ℕ → ℕ) (n r : ℕ) (xs : List Running) → how_often r xs ≤ 0 → AreCovered g f n xs → AreCovered g (put f r 0) n xs
covered_else g f n r [] none c = tt
covered_else g f n r (x ∷ xs) none c =
    let rest = covered_else g f n r xs (omega arith) c.1 in
    elim c.0 [
      | inl nothing ↦ (inl nothing, rest)
      | inr some ↦
          (let other : x.request ≢ r = λ same. (let one : one_if_is r x.request ≡ 1 = is_once r x.request same in omega arith) in
          let is : put f r 0 x.request ≡ f x.request = put_else f r 0 x.request other in
          let less : g x ≤ put f r 0 x.request = (let le = some.1 in omega arith) in
          (inr (some.0, less), rest))
    ]

-- if none stands there twice, they come to no more than the sum of all numbers
pub within : (g : Running → ℕ) (n : ℕ) (xs : List Running) (f : ℕ → ℕ) → ((r : ℕ) → how_often r xs ≤ 1) → AreCovered g f n xs → total g xs ≤ tally f n
within g n [] f once c = omega arith
within g n (x ∷ xs) f once c =
    let fewer : (r : ℕ) → how_often r xs ≤ 1 = λ r. (let a = once r in omega arith) in
    elim c.0 [
      | inl nothing ↦ (let rest = within g n xs f fewer c.1 in omega arith)
      | inr some ↦
          (let none : how_often x.request xs ≤ 0 = (let a = once x.request in let b = once_is x.request in omega arith) in
          let rest = within g n xs (put f x.request 0) fewer (covered_else g f n x.request xs none c.1) in
          let all = without f n x.request some.0 in let le = some.1 in omega arith)
    ]
