-- Functions changed at one number, and sums over the first numbers.
use Rattle.std.proofs.Common.{◌≡◌, ◌≢◌, ℕ, zero, suc, ◌+◌, ◌<◌, refl, sym, ap, arith, eq-eqb, ne_eqb}
use Rattle.std.specs.Prelude.{if◌then◌else◌}
use mathlib.Core.Logic.{dite}
use native.Mathlib.Decide.{ℕ_discrete}
use Rattle.apf_history.specs.Tally.{tally}
use Rattle.apf_history.specs.Numbered.{put}

pub put_here : {A : Type 0} (f : ℕ → A) (r : ℕ) (a : A) → put f r a r ≡ a
put_here f r a = ap (λ b. if b then a else f r) (eq-eqb r r refl)

pub put_else : {A : Type 0} (f : ℕ → A) (r : ℕ) (a : A) (j : ℕ) → j ≢ r → put f r a j ≡ f j
put_else f r a j other = ap (λ b. if b then a else f j) (ne_eqb j r other)

pub tally_same : (f g : ℕ → ℕ) (n : ℕ) → ((j : ℕ) → j < n → g j ≡ f j) → tally g n ≡ tally f n
tally_same f g zero same = refl
tally_same f g (suc n) same = let before : tally g n ≡ tally f n = tally_same f g n (λ j l. same j (omega arith)) in let here : g n ≡ f n = same n (omega arith) in omega arith

-- two sums that differ at r alone
pub tally_at : (f g : ℕ → ℕ) (n r : ℕ) → r < n → ((j : ℕ) → j ≢ r → g j ≡ f j) → tally g n + f r ≡ tally f n + g r
tally_at f g zero r l same = absurd (omega arith)
tally_at f g (suc n) r l same = dite (ℕ_discrete r n)
    (λ e. let before : tally g n ≡ tally f n = tally_same f g n (λ j k. same j (λ x. omega arith)) in let gn : g r ≡ g n = ap g e in let fn : f r ≡ f n = ap f e in omega arith)
    (λ ne. let inner : tally g n + f r ≡ tally f n + g r = tally_at f g n r (omega arith) same in let here : g n ≡ f n = same n (λ x. ne (sym x)) in omega arith)

pub tally_nothing : (f : ℕ → ℕ) (n : ℕ) → ((j : ℕ) → j < n → f j ≡ 0) → tally f n ≡ 0
tally_nothing f zero none = refl
tally_nothing f (suc n) none = let a : tally f n ≡ 0 = tally_nothing f n (λ j l. none j (omega arith)) in let b : f n ≡ 0 = none n (omega arith) in omega arith
