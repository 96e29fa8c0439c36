-- Functions changed at one number, and sums over the first numbers.
use Rattle.std.proofs.Common.{◌≡◌, ◌≢◌, ℕ, zero, suc, ◌<◌, ◌≤◌, refl, ap, arith, eq-eqb, ne_eqb}
use Rattle.std.specs.Prelude.{if◌then◌else◌}
use mathlib.Core.Logic.{dite}
use native.Mathlib.Decide.{ℕ_discrete}
use Rattle.apf_history.specs.Tally.{tally}
use Rattle.apf_history.specs.Numbered.{put}

pub put_here : {A : Type 0} (f : ℕ → A) (r : ℕ) (a : A) → put f r a r ≡ a
put_here f r a = ap (λ b. if b then a else f r) (eq-eqb r r refl)

pub put_else : {A : Type 0} (f : ℕ → A) (r : ℕ) (a : A) (j : ℕ) → j ≢ r → put f r a j ≡ f j
put_else f r a j other = ap (λ b. if b then a else f j) (ne_eqb j r other)

-- a sum of fewer parts is smaller
pub tally_fewer : (f : ℕ → ℕ) (i n : ℕ) → i ≤ n → tally f i ≤ tally f n
tally_fewer f i zero l = let e : i ≡ 0 = omega arith in let h : tally f i ≡ tally f 0 = ap (tally f) e in omega arith
tally_fewer f i (suc n) l = dite (ℕ_discrete i (suc n)) (λ e. let h : tally f i ≡ tally f (suc n) = ap (tally f) e in omega arith) (λ ne. let h : tally f i ≤ tally f n = tally_fewer f i n (omega arith) in omega arith)

-- a sum of parts of at most 1
pub tally_bound : (f : ℕ → ℕ) (n : ℕ) → ((j : ℕ) → f j ≤ 1) → tally f n ≤ n
tally_bound f zero small = omega arith
tally_bound f (suc n) small = let a : tally f n ≤ n = tally_bound f n small in let b : f n ≤ 1 = small n in omega arith

pub tally_nothing : (f : ℕ → ℕ) (n : ℕ) → ((j : ℕ) → j < n → f j ≡ 0) → tally f n ≡ 0
tally_nothing f zero none = refl
tally_nothing f (suc n) none = let a : tally f n ≡ 0 = tally_nothing f n (λ j l. none j (omega arith)) in let b : f n ≡ 0 = none n (omega arith) in omega arith
