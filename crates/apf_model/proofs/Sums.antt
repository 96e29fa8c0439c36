-- Sums over the requests, and what one step changes of them.
use Rattle.std.proofs.Common.{◌≡◌, ◌≢◌, ℕ, zero, suc, ◌+◌, ◌<◌, ◌≤◌, List, length, sym, refl, ap, subst, arith, eq-eqb, ne_eqb}
use Rattle.std.specs.Prelude.{if◌then◌else◌}
use mathlib.Core.Logic.{dite}
use native.Mathlib.Decide.{ℕ_discrete}
use Rattle.apf_model.specs.declared.moves.Stage.{Stage}
use Rattle.apf_model.specs.declared.moves.Stage.TheVariants.{Away, Waits, Stands, Gone}
use Rattle.apf_history.specs.Tally.{tally}
use Rattle.apf_model.specs.World.{World, put, seats_at, waits_at, width, seats, waiters}

pub put_here : {A : Type 0} (f : ℕ → A) (r : ℕ) (a : A) → put f r a r ≡ a
put_here f r a = ap (λ b. if b then a else f r) (eq-eqb r r refl)

pub put_else : {A : Type 0} (f : ℕ → A) (r : ℕ) (a : A) (j : ℕ) → j ≢ r → put f r a j ≡ f j
put_else f r a j other = ap (λ b. if b then a else f j) (ne_eqb j r other)

pub tally_same : (f g : ℕ → ℕ) (n : ℕ) → ((j : ℕ) → j < n → g j ≡ f j) → tally g n ≡ tally f n
tally_same f g zero same = refl
tally_same f g (suc n) same = let before : tally g n ≡ tally f n = tally_same f g n (λ j l. same j (omega arith)) in let here : g n ≡ f n = same n (omega arith) in omega arith

-- two sums that differ at r alone
pub tally_at : (f g : ℕ → ℕ) (n r : ℕ) → r < n → ((j : ℕ) → j ≢ r → g j ≡ f j) → tally g n + f r ≡ tally f n + g r
tally_at f g zero r l same = absurd (omega arith)
tally_at f g (suc n) r l same = dite (ℕ_discrete r n)
    (λ e. let before : tally g n ≡ tally f n = tally_same f g n (λ j k. same j (λ x. omega arith)) in let gn : g r ≡ g n = ap g e in let fn : f r ≡ f n = ap f e in omega arith)
    (λ ne. let inner : tally g n + f r ≡ tally f n + g r = tally_at f g n r (omega arith) same in let here : g n ≡ f n = same n (λ x. ne (sym x)) in omega arith)

-- each part is at most the sum
pub tally_member : (f : ℕ → ℕ) (n j : ℕ) → j < n → f j ≤ tally f n
tally_member f zero j l = absurd (omega arith)
tally_member f (suc n) j l = dite (ℕ_discrete j n) (λ e. let h : f j ≡ f n = ap f e in omega arith) (λ ne. let h : f j ≤ tally f n = tally_member f n j (omega arith) in omega arith)

-- a sum of parts of at most 1
pub tally_bound : (f : ℕ → ℕ) (n : ℕ) → ((j : ℕ) → f j ≤ 1) → tally f n ≤ n
tally_bound f zero small = omega arith
tally_bound f (suc n) small = let a : tally f n ≤ n = tally_bound f n small in let b : f n ≤ 1 = small n in omega arith

pub waits_at-le-one : (s : Stage) → waits_at s ≤ 1
waits_at-le-one Away = omega arith
waits_at-le-one Waits = omega arith
waits_at-le-one Stands = omega arith
waits_at-le-one Gone = omega arith

pub tally_nothing : (f : ℕ → ℕ) (n : ℕ) → ((j : ℕ) → j < n → f j ≡ 0) → tally f n ≡ 0
tally_nothing f zero none = refl
tally_nothing f (suc n) none = let a : tally f n ≡ 0 = tally_nothing f n (λ j l. none j (omega arith)) in let b : f n ≡ 0 = none n (omega arith) in omega arith

-- a sum with one part that is not 0
pub tally_one : (f : ℕ → ℕ) (n r : ℕ) → r < n → ((j : ℕ) → j < n → j ≢ r → f j ≡ 0) → tally f n ≡ f r
tally_one f zero r l none = absurd (omega arith)
tally_one f (suc n) r l none = dite (ℕ_discrete r n)
    (λ e. let a : tally f n ≡ 0 = tally_nothing f n (λ j k. none j (omega arith) (λ x. omega arith)) in let b : f r ≡ f n = ap f e in omega arith)
    (λ ne. let a : tally f n ≡ f r = tally_one f n r (omega arith) (λ j k. none j (omega arith)) in let b : f n ≡ 0 = none n (omega arith) (λ x. ne (sym x)) in omega arith)

module _ (widths : List ℕ) (w : World) (r : ℕ) (to : Stage) (inside : r < length widths) where
  -- the seats and the waiters after a change of one request's stage
  seats_moved : tally (λ j. seats_at (put w.stage r to j) (width widths j)) (length widths) + seats_at (w.stage r) (width widths r) ≡ seats widths w + seats_at to (width widths r)
  seats_moved = subst (λ (k : ℕ). tally (λ j. seats_at (put w.stage r to j) (width widths j)) (length widths) + seats_at (w.stage r) (width widths r) ≡ seats widths w + k) (ap (λ (s : Stage). seats_at s (width widths r)) (put_here w.stage r to))
      (tally_at (λ j. seats_at (w.stage j) (width widths j)) (λ j. seats_at (put w.stage r to j) (width widths j)) (length widths) r inside
      (λ j other. ap (λ (s : Stage). seats_at s (width widths j)) (put_else w.stage r to j other)))

  waiters_moved : tally (λ j. waits_at (put w.stage r to j)) (length widths) + waits_at (w.stage r) ≡ waiters widths w + waits_at to
  waiters_moved = subst (λ (k : ℕ). tally (λ j. waits_at (put w.stage r to j)) (length widths) + waits_at (w.stage r) ≡ waiters widths w + k) (ap waits_at (put_here w.stage r to))
      (tally_at (λ j. waits_at (w.stage j)) (λ j. waits_at (put w.stage r to j)) (length widths) r inside
      (λ j other. ap waits_at (put_else w.stage r to j other)))

-- the seats and the waiters after a request went from one stage to another
pub moved : (widths : List ℕ) (w : World) (r : ℕ) (from to : Stage) → r < length widths → w.stage r ≡ from
    → (tally (λ j. seats_at (put w.stage r to j) (width widths j)) (length widths) + seats_at from (width widths r) ≡ seats widths w + seats_at to (width widths r))
    × (tally (λ j. waits_at (put w.stage r to j)) (length widths) + waits_at from ≡ waiters widths w + waits_at to)
moved widths w r from to inside is = (
  subst (λ (s : Stage). tally (λ j. seats_at (put w.stage r to j) (width widths j)) (length widths) + seats_at s (width widths r) ≡ seats widths w + seats_at to (width widths r)) is (seats_moved widths w r to inside),
  subst (λ (s : Stage). tally (λ j. waits_at (put w.stage r to j)) (length widths) + waits_at s ≡ waiters widths w + waits_at to) is (waiters_moved widths w r to inside),
)

pub waiters-le-length : (widths : List ℕ) (w : World) → waiters widths w ≤ length widths
waiters-le-length widths w = tally_bound (λ r. waits_at (w.stage r)) (length widths) (λ j. waits_at-le-one (w.stage j))

no_waiter : (s : Stage) → ¬ (s ≡ Waits) → waits_at s ≡ 0
no_waiter Away not = refl
no_waiter Waits not = absurd (not refl)
no_waiter Stands not = refl
no_waiter Gone not = refl

no_seats : (s : Stage) (k : ℕ) → ¬ (s ≡ Stands) → seats_at s k ≡ 0
no_seats Away k not = refl
no_seats Waits k not = refl
no_seats Stands k not = absurd (not refl)
no_seats Gone k not = refl

pub nobody_waits : (widths : List ℕ) (w : World) → ((r : ℕ) → r < length widths → ¬ (w.stage r ≡ Waits)) → waiters widths w ≡ 0
nobody_waits widths w none = tally_nothing (λ r. waits_at (w.stage r)) (length widths) (λ j l. no_waiter (w.stage j) (none j l))

pub nobody_stands : (widths : List ℕ) (w : World) → ((r : ℕ) → r < length widths → ¬ (w.stage r ≡ Stands)) → seats widths w ≡ 0
nobody_stands widths w none = tally_nothing (λ r. seats_at (w.stage r) (width widths r)) (length widths) (λ j l. no_seats (w.stage j) (width widths j) (none j l))
