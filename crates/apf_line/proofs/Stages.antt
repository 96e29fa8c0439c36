-- A request that holds its seats holds them until it gives them back, and then never again.
use Rattle.std.proofs.Common.{◌≡◌, ◌≢◌, ℕ, ◌≤◌, Bool, cond, List, [], ◌∷◌, ◌++◌, refl, sym, ap, ◌∙◌, subst, arith, eq-eqb, ne_eqb}
use mathlib.Core.Logic.{dite}
use native.Mathlib.Decide.{ℕ_discrete}
use Rattle.apf_model.specs.declared.moves.Stage.{Stage}
use Rattle.apf_model.specs.declared.moves.Stage.TheVariants.{Away, Waits, Stands, Gone}
use Rattle.apf_model.specs.declared.moves.Move.{Move}
use Rattle.apf_model.specs.declared.moves.Move.TheVariants.{Take, Enter, Grant, Leave, Decide, Release, Close, SetLimit, See}
use Rattle.apf_model.specs.World.{Opening, put}
use Rattle.apf_model.specs.Schedule.{world, IsSchedule}

stage_here : (f : ℕ → Stage) (r : ℕ) (s : Stage) (j : ℕ) → j ≡ r → put f r s j ≡ s
stage_here f r s j same = ap (λ (b : Bool). cond b s (f j)) (eq-eqb j r same)

stage_else : (f : ℕ → Stage) (r : ℕ) (s : Stage) (j : ℕ) → j ≢ r → put f r s j ≡ f j
stage_else f r s j other = ap (λ (b : Bool). cond b s (f j)) (ne_eqb j r other)

-- it came, and does not wait
abbrev pub HasSeats : Stage → Type 0
HasSeats Away = ⊥
HasSeats Waits = ⊥
HasSeats Stands = Unit {0}
HasSeats Gone = Unit {0}

is_gone : (s : Stage) → HasSeats s → s ≢ Stands → s ≡ Gone
is_gone Away h ne = absurd h
is_gone Waits h ne = absurd h
is_gone Stands h ne = absurd (ne refl)
is_gone Gone h ne = refl

none_away : (s : Stage) → HasSeats s → s ≡ Away → ⊥
none_away s h e = subst HasSeats e h

none_waits : (s : Stage) → HasSeats s → s ≡ Waits → ⊥
none_waits s h e = subst HasSeats e h

gone_stands : Gone ≡ Stands → ⊥
gone_stands e = cc

module _ (o : Opening) (r : ℕ) where
  -- another request goes from a stage on, or this one is at another stage
  on : (j : ℕ) (f : ℕ → Stage) (from to : Stage) → f j ≡ from → (HasSeats from → ⊥) → HasSeats (f r) → put f j to r ≡ f r
  on j f from to is never has = stage_else f j to r (λ same. never (subst HasSeats (ap f same ∙ is) has))

  gone_on : (ms : List Move) (m : Move) → IsSchedule o (m ∷ ms) → (world o ms).stage r ≡ Gone → (world o (m ∷ ms)).stage r ≡ Gone
  gone_on ms (Take j) s g = on j (world o ms).stage Away Stands s.0.has_not_come (λ h. h) (subst HasSeats (sym g) tt) ∙ g
  gone_on ms (Enter j) s g = on j (world o ms).stage Away Waits s.0.has_not_come (λ h. h) (subst HasSeats (sym g) tt) ∙ g
  gone_on ms (Grant j) s g = on j (world o ms).stage Waits Stands s.0.is_waiting (λ h. h) (subst HasSeats (sym g) tt) ∙ g
  gone_on ms (Leave j) s g = on j (world o ms).stage Waits Gone s.0.is_waiting (λ h. h) (subst HasSeats (sym g) tt) ∙ g
  gone_on ms (Release j) s g = stage_else (world o ms).stage j Gone r (λ same. gone_stands (sym g ∙ (ap (world o ms).stage same ∙ s.0.is_standing))) ∙ g
  gone_on ms (Decide j d) s g = g
  gone_on ms Close s g = g
  gone_on ms (SetLimit n) s g = g
  gone_on ms (See j) s g = g

  pub stays_gone : (later earlier : List Move) → IsSchedule o (later ++ earlier) → (world o earlier).stage r ≡ Gone → (world o (later ++ earlier)).stage r ≡ Gone
  stays_gone [] earlier s g = g
  stays_gone (m ∷ later) earlier s g = gone_on (later ++ earlier) m s (stays_gone later earlier s.1 g)

  pub has_on : (ms : List Move) (m : Move) → IsSchedule o (m ∷ ms) → HasSeats ((world o ms).stage r) → HasSeats ((world o (m ∷ ms)).stage r)
  has_on ms (Take j) s h = subst HasSeats (sym (on j (world o ms).stage Away Stands s.0.has_not_come (λ h. h) h)) h
  has_on ms (Enter j) s h = subst HasSeats (sym (on j (world o ms).stage Away Waits s.0.has_not_come (λ h. h) h)) h
  has_on ms (Grant j) s h = subst HasSeats (sym (on j (world o ms).stage Waits Stands s.0.is_waiting (λ h. h) h)) h
  has_on ms (Leave j) s h = subst HasSeats (sym (on j (world o ms).stage Waits Gone s.0.is_waiting (λ h. h) h)) h
  has_on ms (Release j) s h = dite (ℕ_discrete r j)
      (λ same. subst HasSeats (sym (stage_here (world o ms).stage j Gone r same)) tt)
      (λ other. subst HasSeats (sym (stage_else (world o ms).stage j Gone r other)) h)
  has_on ms (Decide j d) s h = h
  has_on ms Close s h = h
  has_on ms (SetLimit n) s h = h
  has_on ms (See j) s h = h

  pub has_still : (later earlier : List Move) → IsSchedule o (later ++ earlier) → HasSeats ((world o earlier).stage r) → HasSeats ((world o (later ++ earlier)).stage r)
  has_still [] earlier s h = h
  has_still (m ∷ later) earlier s h = has_on (later ++ earlier) m s (has_still later earlier s.1 h)

  -- who had seats at one place, and holds them at a later one, holds them between
  stood_by : (s : Stage) (later earlier : List Move) → IsSchedule o (later ++ earlier) → (world o earlier).stage r ≡ s → HasSeats s → (world o (later ++ earlier)).stage r ≡ Stands → s ≡ Stands
  stood_by Away later earlier sch is h then = absurd h
  stood_by Waits later earlier sch is h then = absurd h
  stood_by Stands later earlier sch is h then = refl
  stood_by Gone later earlier sch is h then = absurd (gone_stands (sym (stays_gone later earlier sch is) ∙ then))

  pub stood : (later earlier : List Move) → IsSchedule o (later ++ earlier) → HasSeats ((world o earlier).stage r) → (world o (later ++ earlier)).stage r ≡ Stands → (world o earlier).stage r ≡ Stands
  stood later earlier sch h then = stood_by ((world o earlier).stage r) later earlier sch refl h then

pub stands_has : (s : Stage) → s ≡ Stands → HasSeats s
stands_has s is = subst HasSeats (sym is) tt

-- the largest limit so far never falls
pub largest_grows : (o : Opening) (later earlier : List Move) → (world o earlier).largest ≤ (world o (later ++ earlier)).largest
largest_grows o [] earlier = omega arith
largest_grows o (Take j ∷ later) earlier = largest_grows o later earlier
largest_grows o (Enter j ∷ later) earlier = largest_grows o later earlier
largest_grows o (Grant j ∷ later) earlier = largest_grows o later earlier
largest_grows o (Leave j ∷ later) earlier = largest_grows o later earlier
largest_grows o (Decide j d ∷ later) earlier = largest_grows o later earlier
largest_grows o (Release j ∷ later) earlier = largest_grows o later earlier
largest_grows o (Close ∷ later) earlier = largest_grows o later earlier
largest_grows o (SetLimit n ∷ later) earlier = let a = largest_grows o later earlier in omega arith
largest_grows o (See j ∷ later) earlier = largest_grows o later earlier
