-- How many steps of each kind a request has had, by its stage.
use Rattle.std.proofs.Common.{◌≡◌, ◌≢◌, ℕ, ◌+◌, ◌≤◌, false, List, [], ◌∷◌, ◌++◌, sym, refl, ap, ◌∙◌, subst, arith, eq-eqb, ne_eqb}
use Rattle.std.specs.Prelude.{count_by}
use mathlib.Core.Logic.{dite}
use native.Mathlib.Decide.{ℕ_discrete}
use Rattle.apf_model.specs.declared.moves.Stage.{Stage}
use Rattle.apf_model.specs.declared.moves.Stage.TheVariants.{Away, Waits, Stands, Gone}
use Rattle.apf_model.specs.declared.moves.Move.{Move}
use Rattle.apf_model.specs.declared.moves.Move.TheVariants.{Take, Enter, Grant, Leave, Decide, Release, Close, SetLimit, See}
use Rattle.apf_model.specs.World.{Opening, put, IsStanding}
use Rattle.apf_model.specs.Schedule.{world, IsSchedule, takes, enters, arrives, is_granted, leaves, releases}
use Rattle.apf_model.proofs.Sums.{put_here, put_else}
use Rattle.apf_model.proofs.Places.{IsSchedule-append, count_by-append, count_yes, count_no}

-- the numbers of Takes, Enters, Grants, Leaves and Releases that a request of this stage has had
abbrev pub AtStage : Stage → ℕ → ℕ → ℕ → ℕ → ℕ → Type 0
AtStage Away t e g l x = (t ≡ 0) × (e ≡ 0) × (g ≡ 0) × (l ≡ 0) × (x ≡ 0)
AtStage Waits t e g l x = (t ≡ 0) × (e ≡ 1) × (g ≡ 0) × (l ≡ 0) × (x ≡ 0)
AtStage Stands t e g l x = (t + e ≡ 1) × (g ≡ e) × (l ≡ 0) × (x ≡ 0)
AtStage Gone t e g l x = (t + e ≡ 1) × (l + x ≡ 1) × (g + l ≡ e)

abbrev pub Counted : Stage → ℕ → List Move → Type 0
Counted s r ms = AtStage s (count_by (takes r) ms) (count_by (enters r) ms) (count_by (is_granted r) ms) (count_by (leaves r) ms) (count_by (releases r) ms)

same_counts : (s : Stage) (t e g l x t' e' g' l' x' : ℕ) → t' ≡ t → e' ≡ e → g' ≡ g → l' ≡ l → x' ≡ x → AtStage s t e g l x → AtStage s t' e' g' l' x'
same_counts Away t e g l x t' e' g' l' x' a b c d f h = (omega arith, omega arith, omega arith, omega arith, omega arith)
same_counts Waits t e g l x t' e' g' l' x' a b c d f h = (omega arith, omega arith, omega arith, omega arith, omega arith)
same_counts Stands t e g l x t' e' g' l' x' a b c d f h = (omega arith, omega arith, omega arith, omega arith)
same_counts Gone t e g l x t' e' g' l' x' a b c d f h = (omega arith, omega arith, omega arith)

-- a step that is none of r's five kinds
quiet : (r : ℕ) (m : Move) (ms : List Move) (s : Stage) → takes r m ≡ false → enters r m ≡ false → is_granted r m ≡ false → leaves r m ≡ false → releases r m ≡ false → Counted s r ms → Counted s r (m ∷ ms)
quiet r m ms s a b c d e h =
    same_counts s (count_by (takes r) ms) (count_by (enters r) ms) (count_by (is_granted r) ms) (count_by (leaves r) ms) (count_by (releases r) ms)
    (count_by (takes r) (m ∷ ms)) (count_by (enters r) (m ∷ ms)) (count_by (is_granted r) (m ∷ ms)) (count_by (leaves r) (m ∷ ms)) (count_by (releases r) (m ∷ ms))
    (count_no (takes r) m ms a) (count_no (enters r) m ms b) (count_no (is_granted r) m ms c) (count_no (leaves r) m ms d) (count_no (releases r) m ms e) h

module _ (r j : ℕ) (ms : List Move) (same : j ≡ r) where
  taken : Counted Away r ms → Counted Stands r (Take j ∷ ms)
  taken h =
      let t = count_yes (takes r) (Take j) ms (eq-eqb j r same) in let e = count_no (enters r) (Take j) ms refl in let g = count_no (is_granted r) (Take j) ms refl in
      let l = count_no (leaves r) (Take j) ms refl in let x = count_no (releases r) (Take j) ms refl in (omega arith, omega arith, omega arith, omega arith)

  entered : Counted Away r ms → Counted Waits r (Enter j ∷ ms)
  entered h =
      let t = count_no (takes r) (Enter j) ms refl in let e = count_yes (enters r) (Enter j) ms (eq-eqb j r same) in let g = count_no (is_granted r) (Enter j) ms refl in
      let l = count_no (leaves r) (Enter j) ms refl in let x = count_no (releases r) (Enter j) ms refl in (omega arith, omega arith, omega arith, omega arith, omega arith)

  granted : Counted Waits r ms → Counted Stands r (Grant j ∷ ms)
  granted h =
      let t = count_no (takes r) (Grant j) ms refl in let e = count_no (enters r) (Grant j) ms refl in let g = count_yes (is_granted r) (Grant j) ms (eq-eqb j r same) in
      let l = count_no (leaves r) (Grant j) ms refl in let x = count_no (releases r) (Grant j) ms refl in (omega arith, omega arith, omega arith, omega arith)

  left : Counted Waits r ms → Counted Gone r (Leave j ∷ ms)
  left h =
      let t = count_no (takes r) (Leave j) ms refl in let e = count_no (enters r) (Leave j) ms refl in let g = count_no (is_granted r) (Leave j) ms refl in
      let l = count_yes (leaves r) (Leave j) ms (eq-eqb j r same) in let x = count_no (releases r) (Leave j) ms refl in (omega arith, omega arith, omega arith)

  released : Counted Stands r ms → Counted Gone r (Release j ∷ ms)
  released h =
      let t = count_no (takes r) (Release j) ms refl in let e = count_no (enters r) (Release j) ms refl in let g = count_no (is_granted r) (Release j) ms refl in
      let l = count_no (leaves r) (Release j) ms refl in let x = count_yes (releases r) (Release j) ms (eq-eqb j r same) in (omega arith, omega arith, omega arith)

-- r goes from one stage to another if it is j, and stays where it is if not
goes : (r j : ℕ) (m : Move) (ms : List Move) (f : ℕ → Stage) (from to : Stage) → f j ≡ from → (j ≡ r → Counted from r ms → Counted to r (m ∷ ms)) → (j ≢ r → Counted (f r) r ms → Counted (f r) r (m ∷ ms)) → Counted (f r) r ms → Counted (put f j to r) r (m ∷ ms)
goes r j m ms f from to is here else h = dite (ℕ_discrete j r)
    (λ same. subst (λ (s : Stage). Counted s r (m ∷ ms)) (sym (ap (put f j to) (sym same) ∙ put_here f j to)) (here same (subst (λ (s : Stage). Counted s r ms) (ap f (sym same) ∙ is) h)))
    (λ other. subst (λ (s : Stage). Counted s r (m ∷ ms)) (sym (put_else f j to r (λ e. other (sym e)))) (else other h))

pub counted : (o : Opening) (ms : List Move) (r : ℕ) → IsSchedule o ms → Counted ((world o ms).stage r) r ms
counted o [] r s = (refl, refl, refl, refl, refl)
counted o (Take j ∷ ms) r s = goes r j (Take j) ms (world o ms).stage Away Stands s.0.has_not_come (taken r j ms) (λ other. quiet r (Take j) ms ((world o ms).stage r) (ne_eqb j r other) refl refl refl refl) (counted o ms r s.1)
counted o (Enter j ∷ ms) r s = goes r j (Enter j) ms (world o ms).stage Away Waits s.0.has_not_come (entered r j ms) (λ other. quiet r (Enter j) ms ((world o ms).stage r) refl (ne_eqb j r other) refl refl refl) (counted o ms r s.1)
counted o (Grant j ∷ ms) r s = goes r j (Grant j) ms (world o ms).stage Waits Stands s.0.is_waiting (granted r j ms) (λ other. quiet r (Grant j) ms ((world o ms).stage r) refl refl (ne_eqb j r other) refl refl) (counted o ms r s.1)
counted o (Leave j ∷ ms) r s = goes r j (Leave j) ms (world o ms).stage Waits Gone s.0.is_waiting (left r j ms) (λ other. quiet r (Leave j) ms ((world o ms).stage r) refl refl refl (ne_eqb j r other) refl) (counted o ms r s.1)
counted o (Decide j d ∷ ms) r s = quiet r (Decide j d) ms ((world o ms).stage r) refl refl refl refl refl (counted o ms r s.1)
counted o (Release j ∷ ms) r s = goes r j (Release j) ms (world o ms).stage Stands Gone s.0.is_standing (released r j ms) (λ other. quiet r (Release j) ms ((world o ms).stage r) refl refl refl refl (ne_eqb j r other)) (counted o ms r s.1)
counted o (Close ∷ ms) r s = quiet r Close ms ((world o ms).stage r) refl refl refl refl refl (counted o ms r s.1)
counted o (SetLimit n ∷ ms) r s = quiet r (SetLimit n) ms ((world o ms).stage r) refl refl refl refl refl (counted o ms r s.1)
counted o (See j ∷ ms) r s = quiet r (See j) ms ((world o ms).stage r) refl refl refl refl refl (counted o ms r s.1)

-- the arrivals are the Takes and the Enters
pub arrivals : (r : ℕ) (ms : List Move) → count_by (arrives r) ms ≡ count_by (takes r) ms + count_by (enters r) ms
arrivals r [] = refl
arrivals r (Take j ∷ ms) = let h = arrivals r ms in let n = count_no (enters r) (Take j) ms refl in dite (ℕ_discrete j r)
    (λ same. let a = count_yes (arrives r) (Take j) ms (eq-eqb j r same) in let t = count_yes (takes r) (Take j) ms (eq-eqb j r same) in omega arith)
    (λ other. let a = count_no (arrives r) (Take j) ms (ne_eqb j r other) in let t = count_no (takes r) (Take j) ms (ne_eqb j r other) in omega arith)
arrivals r (Enter j ∷ ms) = let h = arrivals r ms in let n = count_no (takes r) (Enter j) ms refl in dite (ℕ_discrete j r)
    (λ same. let a = count_yes (arrives r) (Enter j) ms (eq-eqb j r same) in let t = count_yes (enters r) (Enter j) ms (eq-eqb j r same) in omega arith)
    (λ other. let a = count_no (arrives r) (Enter j) ms (ne_eqb j r other) in let t = count_no (enters r) (Enter j) ms (ne_eqb j r other) in omega arith)
arrivals r (Grant j ∷ ms) = let h = arrivals r ms in let a = count_no (arrives r) (Grant j) ms refl in let t = count_no (takes r) (Grant j) ms refl in let e = count_no (enters r) (Grant j) ms refl in omega arith
arrivals r (Leave j ∷ ms) = let h = arrivals r ms in let a = count_no (arrives r) (Leave j) ms refl in let t = count_no (takes r) (Leave j) ms refl in let e = count_no (enters r) (Leave j) ms refl in omega arith
arrivals r (Decide j d ∷ ms) = let h = arrivals r ms in let a = count_no (arrives r) (Decide j d) ms refl in let t = count_no (takes r) (Decide j d) ms refl in let e = count_no (enters r) (Decide j d) ms refl in omega arith
arrivals r (Release j ∷ ms) = let h = arrivals r ms in let a = count_no (arrives r) (Release j) ms refl in let t = count_no (takes r) (Release j) ms refl in let e = count_no (enters r) (Release j) ms refl in omega arith
arrivals r (Close ∷ ms) = let h = arrivals r ms in let a = count_no (arrives r) Close ms refl in let t = count_no (takes r) Close ms refl in let e = count_no (enters r) Close ms refl in omega arith
arrivals r (SetLimit j ∷ ms) = let h = arrivals r ms in let a = count_no (arrives r) (SetLimit j) ms refl in let t = count_no (takes r) (SetLimit j) ms refl in let e = count_no (enters r) (SetLimit j) ms refl in omega arith
arrivals r (See j ∷ ms) = let h = arrivals r ms in let a = count_no (arrives r) (See j) ms refl in let t = count_no (takes r) (See j) ms refl in let e = count_no (enters r) (See j) ms refl in omega arith

-- what the stage says, for any stage
few : (s : Stage) (t e g l x : ℕ) → AtStage s t e g l x → (t + e ≤ 1) × (g ≤ e) × (x ≤ 1) × (1 ≤ l → t + g ≡ 0)
few Away t e g l x h = (omega arith, omega arith, omega arith, λ k. omega arith)
few Waits t e g l x h = (omega arith, omega arith, omega arith, λ k. omega arith)
few Stands t e g l x h = (omega arith, omega arith, omega arith, λ k. omega arith)
few Gone t e g l x h = (omega arith, omega arith, omega arith, λ k. omega arith)

pub few_steps : (o : Opening) (ms : List Move) (r : ℕ) → IsSchedule o ms
    → (count_by (takes r) ms + count_by (enters r) ms ≤ 1) × (count_by (is_granted r) ms ≤ count_by (enters r) ms) × (count_by (releases r) ms ≤ 1)
    × (1 ≤ count_by (leaves r) ms → count_by (takes r) ms + count_by (is_granted r) ms ≡ 0)
few_steps o ms r s = few ((world o ms).stage r) (count_by (takes r) ms) (count_by (enters r) ms) (count_by (is_granted r) ms) (count_by (leaves r) ms) (count_by (releases r) ms) (counted o ms r s)

pub one_arrival : (o : Opening) (ms : List Move) (r : ℕ) → IsSchedule o ms → count_by (arrives r) ms ≤ 1
one_arrival o ms r s = let a = arrivals r ms in let f = (few_steps o ms r s).0 in omega arith

pub one_grant : (o : Opening) (ms : List Move) (r : ℕ) → IsSchedule o ms → count_by (is_granted r) ms ≤ 1
one_grant o ms r s = let f = few_steps o ms r s in omega arith

-- a request that is granted has entered
pub grant_after_enter : (o : Opening) (later earlier : List Move) (r : ℕ) → IsSchedule o (later ++ Grant r ∷ earlier) → count_by (enters r) earlier ≡ 1
grant_after_enter o later earlier r s = let at = IsSchedule-append o later (Grant r ∷ earlier) s in
    let h : Counted Waits r earlier = subst (λ (s : Stage). Counted s r earlier) at.0.is_waiting (counted o earlier r at.1) in h.1

-- of a request that left, there is no place at which it stands
pub left_never_stood : (o : Opening) (later earlier : List Move) (r : ℕ) → IsSchedule o (later ++ earlier) → 1 ≤ count_by (leaves r) (later ++ earlier) → IsStanding (world o earlier) r → ⊥
left_never_stood o later earlier r s left stands =
    let h : Counted Stands r earlier = subst (λ (s : Stage). Counted s r earlier) stands (counted o earlier r (IsSchedule-append o later earlier s)) in
    let all = (few_steps o (later ++ earlier) r s).3 left in
    let t = count_by-append (takes r) later earlier in let g = count_by-append (is_granted r) later earlier in
    absurd (omega arith)
