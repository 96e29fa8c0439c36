-- What a schedule's decisions say of the steps.
use Rattle.std.proofs.Common.{◌≡◌, ◌≢◌, ◌⊎◌, ℕ, ◌≤◌, Bool, true, false, List, [], ◌∷◌, ◌++◌, Option, Some, None, sym, refl, ap, ◌∙◌, subst, inl, inr, ⊎_elim, arith, eq-eqb, ne_eqb}
use Rattle.std.specs.Prelude.{count_by}
use mathlib.Core.Logic.{dite}
use native.Mathlib.Decide.{ℕ_discrete}
use Rattle.apf_words.specs.declared.decision.Decision.{Decision}
use Rattle.apf_words.specs.declared.decision.Decision.TheVariants.{Execute, QueueFull, Closed, Cancelled, ConcurrencyLimit}
use Rattle.apf_model.specs.declared.response.Response.{Response}
use Rattle.apf_model.specs.declared.response.Response.TheVariants.{Queue, Reject}
use Rattle.apf_model.specs.declared.moves.Stage.{Stage}
use Rattle.apf_model.specs.declared.moves.Stage.TheVariants.{Away, Waits, Stands, Gone}
use Rattle.apf_model.specs.declared.moves.Move.{Move}
use Rattle.apf_model.specs.declared.moves.Move.TheVariants.{Take, Enter, Grant, Leave, Decide, Release, Close, SetLimit, See}
use Rattle.apf_model.specs.World.{Opening, World, put, IsStanding, IsWaiting, MayBe}
use Rattle.apf_model.specs.Schedule.{world, IsSchedule, arrives, is_decided}
use Rattle.apf_model.proofs.Sums.{put_here, put_else}
use Rattle.apf_model.proofs.Places.{count_yes, count_no}

some_not : {A : Type 0} {a : A} → Some a ≡ None → ⊥
some_not e = cc

-- a request is undecided and no step decided it, or it is decided and one step did
abbrev pub IsOnce : ℕ → Option Decision → List Move → Type 0
IsOnce r v ms = ((v ≡ None) × (count_by (is_decided r) ms ≡ 0)) ⊎ ((v ≢ None) × (count_by (is_decided r) ms ≡ 1))

quiet : (r : ℕ) (m : Move) (ms : List Move) (v : Option Decision) → is_decided r m ≡ false → IsOnce r v ms → IsOnce r v (m ∷ ms)
quiet r m ms v isnt h = let n = count_no (is_decided r) m ms isnt in
    ⊎_elim (λ (a : (v ≡ None) × (count_by (is_decided r) ms ≡ 0)). inl (a.0, n ∙ a.1)) (λ (a : (v ≢ None) × (count_by (is_decided r) ms ≡ 1)). inr (a.0, n ∙ a.1)) h

pub decided_once : (o : Opening) (ms : List Move) (r : ℕ) → IsSchedule o ms → IsOnce r ((world o ms).decision r) ms
decided_once o [] r s = inl (refl, refl)
decided_once o (Take j ∷ ms) r s = quiet r (Take j) ms ((world o ms).decision r) refl (decided_once o ms r s.1)
decided_once o (Enter j ∷ ms) r s = quiet r (Enter j) ms ((world o ms).decision r) refl (decided_once o ms r s.1)
decided_once o (Grant j ∷ ms) r s = quiet r (Grant j) ms ((world o ms).decision r) refl (decided_once o ms r s.1)
decided_once o (Leave j ∷ ms) r s = quiet r (Leave j) ms ((world o ms).decision r) refl (decided_once o ms r s.1)
decided_once o (Decide j d ∷ ms) r s = dite (ℕ_discrete j r)
    (λ same. let now : put (world o ms).decision j (Some d) r ≡ Some d = ap (put (world o ms).decision j (Some d)) (sym same) ∙ put_here (world o ms).decision j (Some d) in
    let before : (world o ms).decision r ≡ None = ap (world o ms).decision (sym same) ∙ s.0.is_undecided in
    let yes = count_yes (is_decided r) (Decide j d) ms (eq-eqb j r same) in
    ⊎_elim (λ (a : ((world o ms).decision r ≡ None) × (count_by (is_decided r) ms ≡ 0)). inr ((λ n. some_not (sym now ∙ n)), (let z = a.1 in omega arith)))
    (λ (a : ((world o ms).decision r ≢ None) × (count_by (is_decided r) ms ≡ 1)). absurd (a.0 before)) (decided_once o ms r s.1))
    (λ other. subst (λ (v : Option Decision). IsOnce r v (Decide j d ∷ ms)) (sym (put_else (world o ms).decision j (Some d) r (λ e. other (sym e)))) (quiet r (Decide j d) ms ((world o ms).decision r) (ne_eqb j r other) (decided_once o ms r s.1)))
decided_once o (Release j ∷ ms) r s = quiet r (Release j) ms ((world o ms).decision r) refl (decided_once o ms r s.1)
decided_once o (Close ∷ ms) r s = quiet r Close ms ((world o ms).decision r) refl (decided_once o ms r s.1)
decided_once o (SetLimit n ∷ ms) r s = quiet r (SetLimit n) ms ((world o ms).decision r) refl (decided_once o ms r s.1)
decided_once o (See j ∷ ms) r s = quiet r (See j) ms ((world o ms).decision r) refl (decided_once o ms r s.1)

pub one_decide : (o : Opening) (ms : List Move) (r : ℕ) → IsSchedule o ms → count_by (is_decided r) ms ≤ 1
one_decide o ms r s = ⊎_elim (λ (a : ((world o ms).decision r ≡ None) × (count_by (is_decided r) ms ≡ 0)). let z = a.1 in omega arith)
    (λ (a : ((world o ms).decision r ≢ None) × (count_by (is_decided r) ms ≡ 1)). let z = a.1 in omega arith) (decided_once o ms r s)

-- the step that decided r execute, with the schedule before it
abbrev pub WasStanding : Opening → ℕ → List Move → Type 0
WasStanding o r ms = (later : List Move) × ((earlier : List Move) × (ms ≡ later ++ Decide r Execute ∷ earlier) × IsStanding (world o earlier) r)

further : (o : Opening) (r : ℕ) (m : Move) (ms : List Move) → WasStanding o r ms → WasStanding o r (m ∷ ms)
further o r m ms h = (m ∷ h.0, (h.1.0, ap (λ (xs : List Move). m ∷ xs) h.1.1, h.1.2))

some_same : {A : Type 0} {a b : A} → Some a ≡ Some b → a ≡ b
some_same e = cc

pub executed_stood : (o : Opening) (ms : List Move) (r : ℕ) → IsSchedule o ms → (world o ms).decision r ≡ Some Execute → WasStanding o r ms
executed_stood o [] r s is = absurd (some_not (sym is))
executed_stood o (Take j ∷ ms) r s is = further o r (Take j) ms (executed_stood o ms r s.1 is)
executed_stood o (Enter j ∷ ms) r s is = further o r (Enter j) ms (executed_stood o ms r s.1 is)
executed_stood o (Grant j ∷ ms) r s is = further o r (Grant j) ms (executed_stood o ms r s.1 is)
executed_stood o (Leave j ∷ ms) r s is = further o r (Leave j) ms (executed_stood o ms r s.1 is)
executed_stood o (Decide j d ∷ ms) r s is = dite (ℕ_discrete j r)
    (λ same. let now : put (world o ms).decision j (Some d) r ≡ Some d = ap (put (world o ms).decision j (Some d)) (sym same) ∙ put_here (world o ms).decision j (Some d) in
    let which : d ≡ Execute = some_same (sym now ∙ is) in
    let stood : IsStanding (world o ms) j = subst (λ (x : Decision). MayBe x (world o ms) j) which s.0.may_be in
    ([], (ms, cc, ap (world o ms).stage (sym same) ∙ stood)))
    (λ other. further o r (Decide j d) ms (executed_stood o ms r s.1 (sym (put_else (world o ms).decision j (Some d) r (λ e. other (sym e))) ∙ is)))
executed_stood o (Release j ∷ ms) r s is = further o r (Release j) ms (executed_stood o ms r s.1 is)
executed_stood o (Close ∷ ms) r s is = further o r Close ms (executed_stood o ms r s.1 is)
executed_stood o (SetLimit n ∷ ms) r s is = further o r (SetLimit n) ms (executed_stood o ms r s.1 is)
executed_stood o (See j ∷ ms) r s is = further o r (See j) ms (executed_stood o ms r s.1 is)

-- a closed level stays closed
pub stays_closed : (o : Opening) (later earlier : List Move) → (world o (later ++ Close ∷ earlier)).is_open ≡ false
stays_closed o [] earlier = refl
stays_closed o (Take j ∷ later) earlier = stays_closed o later earlier
stays_closed o (Enter j ∷ later) earlier = stays_closed o later earlier
stays_closed o (Grant j ∷ later) earlier = stays_closed o later earlier
stays_closed o (Leave j ∷ later) earlier = stays_closed o later earlier
stays_closed o (Decide j d ∷ later) earlier = stays_closed o later earlier
stays_closed o (Release j ∷ later) earlier = stays_closed o later earlier
stays_closed o (Close ∷ later) earlier = refl
stays_closed o (SetLimit n ∷ later) earlier = stays_closed o later earlier
stays_closed o (See j ∷ later) earlier = stays_closed o later earlier

both : {A : Type 0} (b : Bool) → b ≡ true → b ≡ false → A
both b t f = let e : true ≡ false = sym t ∙ f in cc

-- no Take and no Enter after a Close
pub no_arrival_after_close : (o : Opening) (later earlier : List Move) (r : ℕ) → IsSchedule o (later ++ Close ∷ earlier) → count_by (arrives r) later ≡ 0
no_arrival_after_close o [] earlier r s = refl
no_arrival_after_close o (Take j ∷ later) earlier r s = both (world o (later ++ Close ∷ earlier)).is_open s.0.is_open (stays_closed o later earlier)
no_arrival_after_close o (Enter j ∷ later) earlier r s = both (world o (later ++ Close ∷ earlier)).is_open s.0.is_open (stays_closed o later earlier)
no_arrival_after_close o (Grant j ∷ later) earlier r s = count_no (arrives r) (Grant j) later refl ∙ no_arrival_after_close o later earlier r s.1
no_arrival_after_close o (Leave j ∷ later) earlier r s = count_no (arrives r) (Leave j) later refl ∙ no_arrival_after_close o later earlier r s.1
no_arrival_after_close o (Decide j d ∷ later) earlier r s = count_no (arrives r) (Decide j d) later refl ∙ no_arrival_after_close o later earlier r s.1
no_arrival_after_close o (Release j ∷ later) earlier r s = count_no (arrives r) (Release j) later refl ∙ no_arrival_after_close o later earlier r s.1
no_arrival_after_close o (Close ∷ later) earlier r s = count_no (arrives r) Close later refl ∙ no_arrival_after_close o later earlier r s.1
no_arrival_after_close o (SetLimit n ∷ later) earlier r s = count_no (arrives r) (SetLimit n) later refl ∙ no_arrival_after_close o later earlier r s.1
no_arrival_after_close o (See j ∷ later) earlier r s = count_no (arrives r) (See j) later refl ∙ no_arrival_after_close o later earlier r s.1

-- what a decision says of the request's stage and of the level
abbrev pub Sound : Option Decision → Stage → Bool → Response → Type 0
Sound None s b p = Unit {0}
Sound (Some Execute) s b p = (s ≢ Away) × (s ≢ Waits)
Sound (Some QueueFull) s b p = s ≢ Waits
Sound (Some Closed) s b p = (b ≡ false) × (s ≢ Waits)
Sound (Some Cancelled) s b p = Unit {0}
Sound (Some ConcurrencyLimit) s b p = (p ≡ Reject) × (s ≢ Waits)

-- the request came, and does not wait
settled : (v : Option Decision) (s t : Stage) (b : Bool) (p : Response) → t ≢ Away → t ≢ Waits → Sound v s b p → Sound v t b p
settled None s t b p away waits h = tt
settled (Some Execute) s t b p away waits h = (away, waits)
settled (Some QueueFull) s t b p away waits h = waits
settled (Some Closed) s t b p away waits h = (h.0, waits)
settled (Some Cancelled) s t b p away waits h = tt
settled (Some ConcurrencyLimit) s t b p away waits h = (h.0, waits)

-- an undecided or cancelled request enters
entering : (v : Option Decision) (s : Stage) (b : Bool) (p : Response) → b ≡ true → p ≡ Queue → s ≡ Away → v ≢ Some QueueFull → Sound v s b p → Sound v Waits b p
entering None s b p up has away full h = tt
entering (Some Execute) s b p up has away full h = absurd (h.0 away)
entering (Some QueueFull) s b p up has away full h = absurd (full refl)
entering (Some Closed) s b p up has away full h = both b up h.0
entering (Some Cancelled) s b p up has away full h = tt
entering (Some ConcurrencyLimit) s b p up has away full h = let e : Queue ≡ Reject = sym has ∙ h.0 in cc

-- a request is decided now
decided_now : (d : Decision) (w : World) (j : ℕ) → MayBe d w j → Sound (Some d) (w.stage j) w.is_open w.response
decided_now Execute w j may = ((λ e. let x : Stands ≡ Away = sym may ∙ e in cc), (λ e. let x : Stands ≡ Waits = sym may ∙ e in cc))
decided_now QueueFull w j may = λ e. let x : Away ≡ Waits = sym may ∙ e in cc
decided_now Closed w j may = (may.1, (λ e. let x : Away ≡ Waits = sym may.0 ∙ e in cc))
decided_now Cancelled w j may = tt
decided_now ConcurrencyLimit w j may = (may.0, (λ e. let x : Away ≡ Waits = sym may.1 ∙ e in cc))

closing : (v : Option Decision) (s : Stage) (b : Bool) (p : Response) → Sound v s b p → Sound v s false p
closing None s b p h = tt
closing (Some Execute) s b p h = h
closing (Some QueueFull) s b p h = h
closing (Some Closed) s b p h = (refl, h.1)
closing (Some Cancelled) s b p h = tt
closing (Some ConcurrencyLimit) s b p h = h

-- where r is sound in a world
abbrev pub IsSoundIn : World → ℕ → Type 0
IsSoundIn w r = Sound (w.decision r) (w.stage r) w.is_open w.response

-- j goes to another stage
goes : (w : World) (r j : ℕ) (to : Stage) → (IsSoundIn w r → j ≡ r → Sound (w.decision r) to w.is_open w.response) → IsSoundIn w r → Sound (w.decision r) (put w.stage j to r) w.is_open w.response
goes w r j to here h = dite (ℕ_discrete j r)
    (λ same. subst (λ (s : Stage). Sound (w.decision r) s w.is_open w.response) (sym (ap (put w.stage j to) (sym same) ∙ put_here w.stage j to)) (here h same))
    (λ other. subst (λ (s : Stage). Sound (w.decision r) s w.is_open w.response) (sym (put_else w.stage j to r (λ e. other (sym e)))) h)

pub sound : (o : Opening) (ms : List Move) (r : ℕ) → IsSchedule o ms → IsSoundIn (world o ms) r
sound o [] r s = tt
sound o (Take j ∷ ms) r s = let w = world o ms in goes w r j Stands (λ h e. settled (w.decision r) (w.stage r) Stands w.is_open w.response (λ x. cc) (λ x. cc) h) (sound o ms r s.1)
sound o (Enter j ∷ ms) r s = let w = world o ms in goes w r j Waits
    (λ h e. entering (w.decision r) (w.stage r) w.is_open w.response s.0.is_open s.0.has_queues (ap w.stage (sym e) ∙ s.0.has_not_come) (λ full. s.0.is_not_full (ap w.decision e ∙ full)) h) (sound o ms r s.1)
sound o (Grant j ∷ ms) r s = let w = world o ms in goes w r j Stands (λ h e. settled (w.decision r) (w.stage r) Stands w.is_open w.response (λ x. cc) (λ x. cc) h) (sound o ms r s.1)
sound o (Leave j ∷ ms) r s = let w = world o ms in goes w r j Gone (λ h e. settled (w.decision r) (w.stage r) Gone w.is_open w.response (λ x. cc) (λ x. cc) h) (sound o ms r s.1)
sound o (Decide j d ∷ ms) r s = let w = world o ms in dite (ℕ_discrete j r)
    (λ same. subst (λ (v : Option Decision). Sound v (w.stage r) w.is_open w.response) (sym (ap (put w.decision j (Some d)) (sym same) ∙ put_here w.decision j (Some d)))
    (subst (λ (t : Stage). Sound (Some d) t w.is_open w.response) (ap w.stage same) (decided_now d w j s.0.may_be)))
    (λ other. subst (λ (v : Option Decision). Sound v (w.stage r) w.is_open w.response) (sym (put_else w.decision j (Some d) r (λ e. other (sym e)))) (sound o ms r s.1))
sound o (Release j ∷ ms) r s = let w = world o ms in goes w r j Gone (λ h e. settled (w.decision r) (w.stage r) Gone w.is_open w.response (λ x. cc) (λ x. cc) h) (sound o ms r s.1)
sound o (Close ∷ ms) r s = let w = world o ms in closing (w.decision r) (w.stage r) w.is_open w.response (sound o ms r s.1)
sound o (SetLimit n ∷ ms) r s = sound o ms r s.1
sound o (See j ∷ ms) r s = sound o ms r s.1

waiting : (v : Option Decision) (s : Stage) (b : Bool) (p : Response) → s ≡ Waits → Sound v s b p → (v ≡ None) ⊎ (v ≡ Some Cancelled)
waiting None s b p is h = inl refl
waiting (Some Execute) s b p is h = absurd (h.1 is)
waiting (Some QueueFull) s b p is h = absurd (h is)
waiting (Some Closed) s b p is h = absurd (h.1 is)
waiting (Some Cancelled) s b p is h = inr refl
waiting (Some ConcurrencyLimit) s b p is h = absurd (h.1 is)

-- a request that waits is undecided or cancelled
pub waiting_undecided_or_cancelled : (o : Opening) (ms : List Move) (r : ℕ) → IsSchedule o ms → IsWaiting (world o ms) r → ((world o ms).decision r ≡ None) ⊎ ((world o ms).decision r ≡ Some Cancelled)
waiting_undecided_or_cancelled o ms r s is = let w = world o ms in waiting (w.decision r) (w.stage r) w.is_open w.response is (sound o ms r s)
