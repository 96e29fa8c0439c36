-- What is granted in a stretch, out of this many queues.
use Rattle.std.proofs.Common.{◌≡◌, ◌≢◌, ℕ, zero, suc, ◌+◌, ◌-◌, ◌*◌, ◌<◌, ◌≤◌, inl, inr, Bool, cond, List, [], ◌∷◌, ◌++◌, length, take, drop, reverse, refl, sym, ap, ◌∙◌, subst, arith}
use Rattle.std.specs.Prelude.{All, MatchOption, IfSome, Option, Some, None}
use Rattle.std.proofs.lemmas.Bool.{cases_eq, cases_lt, eq-eqb, ne_eqb}
use Rattle.std.proofs.lemmas.List.Elements.{All-weaker}
use Rattle.apf_words.specs.Limits.{max_queues}
use Rattle.apf_history.specs.declared.events.Event.{Event}
use Rattle.apf_history.specs.declared.events.Event.TheVariants.{Enter, Full, Dispatch, Strike}
use Rattle.apf_history.specs.Numbered.{width}
use Rattle.apf_history.specs.Tally.{tally}
use Rattle.apf_model.specs.History.{queue_of}
use Rattle.apf_model.specs.Fair.{IsFair, DispatchesChoices, service, widest}
use Rattle.apf_model.specs.Waits.{granted}
use Rattle.apf_book.specs.Stretch.{history_at, service_in, seats_before, granted_in, IsBounded, AreWaitsBounded}
use Rattle.apf_book.specs.Histories.{Waits}
use Rattle.apf_book.specs.Overtaken.{NeverEnters, IsWaitOf}
use Rattle.apf_book.specs.declared.overtaking.Wait.{Wait}
use Rattle.apf_book.proofs.Stretches.{stretch, whole, service_is, stretch_none, waits_bounded}

tally_same : (f g : ℕ → ℕ) (n : ℕ) → ((j : ℕ) → j < n → g j ≡ f j) → tally g n ≡ tally f n
tally_same f g zero same = refl
tally_same f g (suc n) same = let before = tally_same f g n (λ j l. same j (omega arith)) in let here = same n (omega arith) in omega arith

-- so much more at one number
tally_more : (f g : ℕ → ℕ) (n r more : ℕ) → r < n → g r ≡ f r + more → ((j : ℕ) → j ≢ r → g j ≡ f j) → tally g n ≡ tally f n + more
tally_more f g zero r more l here same = absurd (omega arith)
tally_more f g (suc n) r more l here same = elim (cases_eq r n) [
  | inl e ↦
      (let before = tally_same f g n (λ j k. same j (λ x. omega arith)) in
      let gn = ap g e in let fn = ap f e in omega arith)
  | inr ne ↦
      (let before = tally_more f g n r more (omega arith) here same in
      let last = same n (λ x. ne (sym x)) in omega arith)
]

tally_nothing : (f : ℕ → ℕ) (n : ℕ) → ((j : ℕ) → f j ≡ 0) → tally f n ≡ 0
tally_nothing f zero none = refl
tally_nothing f (suc n) none = let a = tally_nothing f n none in let b = none n in omega arith

tally_up : (f : ℕ → ℕ) (n k : ℕ) → tally f n ≤ tally f (n + k)
tally_up f n zero = let same : n + 0 ≡ n = omega arith in let is = ap (tally f) same in omega arith
tally_up f n (suc k) = let before = tally_up f n k in let same : n + suc k ≡ suc (n + k) = omega arith in let is = ap (tally f) same in omega arith

-- where there is nothing from m on, no more than the first m have
tally_within : (f : ℕ → ℕ) (n m : ℕ) → ((k : ℕ) → m ≤ k → f k ≡ 0) → tally f n ≤ tally f m
tally_within f zero m none = omega arith
tally_within f (suc n) m none = elim (cases_lt n m) [
  | inl low ↦ (let more : m ≡ suc n + (m - suc n) = omega arith in let up = tally_up f (suc n) (m - suc n) in let is = ap (tally f) more in omega arith)
  | inr high ↦ (let before = tally_within f n m none in let here = none n high in omega arith)
]

-- a Dispatch gives its width, out of queues among which its own is
pub granted_dispatch : (widths : List ℕ) (stretch : List Event) (r p queues : ℕ) → p < queues → granted queues widths (Dispatch r p ∷ stretch) ≡ granted queues widths stretch + width widths r
granted_dispatch widths stretch r p queues l =
    tally_more (service widths stretch) (service widths (Dispatch r p ∷ stretch)) queues p (width widths r) l
    (ap (λ (b : Bool). cond b (service widths stretch p + width widths r) (service widths stretch p)) (eq-eqb p p refl))
    (λ j ne. ap (λ (b : Bool). cond b (service widths stretch j + width widths r) (service widths stretch j)) (ne_eqb p j (λ e. ne (sym e))))

-- nothing is given in no stretch
pub service_none : (widths : List ℕ) (log : List Event) (from q : ℕ) → from ≤ length log → service_in widths log from from q ≡ 0
service_none widths log from q l = ap (λ (xs : List Event). service widths (reverse xs) q) (stretch_none log from from (omega arith) l)

pub granted_none : (widths : List ℕ) (log : List Event) (from queues : ℕ) → from ≤ length log → granted_in queues widths log from from ≡ 0
granted_none widths log from queues l = tally_nothing (service_in widths log from from) queues (λ q. service_none widths log from q l)

service_append : (widths : List ℕ) (q : ℕ) (later earlier : List Event) → service widths (later ++ earlier) q ≡ service widths later q + service widths earlier q
service_append widths q [] earlier = omega arith
service_append widths q (Enter r p ∷ later) earlier = service_append widths q later earlier
service_append widths q (Full r p ∷ later) earlier = service_append widths q later earlier
service_append widths q (Strike r p ∷ later) earlier = service_append widths q later earlier
service_append widths q (Dispatch r p ∷ later) earlier =
    let before = service_append widths q later earlier in
    elim (cases_eq p q) [
      | inl s ↦
          (let a = ap (λ (b : Bool). cond b (service widths (later ++ earlier) q + width widths r) (service widths (later ++ earlier) q)) (eq-eqb p q s) in
          let b = ap (λ (b : Bool). cond b (service widths later q + width widths r) (service widths later q)) (eq-eqb p q s) in omega arith)
      | inr ne ↦
          (let a = ap (λ (b : Bool). cond b (service widths (later ++ earlier) q + width widths r) (service widths (later ++ earlier) q)) (ne_eqb p q ne) in
          let b = ap (λ (b : Bool). cond b (service widths later q + width widths r) (service widths later q)) (ne_eqb p q ne) in omega arith)
    ]

-- a fair history serves no other queues than those of the choice
unserved : (queues : ℕ) (widths : List ℕ) (q : ℕ) → queues ≤ q → (h : List Event) → DispatchesChoices queues widths h → service widths h q ≡ 0
unserved queues widths q l [] d = refl
unserved queues widths q l (Enter r p ∷ h) d = unserved queues widths q l h d
unserved queues widths q l (Full r p ∷ h) d = unserved queues widths q l h d
unserved queues widths q l (Strike r p ∷ h) d = unserved queues widths q l h d
unserved queues widths q l (Dispatch r p ∷ h) d =
    let low : p < queues = d.0.is_queue in
    ap (λ (b : Bool). cond b (service widths h q + width widths r) (service widths h q)) (ne_eqb p q (λ e. omega arith)) ∙ unserved queues widths q l h d.1

module _ (laws : Waits) (widths : List ℕ) (log : List Event) (r : ℕ) (few : All (λ e. queue_of e < max_queues) log) (w : Wait) (is : IsWaitOf widths log r w)
    (queues : ℕ) (hands : ℕ → List ℕ) (limit : ℕ) (fair : IsFair queues widths hands limit (reverse log)) (lq : w.queue < queues) where
  in_order : is.from + 1 ≤ is.to
  in_order = omega (arith, is.waits.0)

  nothing : (q : ℕ) → queues ≤ q → service_in widths log (is.from + 1) is.to q ≡ 0
  nothing q l =
      let since : List Event = stretch log (is.from + 1) is.to in_order is.waits.1 in
      let later : List Event = reverse (take (length log - is.to) (drop is.to log)) in
      let all = ap (λ (h : List Event). service widths h q) (whole log (is.from + 1) is.to in_order is.waits.1) in
      let none = unserved queues widths q l (reverse log) fair.1 in
      let a = service_append widths q later (since ++ history_at log (is.from + 1)) in
      let b = service_append widths q since (history_at log (is.from + 1)) in
      let here = service_is log (is.from + 1) is.to in_order is.waits.1 widths q in omega arith

  bounded : IsBounded queues widths log (is.from + 1) is.to w.queue (seats_before widths log is.from w.queue)
  unfolding AreWaitsBounded
  bounded = waits_bounded log widths queues hands limit fair laws is.from is.to r w.queue is.waits lq

  most_bounded : w.most ≤ w.ahead + 2 * widest widths
  most_bounded = let other = is.one_other.0 in let given = is.one_other.2 in let ahead = is.ahead in
      elim (cases_lt other queues) [
        | inl low ↦ (let bound = bounded.others other low in omega arith)
        | inr high ↦ (let none = nothing other high in omega arith)
      ]

  all_bounded : w.all ≤ w.ahead + (queues - 1) * (w.ahead + 2 * widest widths)
  all_bounded =
      let counted = is.all (max_queues + queues) (All-weaker (λ e. queue_of e < max_queues) (λ e. queue_of e < max_queues + queues) (λ e l. omega arith) log few) in
      let within = tally_within (service_in widths log (is.from + 1) is.to) (max_queues + queues) queues nothing in
      let bound = bounded.all in
      subst (λ (a : ℕ). w.all ≤ a + (queues - 1) * (a + 2 * widest widths)) (sym is.ahead) (omega arith)

module _ (laws : Waits) (widths : List ℕ) (log : List Event) (r : ℕ) (few : All (λ e. queue_of e < max_queues) log) where
  pub answers_most : (result : Option Wait) → MatchOption result (NeverEnters log r) (IsWaitOf widths log r)
      → IfSome result (λ w. (queues : ℕ) (hands : ℕ → List ℕ) (limit : ℕ) → IsFair queues widths hands limit (reverse log) → w.queue < queues → w.most ≤ w.ahead + 2 * widest widths)
  answers_most None is = tt
  answers_most (Some w) is = most_bounded laws widths log r few w is

  pub answers_all : (result : Option Wait) → MatchOption result (NeverEnters log r) (IsWaitOf widths log r)
      → IfSome result (λ w. (queues : ℕ) (hands : ℕ → List ℕ) (limit : ℕ) → IsFair queues widths hands limit (reverse log) → w.queue < queues → w.all ≤ w.ahead + (queues - 1) * (w.ahead + 2 * widest widths))
  answers_all None is = tt
  answers_all (Some w) is = all_bounded laws widths log r few w is
