-- No queue is given much more seat-time than one that is never empty, in logs whose charges are set right.
use Rattle.std.proofs.Common.{◌≡◌, ◌≢◌, ℕ, suc, ◌+◌, ◌-◌, ◌*◌, ◌<◌, ◌≤◌, ◌⊎◌, inl, inr, Bool, cond, true, false, eqb, List, [], ◌∷◌, ◌++◌, length, refl, sym, ap, ◌∙◌, subst, arith}
use Rattle.std.specs.Prelude.{◌&&◌, max, slice_index}
use Rattle.std.proofs.lemmas.Bool.{cases_eq, eq-eqb, ne_eqb}
use Rattle.apf_history.specs.declared.events.Event.{Event}
use Rattle.apf_history.specs.declared.events.Event.TheVariants.{Enter, Full, Dispatch, Strike}
use Rattle.apf_history.specs.declared.events.LogEntry.{LogEntry}
use Rattle.apf_history.specs.declared.events.LogEntry.TheVariants.{Happens, Spends, Settles}
use Rattle.apf_history.specs.Numbered.{put, width}
use Rattle.apf_history.specs.History.{waiting, IsLegal}
use Rattle.apf_history.specs.Fair.{Numbers, after_enter, after_dispatch, after_event, numbers, DispatchesChoices, IsChoice, IsFair, widest, DifferAtMost}
use Rattle.apf_history.specs.Charged.{events, charged_numbers, Running, ended, IsAmong, begun, runs, total, charged, taken, given, seat_time, true_next, FollowsChoices, IsSettled, AreMeasures, IsJudged, AreJudged, IsNeverEmptyIn, HasSeats, HaveSeats, SpendsWithin, misjudged, misjudged_from, log_of}
use Rattle.apf_history.proofs.Sums.{put_here, put_else}
use Rattle.apf_history.proofs.Lists.{first_split}
use Rattle.apf_history.proofs.Waiting.{waiting_else}
use Rattle.apf_history.proofs.Balance.{width-le-widest, was_dispatch, was_strike, next_enter_least, next_entered, time_enter, is_empty, still_empty}

-- an entry follows, and what is settled is what was taken
abbrev Follows : ℕ → List ℕ → (ℕ → ℕ) → List LogEntry → Type 0
Follows queues costs measure [] = Unit {0}
Follows queues costs measure (Happens (Dispatch r q) ∷ l) = IsChoice queues costs (waiting (events l)) (charged_numbers queues costs l) q × Follows queues costs measure l
Follows queues costs measure (Happens e ∷ l) = Unit {0} × Follows queues costs measure l
Follows queues costs measure (Spends r q old new ∷ l) = (IsAmong r old (runs costs l q) × Unit {0}) × Follows queues costs measure l
Follows queues costs measure (Settles r q old new ∷ l) = (IsAmong r old (runs costs l q) × (new ≡ measure r)) × Follows queues costs measure l

follow : (queues : ℕ) (costs : List ℕ) (measure : ℕ → ℕ) (l : List LogEntry) → FollowsChoices queues costs l → AreMeasures measure l → Follows queues costs measure l
follow queues costs measure [] d m = tt
follow queues costs measure (Happens (Enter r q) ∷ l) d m = (tt, follow queues costs measure l d.1 m)
follow queues costs measure (Happens (Full r q) ∷ l) d m = (tt, follow queues costs measure l d.1 m)
follow queues costs measure (Happens (Strike r q) ∷ l) d m = (tt, follow queues costs measure l d.1 m)
follow queues costs measure (Happens (Dispatch r q) ∷ l) d m = (d.0, follow queues costs measure l d.1 m)
follow queues costs measure (Spends r q old new ∷ l) d m = ((d.0, tt), follow queues costs measure l d.1 m)
follow queues costs measure (Settles r q old new ∷ l) d m = ((d.0, m.0), follow queues costs measure l d.1 m.1)

follows_rest : (queues : ℕ) (costs : List ℕ) (measure : ℕ → ℕ) (x : LogEntry) (l : List LogEntry) → Follows queues costs measure (x ∷ l) → Follows queues costs measure l
follows_rest queues costs measure (Happens (Enter r q)) l d = d.1
follows_rest queues costs measure (Happens (Full r q)) l d = d.1
follows_rest queues costs measure (Happens (Strike r q)) l d = d.1
follows_rest queues costs measure (Happens (Dispatch r q)) l d = d.1
follows_rest queues costs measure (Spends r q old new) l d = d.1
follows_rest queues costs measure (Settles r q old new) l d = d.1

put_at : (f : ℕ → ℕ) (r a j : ℕ) → j ≡ r → put f r a j ≡ a
put_at f r a j same = ap (put f r a) same ∙ put_here f r a

-- what requests that execute come to without one of them
total_ended : (f : Running → ℕ) (r k : ℕ) (xs : List Running) → IsAmong r k xs → total f (ended r k xs) + f (record { request = r; charge = k }) ≡ total f xs
total_ended f r k [] is = absurd is
total_ended f r k (x ∷ xs) is = elim (cases_eq x.request r) [
  | inl same ↦ elim (cases_eq x.charge k) [
    | inl equal ↦
        (let flag : (eqb x.request r && eqb x.charge k) ≡ true = ap (λ (b : Bool). b && eqb x.charge k) (eq-eqb x.request r same) ∙ eq-eqb x.charge k equal in
        let w : total f (ended r k (x ∷ xs)) ≡ total f xs = ap (λ (b : Bool). total f (cond b xs (x ∷ ended r k xs))) flag in
        let e : f x ≡ f (record { request = r; charge = k }) = ap (λ (i : ℕ). f (record { request = i; charge = x.charge })) same ∙ ap (λ (i : ℕ). f (record { request = r; charge = i })) equal in
        omega arith)
    | inr other ↦
        (let flag : (eqb x.request r && eqb x.charge k) ≡ false = ap (λ (b : Bool). b && eqb x.charge k) (eq-eqb x.request r same) ∙ ne_eqb x.charge k other in
        let w : total f (ended r k (x ∷ xs)) ≡ f x + total f (ended r k xs) = ap (λ (b : Bool). total f (cond b xs (x ∷ ended r k xs))) flag in
        let old = total_ended f r k xs (later is (λ both. other both.1)) in omega arith)
  ]
  | inr other ↦
      (let flag : (eqb x.request r && eqb x.charge k) ≡ false = ap (λ (b : Bool). b && eqb x.charge k) (ne_eqb x.request r other) in
      let w : total f (ended r k (x ∷ xs)) ≡ f x + total f (ended r k xs) = ap (λ (b : Bool). total f (cond b xs (x ∷ ended r k xs))) flag in
      let old = total_ended f r k xs (later is (λ both. other both.0)) in omega arith)
] where
  later : (((x.request ≡ r) × (x.charge ≡ k)) ⊎ IsAmong r k xs) → ¬ ((x.request ≡ r) × (x.charge ≡ k)) → IsAmong r k xs
  later (inl same) other = absurd (other same)
  later (inr is) other = is

-- what a queue's requests that execute come to after each entry
module _ (costs : List ℕ) (f : Running → ℕ) where
  pub begun_here : (r p q : ℕ) (xs : List Running) → p ≡ q → total f (begun costs (Dispatch r p) q xs) ≡ f (record { request = r; charge = width costs r }) + total f xs
  begun_here r p q xs same = ap (λ (b : Bool). total f (cond b (record { request = r; charge = width costs r } ∷ xs) xs)) (eq-eqb p q same)

  pub begun_else : (r p q : ℕ) (xs : List Running) → p ≢ q → total f (begun costs (Dispatch r p) q xs) ≡ total f xs
  begun_else r p q xs other = ap (λ (b : Bool). total f (cond b (record { request = r; charge = width costs r } ∷ xs) xs)) (ne_eqb p q other)

  pub settled_here : (r p old new : ℕ) (l : List LogEntry) (q : ℕ) → p ≡ q → IsAmong r old (runs costs l p)
      → total f (runs costs (Settles r p old new ∷ l) q) + f (record { request = r; charge = old }) ≡ total f (runs costs l q)
  settled_here r p old new l q same is =
      let w : total f (runs costs (Settles r p old new ∷ l) q) ≡ total f (ended r old (runs costs l q)) = ap (λ (b : Bool). total f (cond b (ended r old (runs costs l q)) (runs costs l q))) (eq-eqb p q same) in
      let t = total_ended f r old (runs costs l q) (subst (λ (i : ℕ). IsAmong r old (runs costs l i)) same is) in omega arith

  pub settled_else : (r p old new : ℕ) (l : List LogEntry) (q : ℕ) → p ≢ q → total f (runs costs (Settles r p old new ∷ l) q) ≡ total f (runs costs l q)
  settled_else r p old new l q other = ap (λ (b : Bool). total f (cond b (ended r old (runs costs l q)) (runs costs l q))) (ne_eqb p q other)

  pub spent_here : (r p old new : ℕ) (l : List LogEntry) (q : ℕ) → p ≡ q → IsAmong r old (runs costs l p)
      → total f (runs costs (Spends r p old new ∷ l) q) + f (record { request = r; charge = old }) ≡ f (record { request = r; charge = new }) + total f (runs costs l q)
  spent_here r p old new l q same is =
      let w : total f (runs costs (Spends r p old new ∷ l) q) ≡ f (record { request = r; charge = new }) + total f (ended r old (runs costs l q)) =
      ap (λ (b : Bool). total f (cond b (record { request = r; charge = new } ∷ ended r old (runs costs l q)) (runs costs l q))) (eq-eqb p q same) in
      let t = total_ended f r old (runs costs l q) (subst (λ (i : ℕ). IsAmong r old (runs costs l i)) same is) in omega arith

  pub spent_else : (r p old new : ℕ) (l : List LogEntry) (q : ℕ) → p ≢ q → total f (runs costs (Spends r p old new ∷ l) q) ≡ total f (runs costs l q)
  spent_else r p old new l q other = ap (λ (b : Bool). total f (cond b (record { request = r; charge = new } ∷ ended r old (runs costs l q)) (runs costs l q))) (ne_eqb p q other)

module _ (measure : ℕ → ℕ) where
  given_here : (r p q n : ℕ) → p ≡ q → given measure (Dispatch r p) q n ≡ n + measure r
  given_here r p q n same = ap (λ (b : Bool). cond b (n + measure r) n) (eq-eqb p q same)

  given_else : (r p q n : ℕ) → p ≢ q → given measure (Dispatch r p) q n ≡ n
  given_else r p q n other = ap (λ (b : Bool). cond b (n + measure r) n) (ne_eqb p q other)

is_running : ℕ → ℕ → Running
is_running r k = record { request = r; charge = k }

charge_of : Running → ℕ
charge_of x = x.charge

take_of : (ℕ → ℕ) → Running → ℕ
take_of measure x = measure x.request

-- the books
module _ (queues : ℕ) (costs : List ℕ) (measure : ℕ → ℕ) where
  abbrev N : List LogEntry → Numbers
  N l = charged_numbers queues costs l

  abbrev F : List LogEntry → ℕ → ℕ
  F l q = true_next queues costs measure l q

  -- what executes was dispatched
  covers : (l : List LogEntry) (q : ℕ) → Follows queues costs measure l → taken costs measure l q ≤ F l q
  covers [] q d = omega arith
  covers (Happens (Enter r p) ∷ l) q d = let old = covers l q d.1 in omega arith
  covers (Happens (Full r p) ∷ l) q d = let old = covers l q d.1 in omega arith
  covers (Happens (Strike r p) ∷ l) q d = let old = covers l q d.1 in omega arith
  covers (Happens (Dispatch r p) ∷ l) q d =
      let old = covers l q d.1 in
      elim (cases_eq p q) [
        | inl same ↦ (let a = given_here measure r p q (F l q + 0) same in let b = begun_here costs (λ x. measure x.request) r p q (runs costs l q) same in omega arith)
        | inr other ↦ (let a = given_else measure r p q (F l q + 0) other in let b = begun_else costs (λ x. measure x.request) r p q (runs costs l q) other in omega arith)
      ]
  covers (Spends r p k m ∷ l) q d =
      let old = covers l q d.1 in
      elim (cases_eq p q) [
        | inl same ↦ (let b = spent_here costs (λ x. measure x.request) r p k m l q same d.0.0 in omega arith)
        | inr other ↦ (let b = spent_else costs (λ x. measure x.request) r p k m l q other in omega arith)
      ]
  covers (Settles r p k m ∷ l) q d =
      let old = covers l q d.1 in
      elim (cases_eq p q) [
        | inl same ↦ (let b = settled_here costs (λ x. measure x.request) r p k m l q same d.0.0 in omega arith)
        | inr other ↦ (let b = settled_else costs (λ x. measure x.request) r p k m l q other in omega arith)
      ]

  balances : (l : List LogEntry) (q : ℕ) → Follows queues costs measure l → (N l).next q + taken costs measure l q ≡ F l q + charged costs l q
  balances [] q d = omega arith
  balances (Happens (Enter r p) ∷ l) q d = let old = balances l q d.1 in let more = next_enter_least (N l) p q (waiting (events l) p) in omega arith
  balances (Happens (Full r p) ∷ l) q d = let old = balances l q d.1 in omega arith
  balances (Happens (Strike r p) ∷ l) q d = let old = balances l q d.1 in omega arith
  balances (Happens (Dispatch r p) ∷ l) q d =
      let old = balances l q d.1 in let v = N l in
      elim (cases_eq p q) [
        | inl same ↦
            (let a = given_here measure r p q (F l q + 0) same in let b = begun_here costs (λ x. measure x.request) r p q (runs costs l q) same in
            let e = ap v.next same in
            let c = put_at v.next p (v.next p + width costs r) q (sym same) in let g = begun_here costs (λ x. x.charge) r p q (runs costs l q) same in omega arith)
        | inr other ↦
            (let a = given_else measure r p q (F l q + 0) other in let b = begun_else costs (λ x. measure x.request) r p q (runs costs l q) other in
            let c = put_else v.next p (v.next p + width costs r) q (λ x. other (sym x)) in let g = begun_else costs (λ x. x.charge) r p q (runs costs l q) other in omega arith)
      ]
  balances (Spends r p k m ∷ l) q d =
      let old = balances l q d.1 in let v = N l in let over = covers l q d.1 in
      elim (cases_eq p q) [
        | inl same ↦
            (let b = spent_here costs (λ x. measure x.request) r p k m l q same d.0.0 in let e = ap v.next same in
            let c = put_at v.next p (v.next p + m - k) q (sym same) in let g = spent_here costs (λ x. x.charge) r p k m l q same d.0.0 in omega arith)
        | inr other ↦
            (let b = spent_else costs (λ x. measure x.request) r p k m l q other in
            let c = put_else v.next p (v.next p + m - k) q (λ x. other (sym x)) in let g = spent_else costs (λ x. x.charge) r p k m l q other in omega arith)
      ]
  balances (Settles r p k m ∷ l) q d =
      let old = balances l q d.1 in let v = N l in let over = covers l q d.1 in
      elim (cases_eq p q) [
        | inl same ↦
            (let b = settled_here costs (λ x. measure x.request) r p k m l q same d.0.0 in let e = ap v.next same in let is = d.0.1 in
            let c = put_at v.next p (v.next p + m - k) q (sym same) in let g = settled_here costs (λ x. x.charge) r p k m l q same d.0.0 in omega arith)
        | inr other ↦
            (let b = settled_else costs (λ x. measure x.request) r p k m l q other in
            let c = put_else v.next p (v.next p + m - k) q (λ x. other (sym x)) in let g = settled_else costs (λ x. x.charge) r p k m l q other in omega arith)
      ]

pub books : (queues : ℕ) (costs : List ℕ) (measure : ℕ → ℕ) (hands : ℕ → List ℕ) (limit : ℕ) (l : List LogEntry) (q : ℕ) → IsSettled queues costs hands limit l → AreMeasures measure l
    → (charged_numbers queues costs l).next q + taken costs measure l q ≡ true_next queues costs measure l q + charged costs l q
books queues costs measure hands limit l q s m = balances queues costs measure l q (follow queues costs measure l s.1 m)

-- what was charged is near what was measured
record AreClose (slack : ℕ) (f : ℕ → ℕ) (v : Numbers) : Type 0 where
  over : (x : ℕ) → f x ≤ v.next x + slack
  under : (x : ℕ) → v.next x ≤ f x + slack
  both : (x p : ℕ) → x ≢ p → f x + v.next p ≤ v.next x + f p + slack

-- the true numbers keep near one another, where someone waits
record AreNear (queues most slack : ℕ) (queue : ℕ → List ℕ) (f : ℕ → ℕ) (v : Numbers) : Type 0 where
  next : (x p : ℕ) → p < queues → queue p ≢ [] → f x ≤ f p + most + 2 * slack
  time : (p : ℕ) → p < queues → queue p ≢ [] → v.virtual_time ≤ f p + most + slack
  ahead : (x : ℕ) → f x ≤ v.virtual_time + most + slack

module _ (queues most slack : ℕ) (queue after : ℕ → List ℕ) (f : ℕ → ℕ) (v : Numbers) (near : AreNear queues most slack queue f v) where
  -- the same true numbers and time, where nobody comes to wait
  fewer : (g : ℕ → ℕ) (w : Numbers) → ((x : ℕ) → g x ≡ f x) → w.virtual_time ≡ v.virtual_time → ((p : ℕ) → after p ≢ [] → queue p ≢ []) → AreNear queues most slack after g w
  fewer g w same time was = record {
    next = λ x p l ne. (let a = same x in let b = same p in let n = near.next x p l (was p ne) in omega arith);
    time = λ p l ne. (let b = same p in let n = near.time p l (was p ne) in omega arith);
    ahead = λ x. (let a = same x in let n = near.ahead x in omega arith);
  }

  entered_near : (q : ℕ) → ((p : ℕ) → p ≢ q → after p ≡ queue p) → (ws : List ℕ) → queue q ≡ ws → (g : ℕ → ℕ)
      → ((x : ℕ) → g x ≡ f x + ((after_enter q ws v).next x - v.next x)) → AreClose slack g (after_enter q ws v)
      → AreNear queues most slack after g (after_enter q ws v)
  entered_near q others (w ∷ ws) is g grown close = fewer g v (λ x. (let a = grown x in omega arith)) refl (λ p ne. elim (cases_eq p q) [
    | inl same ↦ λ none. some w ws (sym is ∙ (ap queue (sym same) ∙ none))
    | inr other ↦ λ none. ne (others p other ∙ none)
  ]) where
    some : (y : ℕ) (ys : List ℕ) → (y ∷ ys) ≡ [] → ⊥
    some y ys e = cc
  entered_near q others [] is g grown close =
      let from : ℕ = max (v.next q) v.virtual_time in
      let start : put v.next q from q ≡ from = put_here v.next q from in
      let here : (x : ℕ) → x ≡ q → g x ≡ f q + (from - v.next q) = λ x same. (let a = put_at v.next q from x same in let b = ap f same in let c = ap v.next same in let d = grown x in omega arith) in
      let away : (x : ℕ) → x ≢ q → g x ≡ f x = λ x other. (let a = put_else v.next q from x other in let d = grown x in omega arith) in
      let old : (p : ℕ) → p ≢ q → after p ≢ [] → queue p ≢ [] = λ p other ne none. ne (others p other ∙ none) in
      let over : g q ≤ from + slack = (let c = close.over q in omega arith) in
      let under : from ≤ g q + slack = (let c = close.under q in omega arith) in
      let at : (x : ℕ) → x ≡ q → g x ≡ g q = λ x same. ap g same in
      let value = here q refl in
      record {
        next = λ x p l ne. elim (cases_eq p q) [
          | inl same ↦ elim (cases_eq x q) [
            | inl s ↦ (let a = at p same in let b = at x s in omega arith)
            | inr o ↦ (let a = at p same in let b = away x o in let k = near.ahead x in omega arith)
          ]
          | inr other ↦ elim (cases_eq x q) [
            | inl s ↦ (let a = away p other in let b = at x s in let k = near.next q p l (old p other ne) in let t = near.time p l (old p other ne) in omega arith)
            | inr o ↦ (let a = away p other in let b = away x o in let k = near.next x p l (old p other ne) in omega arith)
          ]
        ];
        time = λ p l ne. elim (cases_eq p q) [
          | inl same ↦ (let a = at p same in omega arith)
          | inr other ↦ (let a = away p other in let t = near.time p l (old p other ne) in omega arith)
        ];
        ahead = λ x. elim (cases_eq x q) [
          | inl s ↦ (let b = at x s in let k = near.ahead q in omega arith)
          | inr o ↦ (let b = away x o in let k = near.ahead x in omega arith)
        ];
      }

-- the queue that was dispatched from is not far above one in which someone waited
dispatched_below : (most slack : ℕ) (g : ℕ → ℕ) (v w : Numbers) (q p k : ℕ) → q ≢ p → v.next q + k ≤ v.next p + most → w.next q ≡ v.next q + k → w.next p ≡ v.next p
    → AreClose slack g w → g q ≤ g p + most + slack
dispatched_below most slack g v w q p k ne least here else close = let b = close.both q p ne in omega arith

module _ (queues most slack : ℕ) (queue after : ℕ → List ℕ) (f : ℕ → ℕ) (v : Numbers) (near : AreNear queues most slack queue f v) where
  dispatched_near : (q k m : ℕ) (g : ℕ → ℕ) → k ≤ most → ((p : ℕ) → p < queues → queue p ≢ [] → v.next q + k ≤ v.next p + most) → ((p : ℕ) → after p ≢ [] → queue p ≢ [])
      → g q ≡ f q + m → ((x : ℕ) → x ≢ q → g x ≡ f x) → AreClose slack f v → AreClose slack g (after_dispatch q k v)
      → AreNear queues most slack after g (after_dispatch q k v)
  dispatched_near q k m g narrow least was here away before close =
      let c = put_here v.next q (v.next q + k) in
      let at : (x : ℕ) → x ≡ q → g x ≡ g q = λ x same. ap g same in
      record {
        next = λ x p l ne. elim (cases_eq p q) [
          | inl same ↦ elim (cases_eq x q) [
            | inl s ↦ (let a = at p same in let b = at x s in omega arith)
            | inr o ↦ (let a = at p same in let b = away x o in let e = ap f same in let n = near.next x p l (was p ne) in omega arith)
          ]
          | inr other ↦ elim (cases_eq x q) [
            | inl s ↦ (let b = at x s in
                let n = dispatched_below most slack g v (after_dispatch q k v) q p k (λ e. other (sym e)) (least p l (was p ne)) c (put_else v.next q (v.next q + k) p other) close in omega arith)
            | inr o ↦ (let a = away p other in let b = away x o in let n = near.next x p l (was p ne) in omega arith)
          ]
        ];
        time = λ p l ne. elim (cases_eq p q) [
          | inl same ↦ (let a = at p same in let e = ap f same in let t = near.time p l (was p ne) in let u = before.under q in omega arith)
          | inr other ↦ (let a = away p other in let t = near.time p l (was p ne) in let d = least p l (was p ne) in let u = before.under p in omega arith)
        ];
        ahead = λ x. elim (cases_eq x q) [
          | inl s ↦ (let b = at x s in let o = close.over q in omega arith)
          | inr o ↦ (let b = away x o in let n = near.ahead x in omega arith)
        ];
      }

module _ (slack queues : ℕ) (costs : List ℕ) (measure : ℕ → ℕ) where
  abbrev Ns : List LogEntry → Numbers
  Ns l = charged_numbers queues costs l

  abbrev Fs : List LogEntry → ℕ → ℕ
  Fs l q = true_next queues costs measure l q

  abbrev Qs : List LogEntry → ℕ → List ℕ
  Qs l q = waiting (events l) q

  judged : (l : List LogEntry) → AreJudged slack costs measure l → IsJudged slack costs measure l
  judged [] j = j
  judged (x ∷ l) j = j.0

  close : (l : List LogEntry) → Follows queues costs measure l → AreJudged slack costs measure l → AreClose slack (Fs l) (Ns l)
  close l d j =
      let has = judged l j in
      record {
        over = λ x. (let b = balances queues costs measure l x d in let r = has.under x in omega arith);
        under = λ x. (let b = balances queues costs measure l x d in let r = has.over x in omega arith);
        both = λ x p ne. (let b = balances queues costs measure l x d in let c = balances queues costs measure l p d in let r = has.both x p ne in omega arith);
      }

  -- the finish of the choice is not far above any number of a queue that is not empty
  least_finish : (r q : ℕ) (h : List Event) (v : Numbers) → width costs (slice_index (waiting h q) 0) ≡ width costs r
      → ((p : ℕ) → p < queues → waiting h p ≢ [] → v.next q + width costs (slice_index (waiting h q) 0) ≤ v.next p + width costs (slice_index (waiting h p) 0))
      → (p : ℕ) → p < queues → waiting h p ≢ [] → v.next q + width costs r ≤ v.next p + widest costs
  least_finish r q h v wide least p l ne = let a = least p l ne in let k = width-le-widest costs (slice_index (waiting h p) 0) in omega arith

  module _ (hands : ℕ → List ℕ) (limit : ℕ) where
    first_wide : (r q : ℕ) (l : List LogEntry) → IsLegal hands limit (Dispatch r q ∷ events l) → width costs (slice_index (Qs l q) 0) ≡ width costs r
    first_wide r q l legal = ap (width costs) (ap (λ (xs : List ℕ). slice_index xs 0) (first_split (Qs l q) r legal.0))

    near : (l : List LogEntry) → IsLegal hands limit (events l) → Follows queues costs measure l → AreJudged slack costs measure l
        → AreNear queues (widest costs) slack (Qs l) (Fs l) (Ns l)
    near [] legal d j = record { next = λ x p l ne. omega arith; time = λ p l ne. omega arith; ahead = λ x. omega arith }
    near (Happens (Enter r q) ∷ l) legal d j =
        entered_near queues (widest costs) slack (Qs l) (Qs (Happens (Enter r q) ∷ l)) (Fs l) (Ns l) (near l legal.1 d.1 j.1)
        q (λ p other. waiting_else (events l) r q p (λ x. other (sym x))) (Qs l q) refl (Fs (Happens (Enter r q) ∷ l)) (λ x. refl) (close (Happens (Enter r q) ∷ l) d j)
    near (Happens (Full r q) ∷ l) legal d j =
        fewer queues (widest costs) slack (Qs l) (Qs l) (Fs l) (Ns l) (near l legal.1 d.1 j.1) (Fs (Happens (Full r q) ∷ l)) (Ns l) (λ x. (omega arith)) refl (λ p some. some)
    near (Happens (Strike r q) ∷ l) legal d j =
        fewer queues (widest costs) slack (Qs l) (Qs (Happens (Strike r q) ∷ l)) (Fs l) (Ns l) (near l legal.1 d.1 j.1) (Fs (Happens (Strike r q) ∷ l)) (Ns l) (λ x. (omega arith)) refl (was_strike (events l) r q)
    near (Happens (Dispatch r q) ∷ l) legal d j =
        dispatched_near queues (widest costs) slack (Qs l) (Qs (Happens (Dispatch r q) ∷ l)) (Fs l) (Ns l) (near l legal.1 d.1 j.1)
        q (width costs r) (measure r) (Fs (Happens (Dispatch r q) ∷ l)) (width-le-widest costs r)
        (least_finish r q (events l) (Ns l) (first_wide r q l legal) d.0.has_least_finish)
        (was_dispatch (events l) r q)
        (let a = given_here measure r q q (Fs l q + 0) refl in omega arith)
        (λ x other. (let a = given_else measure r q x (Fs l x + 0) (λ e. other (sym e)) in omega arith))
        (close l d.1 j.1) (close (Happens (Dispatch r q) ∷ l) d j)
    near (Spends r q k m ∷ l) legal d j =
        fewer queues (widest costs) slack (Qs l) (Qs l) (Fs l) (Ns l) (near l legal d.1 j.1) (Fs l) (Ns (Spends r q k m ∷ l)) (λ x. refl) refl (λ p some. some)
    near (Settles r q k m ∷ l) legal d j =
        fewer queues (widest costs) slack (Qs l) (Qs l) (Fs l) (Ns l) (near l legal d.1 j.1) (Fs l) (Ns (Settles r q k m ∷ l)) (λ x. refl) refl (λ p some. some)

    legal_rest : (x : LogEntry) (l : List LogEntry) → IsLegal hands limit (events (x ∷ l)) → IsLegal hands limit (events l)
    legal_rest (Happens e) l legal = legal.1
    legal_rest (Spends r q k m) l legal = legal
    legal_rest (Settles r q k m) l legal = legal

  -- over a stretch in which q is never empty, its true number grows by its seat-time
  unmoved : (v : Numbers) (p q : ℕ) (ws : List ℕ) → (p ≡ q → ws ≢ []) → (after_enter p ws v).next q ≡ v.next q
  unmoved v p q (w ∷ ws) some = refl
  unmoved v p q [] some = put_else v.next p (max (v.next p) v.virtual_time) q (λ e. some (sym e) refl)

  grows : (q : ℕ) (stretch l : List LogEntry) → IsNeverEmptyIn (stretch ++ l) (length stretch) q → Fs (stretch ++ l) q ≡ Fs l q + seat_time measure stretch q
  grows q [] l never = omega arith
  grows q (Happens (Enter r p) ∷ stretch) l never =
      let old = grows q stretch l (λ k low. never (suc k) (omega arith)) in
      let same = unmoved (Ns (stretch ++ l)) p q (Qs (stretch ++ l) p) (λ e none. never 1 (omega arith) (ap (Qs (stretch ++ l)) (sym e) ∙ none)) in omega arith
  grows q (Happens (Full r p) ∷ stretch) l never = let old = grows q stretch l (λ k low. never (suc k) (omega arith)) in omega arith
  grows q (Happens (Strike r p) ∷ stretch) l never = let old = grows q stretch l (λ k low. never (suc k) (omega arith)) in omega arith
  grows q (Happens (Dispatch r p) ∷ stretch) l never =
      let old = grows q stretch l (λ k low. never (suc k) (omega arith)) in
      elim (cases_eq p q) [
        | inl same ↦ (let a = given_here measure r p q (Fs (stretch ++ l) q + 0) same in let b = given_here measure r p q (seat_time measure stretch q) same in omega arith)
        | inr other ↦ (let a = given_else measure r p q (Fs (stretch ++ l) q + 0) other in let b = given_else measure r p q (seat_time measure stretch q) other in omega arith)
      ]
  grows q (Spends r p k m ∷ stretch) l never = grows q stretch l (λ i low. never (suc i) (omega arith))
  grows q (Settles r p k m ∷ stretch) l never = grows q stretch l (λ i low. never (suc i) (omega arith))

  time_grows : (stretch l : List LogEntry) → (Ns l).virtual_time ≤ (Ns (stretch ++ l)).virtual_time
  time_grows [] l = omega arith
  time_grows (Happens (Enter r p) ∷ stretch) l = let old = time_grows stretch l in let same = time_enter (Ns (stretch ++ l)) p (Qs (stretch ++ l) p) in omega arith
  time_grows (Happens (Full r p) ∷ stretch) l = time_grows stretch l
  time_grows (Happens (Strike r p) ∷ stretch) l = time_grows stretch l
  time_grows (Happens (Dispatch r p) ∷ stretch) l = let old = time_grows stretch l in omega arith
  time_grows (Spends r p k m ∷ stretch) l = time_grows stretch l
  time_grows (Settles r p k m ∷ stretch) l = time_grows stretch l

  -- what b is given in the stretch brings its true number past this, or b was given nothing and is empty
  abbrev Reached : (from b : ℕ) (stretch l : List LogEntry) → Type 0
  Reached from b stretch l =
      ((seat_time measure stretch b ≡ 0) × (Qs (stretch ++ l) b ≡ []))
      ⊎ (seat_time measure stretch b + from ≤ Fs (stretch ++ l) b + widest costs + 2 * slack)

  reached : (from b : ℕ) (stretch l : List LogEntry) → Follows queues costs measure (stretch ++ l) → AreJudged slack costs measure (stretch ++ l)
      → (Qs l b ≢ [] → from ≤ Fs l b + widest costs + 2 * slack) → from ≤ (Ns l).virtual_time + widest costs + slack
      → Reached from b stretch l
  reached from b [] l d j waits time = elim (is_empty (Qs l b)) [
    | inl none ↦ inl (refl, none)
    | inr some ↦ (let w = waits some in inr (omega arith))
  ]
  reached from b (Happens (Enter r p) ∷ stretch) l d j waits time =
      let old = reached from b stretch l d.1 j.1 waits time in
      let grown = time_grows stretch l in
      let v = Ns (stretch ++ l) in
      let under = (close (Happens (Enter r p) ∷ (stretch ++ l)) d j).under b in
      elim (cases_eq p b) [
        | inl same ↦ elim old [
          | inl none ↦ (let here = next_entered v p b (Qs (stretch ++ l) p) same (ap (Qs (stretch ++ l)) same ∙ none.1) in let zero_is = none.0 in inr (omega arith))
          | inr high ↦ inr (omega arith)
        ]
        | inr other ↦ elim old [
          | inl none ↦ inl (none.0, waiting_else (events (stretch ++ l)) r p b other ∙ none.1)
          | inr high ↦ inr (omega arith)
        ]
      ]
  reached from b (Happens (Full r p) ∷ stretch) l d j waits time = elim (reached from b stretch l d.1 j.1 waits time) [
    | inl none ↦ inl none
    | inr high ↦ inr (omega arith)
  ]
  reached from b (Happens (Strike r p) ∷ stretch) l d j waits time = elim (reached from b stretch l d.1 j.1 waits time) [
    | inl none ↦ inl (none.0, still_empty (waiting (Strike r p ∷ events (stretch ++ l)) b) (λ some. was_strike (events (stretch ++ l)) r p b some none.1))
    | inr high ↦ inr (omega arith)
  ]
  reached from b (Happens (Dispatch r p) ∷ stretch) l d j waits time =
      let old = reached from b stretch l d.1 j.1 waits time in
      elim (cases_eq p b) [
        | inl same ↦ elim old [
          | inl none ↦ absurd (d.0.is_waited_in (ap (Qs (stretch ++ l)) same ∙ none.1))
          | inr high ↦ (let a = given_here measure r p b (Fs (stretch ++ l) b + 0) same in let s = given_here measure r p b (seat_time measure stretch b) same in inr (omega arith))
        ]
        | inr ne ↦
            (let a = given_else measure r p b (Fs (stretch ++ l) b + 0) ne in let s = given_else measure r p b (seat_time measure stretch b) ne in
            elim old [
              | inl none ↦ inl (s ∙ none.0, still_empty (waiting (Dispatch r p ∷ events (stretch ++ l)) b) (λ some. was_dispatch (events (stretch ++ l)) r p b some none.1))
              | inr high ↦ inr (omega arith)
            ])
      ]
  reached from b (Spends r p k m ∷ stretch) l d j waits time = reached from b stretch l d.1 j.1 waits time
  reached from b (Settles r p k m ∷ stretch) l d j waits time = reached from b stretch l d.1 j.1 waits time

  module _ (hands : ℕ → List ℕ) (limit : ℕ) where
    -- what b is given while q is never empty brings it no further than this past the true number of q
    passed : (from q b : ℕ) → b ≢ q → q < queues → (stretch l : List LogEntry)
        → IsLegal hands limit (events (stretch ++ l)) → Follows queues costs measure (stretch ++ l) → AreJudged slack costs measure (stretch ++ l)
        → IsNeverEmptyIn (stretch ++ l) (length stretch) q
        → (Qs l b ≢ [] → from ≤ Fs l b + widest costs + 2 * slack) → from ≤ (Ns l).virtual_time + widest costs + slack
        → (seat_time measure stretch b ≡ 0) ⊎ (seat_time measure stretch b + from ≤ Fs (stretch ++ l) q + 2 * widest costs + 3 * slack)
    passed from q b ne lq [] l legal d j never waits time = inl refl
    passed from q b ne lq (Happens (Enter r p) ∷ stretch) l legal d j never waits time =
        elim (passed from q b ne lq stretch l legal.1 d.1 j.1 (λ k low. never (suc k) (omega arith)) waits time) [
          | inl none ↦ inl none
          | inr high ↦ inr (omega arith)
        ]
    passed from q b ne lq (Happens (Full r p) ∷ stretch) l legal d j never waits time =
        elim (passed from q b ne lq stretch l legal.1 d.1 j.1 (λ k low. never (suc k) (omega arith)) waits time) [
          | inl none ↦ inl none
          | inr high ↦ inr (omega arith)
        ]
    passed from q b ne lq (Happens (Strike r p) ∷ stretch) l legal d j never waits time =
        elim (passed from q b ne lq stretch l legal.1 d.1 j.1 (λ k low. never (suc k) (omega arith)) waits time) [
          | inl none ↦ inl none
          | inr high ↦ inr (omega arith)
        ]
    passed from q b ne lq (Happens (Dispatch r p) ∷ stretch) l legal d j never waits time =
        let v = Ns (stretch ++ l) in
        elim (cases_eq p b) [
          | inl same ↦ elim (reached from b (Happens (Dispatch r p) ∷ stretch) l d j waits time) [
            | inl none ↦ inl none.0
            | inr high ↦
                (let pq : p ≢ q = (λ e. ne (sym same ∙ e)) in
                let least = least_finish r p (events (stretch ++ l)) v (first_wide hands limit r p (stretch ++ l) legal) d.0.has_least_finish q lq (never 1 (omega arith)) in
                let below = dispatched_below (widest costs) slack (Fs (Happens (Dispatch r p) ∷ (stretch ++ l))) v (after_dispatch p (width costs r) v) p q (width costs r) pq least
                (put_here v.next p (v.next p + width costs r)) (put_else v.next p (v.next p + width costs r) q (λ e. pq (sym e))) (close (Happens (Dispatch r p) ∷ (stretch ++ l)) d j) in
                let e = ap (Fs (Happens (Dispatch r p) ∷ (stretch ++ l))) same in inr (omega arith))
          ]
          | inr other ↦
              (let s = given_else measure r p b (seat_time measure stretch b) other in
              elim (passed from q b ne lq stretch l legal.1 d.1 j.1 (λ k low. never (suc k) (omega arith)) waits time) [
                | inl none ↦ inl (s ∙ none)
                | inr high ↦ elim (cases_eq p q) [
                  | inl same ↦ (let a = given_here measure r p q (Fs (stretch ++ l) q + 0) same in inr (omega arith))
                  | inr far ↦ (let a = given_else measure r p q (Fs (stretch ++ l) q + 0) far in inr (omega arith))
                ]
              ])
        ]
    passed from q b ne lq (Spends r p k m ∷ stretch) l legal d j never waits time = passed from q b ne lq stretch l legal d.1 j.1 (λ i low. never (suc i) (omega arith)) waits time
    passed from q b ne lq (Settles r p k m ∷ stretch) l legal d j never waits time = passed from q b ne lq stretch l legal d.1 j.1 (λ i low. never (suc i) (omega arith)) waits time

    -- each beginning of a settled log is settled, and judged
    rest : (stretch l : List LogEntry) → IsLegal hands limit (events (stretch ++ l)) → Follows queues costs measure (stretch ++ l) → AreJudged slack costs measure (stretch ++ l)
        → IsLegal hands limit (events l) × Follows queues costs measure l × AreJudged slack costs measure l
    rest [] l legal d j = (legal, d, j)
    rest (x ∷ stretch) l legal d j = rest stretch l (legal_rest hands limit x (stretch ++ l) legal) (follows_rest queues costs measure x (stretch ++ l) d) j.1

    isolated_here : (stretch l : List LogEntry) (q b : ℕ) → IsLegal hands limit (events (stretch ++ l)) → Follows queues costs measure (stretch ++ l) → AreJudged slack costs measure (stretch ++ l)
        → q < queues → b < queues → IsNeverEmptyIn (stretch ++ l) (length stretch) q
        → seat_time measure stretch b ≤ seat_time measure stretch q + 2 * widest costs + 3 * slack
    isolated_here stretch l q b legal d j lq lb never = elim (cases_eq b q) [
      | inl same ↦ (let e = ap (seat_time measure stretch) same in omega arith)
      | inr ne ↦
          (let was = rest stretch l legal d j in
          let start = near hands limit l was.0 was.1 was.2 in
          let g = grows q stretch l never in
          elim (passed (Fs l q) q b ne lq stretch l legal d j never (λ some. start.next q b lb some) (start.ahead q)) [
            | inl none ↦ omega arith
            | inr high ↦ omega arith
          ])
    ]

-- the last this many entries
pub IsSettled-append : (queues : ℕ) (costs : List ℕ) (hands : ℕ → List ℕ) (limit : ℕ) (later earlier : List LogEntry) → IsSettled queues costs hands limit (later ++ earlier) → IsSettled queues costs hands limit earlier
IsSettled-append queues costs hands limit [] earlier s = s
IsSettled-append queues costs hands limit (Happens e ∷ later) earlier s = IsSettled-append queues costs hands limit later earlier (s.0.1, s.1.1)
IsSettled-append queues costs hands limit (Spends r q k m ∷ later) earlier s = IsSettled-append queues costs hands limit later earlier (s.0, s.1.1)
IsSettled-append queues costs hands limit (Settles r q k m ∷ later) earlier s = IsSettled-append queues costs hands limit later earlier (s.0, s.1.1)

pub isolated : (slack queues : ℕ) (costs : List ℕ) (measure : ℕ → ℕ) (hands : ℕ → List ℕ) (limit : ℕ) (stretch earlier : List LogEntry) (q other : ℕ)
    → IsSettled queues costs hands limit (stretch ++ earlier) → AreMeasures measure (stretch ++ earlier)
    → AreJudged slack costs measure (stretch ++ earlier)
    → q < queues → other < queues
    → IsNeverEmptyIn (stretch ++ earlier) (length stretch) q
    → seat_time measure stretch other ≤ seat_time measure stretch q + 2 * widest costs + 3 * slack
isolated slack queues costs measure hands limit stretch earlier q other s m j lq lo never =
    isolated_here slack queues costs measure hands limit stretch earlier q other s.0 (follow queues costs measure (stretch ++ earlier) s.1 m) j lq lo never

pub balanced : (slack queues : ℕ) (costs : List ℕ) (measure : ℕ → ℕ) (hands : ℕ → List ℕ) (limit : ℕ) (stretch earlier : List LogEntry) (a b : ℕ)
    → IsSettled queues costs hands limit (stretch ++ earlier) → AreMeasures measure (stretch ++ earlier)
    → AreJudged slack costs measure (stretch ++ earlier)
    → a < queues → b < queues
    → IsNeverEmptyIn (stretch ++ earlier) (length stretch) a → IsNeverEmptyIn (stretch ++ earlier) (length stretch) b
    → DifferAtMost (2 * widest costs + 3 * slack) (seat_time measure stretch a) (seat_time measure stretch b)
balanced slack queues costs measure hands limit stretch earlier a b s m j la lb na nb =
    let x = isolated slack queues costs measure hands limit stretch earlier b a s m j lb la nb in
    let y = isolated slack queues costs measure hands limit stretch earlier a b s m j la lb na in
    (omega arith, omega arith)

-- of requests each of which is charged and takes at most so long on each seat, the total is at most the seats times that
abbrev AllWithin : ℕ → (ℕ → ℕ) → List Running → Type 0
AllWithin longest wide [] = Unit {0}
AllWithin longest wide (x ∷ xs) = (x.charge ≤ wide x.request * longest) × AllWithin longest wide xs

within_cond : (longest : ℕ) (wide : ℕ → ℕ) (b : Bool) (xs ys : List Running) → AllWithin longest wide xs → AllWithin longest wide ys → AllWithin longest wide (cond b xs ys)
within_cond longest wide true xs ys a b = a
within_cond longest wide false xs ys a b = b

within_ended : (longest : ℕ) (wide : ℕ → ℕ) (r k : ℕ) (xs : List Running) → AllWithin longest wide xs → AllWithin longest wide (ended r k xs)
within_ended longest wide r k [] w = tt
within_ended longest wide r k (x ∷ xs) w = within_cond longest wide (eqb x.request r && eqb x.charge k) xs (x ∷ ended r k xs) w.1 (w.0, within_ended longest wide r k xs w.1)

module _ (longest : ℕ) (wide : ℕ → ℕ) (costs : List ℕ) (low : (r : ℕ) → width costs r ≤ wide r * longest) where
  runs_within : (l : List LogEntry) → SpendsWithin longest wide l → (q : ℕ) → AllWithin longest wide (runs costs l q)
  runs_within [] s q = tt
  runs_within (Happens (Enter r p) ∷ l) s q = runs_within l s q
  runs_within (Happens (Full r p) ∷ l) s q = runs_within l s q
  runs_within (Happens (Strike r p) ∷ l) s q = runs_within l s q
  runs_within (Happens (Dispatch r p) ∷ l) s q = within_cond longest wide (eqb p q) (record { request = r; charge = width costs r } ∷ runs costs l q) (runs costs l q) (low r, runs_within l s q) (runs_within l s q)
  runs_within (Spends r p k m ∷ l) s q = within_cond longest wide (eqb p q) (record { request = r; charge = m } ∷ ended r k (runs costs l q)) (runs costs l q)
      (s.0, within_ended longest wide r k (runs costs l q) (runs_within l s.1 q)) (runs_within l s.1 q)
  runs_within (Settles r p k m ∷ l) s q = within_cond longest wide (eqb p q) (ended r k (runs costs l q)) (runs costs l q)
      (within_ended longest wide r k (runs costs l q) (runs_within l s q)) (runs_within l s q)

-- what such requests are misjudged by is at most the seats of those that are misjudged, times that
module _ (longest : ℕ) (wide measure : ℕ → ℕ) (short : (r : ℕ) → measure r ≤ wide r * longest) where
  one_apart : (x : Running) → x.charge ≤ wide x.request * longest
      → (measure x.request ≤ x.charge + misjudged wide measure x * longest) × (x.charge ≤ measure x.request + misjudged wide measure x * longest)
  one_apart x low = elim (cases_eq x.charge (measure x.request)) [
    | inl same ↦ (omega arith, omega arith)
    | inr other ↦
        (let w : misjudged wide measure x ≡ wide x.request = ap (λ (b : Bool). cond b 0 (wide x.request)) (ne_eqb x.charge (measure x.request) other) in
        let e = ap (λ (n : ℕ). n * longest) w in let s = short x.request in (omega arith, omega arith))
  ]

  apart : (xs : List Running) → AllWithin longest wide xs
      → (total (λ x. measure x.request) xs ≤ total (λ x. x.charge) xs + total (misjudged wide measure) xs * longest)
      × (total (λ x. x.charge) xs ≤ total (λ x. measure x.request) xs + total (misjudged wide measure) xs * longest)
  apart [] w = (omega arith, omega arith)
  apart (x ∷ xs) w =
      let here = one_apart x w.0 in let old = apart xs w.1 in let h0 = here.0 in let h1 = here.1 in let o0 = old.0 in let o1 = old.1 in
      let e : (misjudged wide measure x + total (misjudged wide measure) xs) * longest ≡ misjudged wide measure x * longest + total (misjudged wide measure) xs * longest = grind arith in
      (omega arith, omega arith)

times : (a b k : ℕ) → a ≤ b → a * k ≤ b * k
times a b k l = grind arith

module _ (seats longest : ℕ) (wide measure : ℕ → ℕ) (costs : List ℕ) (low : (r : ℕ) → width costs r ≤ wide r * longest) (short : (r : ℕ) → measure r ≤ wide r * longest) where
  seats_judge : (l : List LogEntry) → SpendsWithin longest wide l → HasSeats seats wide measure costs l → IsJudged (seats * longest) costs measure l
  seats_judge l s has =
      let here : (x : ℕ) → _ = λ (x : ℕ). apart longest wide measure short (runs costs l x) (runs_within longest wide costs low l s x) in
      record {
        under = λ x. (let a = (here x).0 in let b = times (misjudged_from wide measure costs l x) seats longest (has.each x) in omega arith);
        over = λ x. (let a = (here x).1 in let b = times (misjudged_from wide measure costs l x) seats longest (has.each x) in omega arith);
        both = λ x p ne. (let a = (here x).0 in let c = (here p).1 in
            let b = times (misjudged_from wide measure costs l x + misjudged_from wide measure costs l p) seats longest (has.both x p ne) in
            let e : (misjudged_from wide measure costs l x + misjudged_from wide measure costs l p) * longest ≡ misjudged_from wide measure costs l x * longest + misjudged_from wide measure costs l p * longest = grind arith in omega arith);
      }

  spends_rest : (x : LogEntry) (l : List LogEntry) → SpendsWithin longest wide (x ∷ l) → SpendsWithin longest wide l
  spends_rest (Happens e) l s = s
  spends_rest (Spends r q k m) l s = s.1
  spends_rest (Settles r q k m) l s = s

  seated : (l : List LogEntry) → SpendsWithin longest wide l → HaveSeats seats wide measure costs l → AreJudged (seats * longest) costs measure l
  seated [] s h = record { under = λ x. omega arith; over = λ x. omega arith; both = λ x p ne. omega arith }
  seated (x ∷ l) s h = (seats_judge (x ∷ l) s h.0, seated l (spends_rest x l s) h.1)

pub isolated_by_seats : (seats longest queues : ℕ) (wide measure : ℕ → ℕ) (costs : List ℕ) (hands : ℕ → List ℕ) (limit : ℕ) (stretch earlier : List LogEntry) (q other : ℕ)
    → ((r : ℕ) → width costs r ≤ wide r * longest) → ((r : ℕ) → measure r ≤ wide r * longest)
    → IsSettled queues costs hands limit (stretch ++ earlier) → AreMeasures measure (stretch ++ earlier)
    → SpendsWithin longest wide (stretch ++ earlier) → HaveSeats seats wide measure costs (stretch ++ earlier)
    → q < queues → other < queues
    → IsNeverEmptyIn (stretch ++ earlier) (length stretch) q
    → seat_time measure stretch other ≤ seat_time measure stretch q + 2 * widest costs + 3 * (seats * longest)
isolated_by_seats seats longest queues wide measure costs hands limit stretch earlier q other low short s m spends h lq lo never =
    isolated (seats * longest) queues costs measure hands limit stretch earlier q other s m
    (seated seats longest wide measure costs low short (stretch ++ earlier) spends h) lq lo never

-- a log in which nothing is settled
pub same_events : (h : List Event) → events (log_of h) ≡ h
same_events [] = refl
same_events (e ∷ h) = ap (λ (es : List Event). e ∷ es) (same_events h)

pub same_numbers : (queues : ℕ) (costs : List ℕ) (h : List Event) → charged_numbers queues costs (log_of h) ≡ numbers queues costs h
same_numbers queues costs [] = refl
same_numbers queues costs (e ∷ h) = ap (λ (es : List Event). after_event costs es e (charged_numbers queues costs (log_of h))) (same_events h)
    ∙ ap (after_event costs h e) (same_numbers queues costs h)

module _ (queues : ℕ) (costs : List ℕ) where
  choices : (h : List Event) → FollowsChoices queues costs (log_of h) → DispatchesChoices queues costs h
  choices [] d = d
  choices (Enter r q ∷ h) d = choices h d.1
  choices (Full r q ∷ h) d = choices h d.1
  choices (Strike r q ∷ h) d = choices h d.1
  choices (Dispatch r q ∷ h) d = (rw (same_events h, same_numbers queues costs h) at d.0, choices h d.1)

  follows : (h : List Event) → DispatchesChoices queues costs h → FollowsChoices queues costs (log_of h)
  follows [] d = d
  follows (Enter r q ∷ h) d = (tt, follows h d)
  follows (Full r q ∷ h) d = (tt, follows h d)
  follows (Strike r q ∷ h) d = (tt, follows h d)
  follows (Dispatch r q ∷ h) d = (rw (same_events h, same_numbers queues costs h) d.0, follows h d.1)

pub fair : (queues : ℕ) (costs : List ℕ) (hands : ℕ → List ℕ) (limit : ℕ) (h : List Event)
    → IsSettled queues costs hands limit (log_of h) → IsFair queues costs hands limit h
fair queues costs hands limit h s = (subst (IsLegal hands limit) (same_events h) s.0, choices queues costs h s.1)

pub settled : (queues : ℕ) (costs : List ℕ) (hands : ℕ → List ℕ) (limit : ℕ) (h : List Event)
    → IsFair queues costs hands limit h → IsSettled queues costs hands limit (log_of h)
settled queues costs hands limit h f = (subst (IsLegal hands limit) (sym (same_events h)) f.0, follows queues costs h f.1)

-- what is charged for those that execute is part of the number: settling takes none below 0
no_more : (queues : ℕ) (costs : List ℕ) (l : List LogEntry) (q : ℕ) → FollowsChoices queues costs l → charged costs l q ≤ (charged_numbers queues costs l).next q
no_more queues costs [] q d = omega arith
no_more queues costs (Happens (Enter r p) ∷ l) q d = let old = no_more queues costs l q d.1 in let more = next_enter_least (charged_numbers queues costs l) p q (waiting (events l) p) in omega arith
no_more queues costs (Happens (Full r p) ∷ l) q d = no_more queues costs l q d.1
no_more queues costs (Happens (Strike r p) ∷ l) q d = no_more queues costs l q d.1
no_more queues costs (Happens (Dispatch r p) ∷ l) q d =
    let old = no_more queues costs l q d.1 in let v = charged_numbers queues costs l in
    elim (cases_eq p q) [
      | inl same ↦ (let e = ap v.next same in let c = put_at v.next p (v.next p + width costs r) q (sym same) in let g = begun_here costs (λ x. x.charge) r p q (runs costs l q) same in omega arith)
      | inr other ↦ (let c = put_else v.next p (v.next p + width costs r) q (λ x. other (sym x)) in let g = begun_else costs (λ x. x.charge) r p q (runs costs l q) other in omega arith)
    ]
no_more queues costs (Spends r p k m ∷ l) q d =
    let old = no_more queues costs l q d.1 in let v = charged_numbers queues costs l in
    elim (cases_eq p q) [
      | inl same ↦ (let e = ap v.next same in let c = put_at v.next p (v.next p + m - k) q (sym same) in let g = spent_here costs (λ x. x.charge) r p k m l q same d.0 in omega arith)
      | inr other ↦ (let c = put_else v.next p (v.next p + m - k) q (λ x. other (sym x)) in let g = spent_else costs (λ x. x.charge) r p k m l q other in omega arith)
    ]
no_more queues costs (Settles r p k m ∷ l) q d =
    let old = no_more queues costs l q d.1 in let v = charged_numbers queues costs l in
    elim (cases_eq p q) [
      | inl same ↦ (let e = ap v.next same in let c = put_at v.next p (v.next p + m - k) q (sym same) in let g = settled_here costs (λ x. x.charge) r p k m l q same d.0 in omega arith)
      | inr other ↦ (let c = put_else v.next p (v.next p + m - k) q (λ x. other (sym x)) in let g = settled_else costs (λ x. x.charge) r p k m l q other in omega arith)
    ]

-- nor is what one of them is charged
one_of : (r k : ℕ) (xs : List Running) → IsAmong r k xs → k ≤ total (λ x. x.charge) xs
one_of r k xs is = let t = total_ended (λ x. x.charge) r k xs is in omega arith

pub covered : (queues : ℕ) (costs : List ℕ) (hands : ℕ → List ℕ) (limit : ℕ) (l : List LogEntry) (q r k : ℕ) → IsSettled queues costs hands limit l
    → IsAmong r k (runs costs l q) → k ≤ (charged_numbers queues costs l).next q
covered queues costs hands limit l q r k s is = let a = no_more queues costs l q s.1 in let b = one_of r k (runs costs l q) is in omega arith
