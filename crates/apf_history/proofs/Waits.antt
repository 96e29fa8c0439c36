-- What the queues are served while a request waits.
use Rattle.std.proofs.Common.{◌≡◌, ◌≢◌, ℕ, zero, suc, ◌+◌, ◌-◌, ◌*◌, ◌<◌, ◌≤◌, inl, inr, Bool, true, cond, not, eqb, List, [], ◌∷◌, ◌++◌, length, drop, Some, refl, sym, ap, suc-mul, ◌∙◌, subst, arith}
use Rattle.std.specs.Prelude.{Contains, slice_get}
use Rattle.std.proofs.lemmas.Bool.{cases_eq, eq-eqb, ne_eqb, false≢true, or_left, or_right}
use Rattle.std.proofs.lemmas.List.Elements.{Contains-push_cases}
use Rattle.apf_history.specs.declared.events.Event.{Event}
use Rattle.apf_history.specs.declared.events.Event.TheVariants.{Enter, Full, Dispatch, Strike}
use Rattle.apf_history.specs.Numbered.{width}
use Rattle.apf_history.specs.Tally.{tally}
use Rattle.apf_history.specs.History.{has_arrived, waiting, MayFollow, IsLegal}
use Rattle.apf_history.specs.Fair.{IsFair, service, IsNeverEmpty, widest}
use Rattle.apf_history.specs.Waits.{total_width, total_time, granted}
use Rattle.apf_history.specs.declared.events.LogEntry.{LogEntry}
use Rattle.apf_history.specs.declared.events.LogEntry.TheVariants.{Happens, Spends, Settles}
use Rattle.apf_history.specs.Charged.{events, given, seat_time}
use Rattle.apf_history.proofs.Lists.{without, Contains-none, Contains-cons_cases, Contains-without, first_split}
use Rattle.apf_history.proofs.Waiting.{IsLegal-append, waiting_dispatch, waiting_strike, waiting_else, waiting_enter, without_front}
use Rattle.apf_history.proofs.Balance.{IsFair-append, isolated}

-- what those take that stand before r, together
abbrev ahead : (ℕ → ℕ) → ℕ → List ℕ → ℕ
ahead f r [] = 0
ahead f r (x ∷ xs) = cond (eqb x r) 0 (f x + ahead f r xs)

-- what those take that are dispatched from q in a stretch
abbrev spent : (ℕ → ℕ) → List Event → ℕ → ℕ
spent f [] q = 0
spent f (e ∷ h) q = given f e q (spent f h q)

module _ (f : ℕ → ℕ) (r : ℕ) where
  ahead_here : (x : ℕ) (xs : List ℕ) → x ≡ r → ahead f r (x ∷ xs) ≡ 0
  ahead_here x xs same = ap (λ (b : Bool). cond b 0 (f x + ahead f r xs)) (eq-eqb x r same)

  ahead_there : (x : ℕ) (xs : List ℕ) → x ≢ r → ahead f r (x ∷ xs) ≡ f x + ahead f r xs
  ahead_there x xs other = ap (λ (b : Bool). cond b 0 (f x + ahead f r xs)) (ne_eqb x r other)

  -- one more behind r
  ahead_push : (xs : List ℕ) (y : ℕ) → Contains xs r → ahead f r (xs ++ y ∷ []) ≡ ahead f r xs
  ahead_push [] y c = absurd (Contains-none r c)
  ahead_push (x ∷ xs) y c = elim (cases_eq x r) [
    | inl same ↦ ahead_here x (xs ++ y ∷ []) same ∙ sym (ahead_here x xs same)
    | inr other ↦ elim (Contains-cons_cases x xs r c) [
      | inl e ↦ absurd (other e)
      | inr there ↦ (let a = ahead_there x (xs ++ y ∷ []) other in let b = ahead_there x xs other in let old = ahead_push xs y there in omega arith)
    ]
  ]

  -- another one fewer
  ahead_without : (j : ℕ) (xs : List ℕ) → j ≢ r → ahead f r (without j xs) ≤ ahead f r xs
  ahead_without j [] ne = omega arith
  ahead_without j (x ∷ xs) ne =
      let old = ahead_without j xs ne in
      elim (cases_eq j x) [
        | inl same ↦
            (let is = ap (λ (b : Bool). ahead f r (cond (not b) (x ∷ without j xs) (without j xs))) (eq-eqb j x same) in
            let here = ahead_there x xs (λ e. ne (same ∙ e)) in omega arith)
        | inr other ↦
            (let is = ap (λ (b : Bool). ahead f r (cond (not b) (x ∷ without j xs) (without j xs))) (ne_eqb j x other) in
            elim (cases_eq x r) [
              | inl e ↦ (let a = ahead_here x (without j xs) e in omega arith)
              | inr d ↦ (let a = ahead_there x (without j xs) d in let b = ahead_there x xs d in omega arith)
            ])
      ]

  -- who stands before the last
  ahead_last : (xs : List ℕ) → ahead f r (xs ++ r ∷ []) ≤ total_time f xs
  ahead_last [] = let a = ahead_here r [] refl in omega arith
  ahead_last (x ∷ xs) = elim (cases_eq x r) [
    | inl same ↦ (let a = ahead_here x (xs ++ r ∷ []) same in omega arith)
    | inr other ↦ (let a = ahead_there x (xs ++ r ∷ []) other in let old = ahead_last xs in omega arith)
  ]

-- who arrived has arrived ever after
pub arrived_later : (stretch h : List Event) (r : ℕ) → has_arrived h r ≡ true → has_arrived (stretch ++ h) r ≡ true
arrived_later [] h r arrived = arrived
arrived_later (Enter j q ∷ stretch) h r arrived = or_right (eqb j r) (has_arrived (stretch ++ h) r) (arrived_later stretch h r arrived)
arrived_later (Full j q ∷ stretch) h r arrived = or_right (eqb j r) (has_arrived (stretch ++ h) r) (arrived_later stretch h r arrived)
arrived_later (Dispatch j q ∷ stretch) h r arrived = arrived_later stretch h r arrived
arrived_later (Strike j q ∷ stretch) h r arrived = arrived_later stretch h r arrived

-- who is left where j was taken out is another
is_other : (xs ys : List ℕ) (j r : ℕ) → ys ≡ without j xs → Contains ys r → j ≢ r
is_other xs ys j r is c same = (Contains-without j xs r (subst (λ (zs : List ℕ). Contains zs r) is c)).1 (sym same)

is_left : (xs ys : List ℕ) (j r : ℕ) → ys ≡ without j xs → Contains ys r → Contains xs r
is_left xs ys j r is c = (Contains-without j xs r (subst (λ (zs : List ℕ). Contains zs r) is c)).0

module _ (hands : ℕ → List ℕ) (limit : ℕ) where
  -- who waits after an event, and had arrived, waited before it
  pub waited : (h : List Event) → IsLegal hands limit h → (e : Event) → MayFollow hands limit h e → (q r : ℕ) → has_arrived h r ≡ true → Contains (waiting (e ∷ h) q) r → Contains (waiting h q) r
  waited h l (Enter j p) m q r arrived c = elim (cases_eq p q) [
    | inl same ↦ elim (Contains-push_cases (waiting h p) j r (subst (λ (xs : List ℕ). Contains xs r) (waiting_enter hands limit h l j p m.0) (subst (λ (i : ℕ). Contains (waiting (Enter j p ∷ h) i) r) (sym same) c))) [
      | inl old ↦ subst (λ (i : ℕ). Contains (waiting h i) r) same old
      | inr new ↦ absurd (false≢true (sym m.0 ∙ (ap (has_arrived h) new ∙ arrived)))
    ]
    | inr other ↦ subst (λ (xs : List ℕ). Contains xs r) (waiting_else h j p q other) c
  ]
  waited h l (Full j p) m q r arrived c = c
  waited h l (Dispatch j p) m q r arrived c = is_left (waiting h q) (waiting (Dispatch j p ∷ h) q) j r (waiting_dispatch h j p q) c
  waited h l (Strike j p) m q r arrived c = is_left (waiting h q) (waiting (Strike j p ∷ h) q) j r (waiting_strike h j p q) c

  -- while a request waits, its queue is never empty
  never : (q r : ℕ) (stretch h : List Event) → IsLegal hands limit (stretch ++ h) → has_arrived h r ≡ true → Contains (waiting (stretch ++ h) q) r → IsNeverEmpty (stretch ++ h) (length stretch) q
  never q r stretch h l arrived c zero low = λ none. Contains-none r (subst (λ (xs : List ℕ). Contains xs r) none c)
  never q r [] h l arrived c (suc k) low = absurd (omega arith)
  never q r (e ∷ stretch) h l arrived c (suc k) low = never q r stretch h l.1 arrived (waited (stretch ++ h) l.1 e l.0 q r (arrived_later stretch h r arrived) c) k (omega arith)

  module _ (f : ℕ → ℕ) (q r : ℕ) where
    -- what one event serves of the queue comes out of those that stand before r
    served_by : (h : List Event) → IsLegal hands limit h → (e : Event) → MayFollow hands limit h e → Contains (waiting h q) r → Contains (waiting (e ∷ h) q) r
        → spent f (e ∷ []) q + ahead f r (waiting (e ∷ h) q) ≤ ahead f r (waiting h q)
    served_by h l (Enter j p) m was c = elim (cases_eq p q) [
      | inl same ↦
          (let is = ap (ahead f r) (subst (λ (i : ℕ). waiting (Enter j p ∷ h) i ≡ waiting h i ++ j ∷ []) same (waiting_enter hands limit h l j p m.0)) in
          let behind = ahead_push f r (waiting h q) j was in omega arith)
      | inr other ↦ (let is = ap (ahead f r) (waiting_else h j p q other) in omega arith)
    ]
    served_by h l (Full j p) m was c = omega arith
    served_by h l (Strike j p) m was c =
        let is = ap (ahead f r) (waiting_strike h j p q) in
        let fewer = ahead_without f r j (waiting h q) (is_other (waiting h q) (waiting (Strike j p ∷ h) q) j r (waiting_strike h j p q) c) in omega arith
    served_by h l (Dispatch j p) m was c =
        let other_request = is_other (waiting h q) (waiting (Dispatch j p ∷ h) q) j r (waiting_dispatch h j p q) c in
        elim (cases_eq p q) [
          | inl same ↦
              (let first = subst (λ (i : ℕ). slice_get (waiting h i) 0 ≡ Some j) same m in
              let before = ap (ahead f r) (first_split (waiting h q) j first) in
              let head = ahead_there f r j (drop 1 (waiting h q)) other_request in
              let after = ap (ahead f r) (waiting_dispatch h j p q ∙ without_front hands limit h l j q first) in
              let s : spent f (Dispatch j p ∷ []) q ≡ 0 + f j = ap (λ (b : Bool). cond b (0 + f j) 0) (eq-eqb p q same) in omega arith)
          | inr other ↦
              (let is = ap (ahead f r) (waiting_dispatch h j p q) in
              let fewer = ahead_without f r j (waiting h q) other_request in
              let s : spent f (Dispatch j p ∷ []) q ≡ 0 = ap (λ (b : Bool). cond b (0 + f j) 0) (ne_eqb p q other) in omega arith)
        ]

    -- what an event spends stands in front of the earlier
    spent_more : (e : Event) (stretch : List Event) → spent f (e ∷ stretch) q ≡ spent f (e ∷ []) q + spent f stretch q
    spent_more (Enter j p) stretch = omega arith
    spent_more (Full j p) stretch = omega arith
    spent_more (Strike j p) stretch = omega arith
    spent_more (Dispatch j p) stretch = elim (cases_eq p q) [
      | inl same ↦
          (let a : spent f (Dispatch j p ∷ stretch) q ≡ spent f stretch q + f j = ap (λ (b : Bool). cond b (spent f stretch q + f j) (spent f stretch q)) (eq-eqb p q same) in
          let b : spent f (Dispatch j p ∷ []) q ≡ 0 + f j = ap (λ (b : Bool). cond b (0 + f j) 0) (eq-eqb p q same) in omega arith)
      | inr other ↦
          (let a : spent f (Dispatch j p ∷ stretch) q ≡ spent f stretch q = ap (λ (b : Bool). cond b (spent f stretch q + f j) (spent f stretch q)) (ne_eqb p q other) in
          let b : spent f (Dispatch j p ∷ []) q ≡ 0 = ap (λ (b : Bool). cond b (0 + f j) 0) (ne_eqb p q other) in omega arith)
    ]

    -- what the queue is served while r waits comes out of those that stood before r
    served : (stretch h : List Event) → IsLegal hands limit (stretch ++ h) → has_arrived h r ≡ true → Contains (waiting (stretch ++ h) q) r
        → spent f stretch q + ahead f r (waiting (stretch ++ h) q) ≤ ahead f r (waiting h q)
    served [] h l arrived c = omega arith
    served (e ∷ stretch) h l arrived c =
        let was = waited (stretch ++ h) l.1 e l.0 q r (arrived_later stretch h r arrived) c in
        let old = served stretch h l.1 arrived was in
        let new = served_by (stretch ++ h) l.1 e l.0 was c in
        let more = spent_more e stretch in omega arith

-- a service is what is spent in widths, and a seat-time what is spent in measures
service_is : (widths : List ℕ) (q : ℕ) (h : List Event) → service widths h q ≡ spent (width widths) h q
service_is widths q [] = refl
service_is widths q (Enter j p ∷ h) = service_is widths q h
service_is widths q (Full j p ∷ h) = service_is widths q h
service_is widths q (Strike j p ∷ h) = service_is widths q h
service_is widths q (Dispatch j p ∷ h) = ap (λ (n : ℕ). given (width widths) (Dispatch j p) q n) (service_is widths q h)

pub seat_time_is : (measure : ℕ → ℕ) (q : ℕ) (l : List LogEntry) → seat_time measure l q ≡ spent measure (events l) q
seat_time_is measure q [] = refl
seat_time_is measure q (Happens e ∷ l) = ap (λ (n : ℕ). given measure e q n) (seat_time_is measure q l)
seat_time_is measure q (Spends j p old new ∷ l) = seat_time_is measure q l
seat_time_is measure q (Settles j p old new ∷ l) = seat_time_is measure q l

total_is : (widths xs : List ℕ) → total_width widths xs ≡ total_time (width widths) xs
total_is widths [] = refl
total_is widths (x ∷ xs) = ap (λ (n : ℕ). width widths x + n) (total_is widths xs)

-- the seats of this many numbers, each at most b
tally_most : (f : ℕ → ℕ) (n b : ℕ) → ((j : ℕ) → j < n → f j ≤ b) → tally f n ≤ n * b
tally_most f zero b most = omega arith
tally_most f (suc n) b most =
    let old = tally_most f n b (λ j low. most j (omega arith)) in
    let here = most n (omega arith) in
    let times = suc-mul n b in omega arith

-- and one of them at most a
tally_but_one : (f : ℕ → ℕ) (n q a b : ℕ) → q < suc n → f q ≤ a → ((j : ℕ) → j < suc n → f j ≤ b) → tally f (suc n) ≤ a + n * b
tally_but_one f zero q a b low one most = let same : q ≡ zero = omega arith in let is = ap f same in omega arith
tally_but_one f (suc n) q a b low one most = elim (cases_eq q (suc n)) [
  | inl same ↦ (let rest = tally_most f (suc n) b (λ j l. most j (omega arith)) in let is = ap f same in omega arith)
  | inr other ↦
      (let rest = tally_but_one f n q a b (omega arith) one (λ j l. most j (omega arith)) in
      let last = most (suc n) (omega arith) in
      let times = suc-mul n b in omega arith)
]

-- while a request waits, what its queue spends is at most what those take that stood before it
pub own_of : (f : ℕ → ℕ) (hands : ℕ → List ℕ) (limit : ℕ) (stretch earlier : List Event) (q r : ℕ) → IsLegal hands limit (stretch ++ Enter r q ∷ earlier) → Contains (waiting (stretch ++ Enter r q ∷ earlier) q) r
    → spent f stretch q ≤ total_time f (waiting earlier q)
own_of f hands limit stretch earlier q r legal waits =
    let entered : MayFollow hands limit earlier (Enter r q) × IsLegal hands limit earlier = IsLegal-append hands limit stretch (Enter r q ∷ earlier) legal in
    let start = ap (ahead f r) (waiting_enter hands limit earlier entered.1 r q entered.0.0) in
    let last = ahead_last f r (waiting earlier q) in
    let all = served hands limit f q r stretch (Enter r q ∷ earlier) legal (or_left (eqb r r) (has_arrived earlier r) (eq-eqb r r refl)) waits in omega arith

module _ (queues : ℕ) (widths : List ℕ) (hands : ℕ → List ℕ) (limit : ℕ) (later stretch earlier : List Event) (q r : ℕ)
    (fair : IsFair queues widths hands limit (later ++ (stretch ++ Enter r q ∷ earlier))) (waits : Contains (waiting (stretch ++ Enter r q ∷ earlier) q) r) where
  abbrev h : List Event
  h = Enter r q ∷ earlier

  legal : IsLegal hands limit (stretch ++ h)
  legal = (IsFair-append queues widths hands limit later (stretch ++ h) fair).0

  arrived : has_arrived h r ≡ true
  arrived = or_left (eqb r r) (has_arrived earlier r) (eq-eqb r r refl)

  -- its own queue is served at most those that stood before it
  pub own : service widths stretch q ≤ total_width widths (waiting earlier q)
  own =
      let all = own_of (width widths) hands limit stretch earlier q r legal waits in
      let is = service_is widths q stretch in
      let most = total_is widths (waiting earlier q) in omega arith

  -- and no other is served more than they and twice the largest width
  pub others : q < queues → (other : ℕ) → other < queues → service widths stretch other ≤ total_width widths (waiting earlier q) + 2 * widest widths
  others lq other lo =
      let mine = own in
      let apart = isolated queues widths hands limit later stretch h q other fair lq lo (never hands limit q r stretch h legal arrived waits) in omega arith

  pub all : q < queues → granted queues widths stretch ≤ total_width widths (waiting earlier q) + (queues - 1) * (total_width widths (waiting earlier q) + 2 * widest widths)
  all lq =
      let most : ℕ = total_width widths (waiting earlier q) + 2 * widest widths in
      let rest : suc (queues - 1) ≡ queues = omega arith in
      subst (λ (n : ℕ). tally (service widths stretch) n ≤ total_width widths (waiting earlier q) + (queues - 1) * most) rest
      (tally_but_one (service widths stretch) (queues - 1) q (total_width widths (waiting earlier q)) most (omega arith) own (λ j l. others lq j (omega arith)))
