-- How large the numbers of virtual time can be.
use Rattle.std.proofs.Common.{◌≡◌, ◌≢◌, ℕ, zero, suc, ◌+◌, ◌-◌, ◌*◌, ◌^◌, ◌<◌, ◌≤◌, ◌++◌, not, inl, inr, Bool, List, [], ◌∷◌, length, refl, ap, ◌∙◌, subst, sym, arith}
use Rattle.std.specs.Prelude.{max, count_by, slice_index, filter, if◌then◌else◌}
use Rattle.std.proofs.lemmas.Bool.{cases_eq, cases_lt, ne_eqb}
use Rattle.apf_words.specs.Limits.{max_cost}
use Rattle.apf_history.specs.declared.events.Event.{Event}
use Rattle.apf_history.specs.declared.events.Event.TheVariants.{Enter, Full, Dispatch, Strike}
use Rattle.apf_history.specs.Tally.{tally}
use Rattle.apf_model.specs.World.{put, width}
use Rattle.apf_model.specs.History.{NamesQueues, entered, has_left, waiting}
use Rattle.apf_model.specs.Outcome.{is_enter, is_full, is_dispatch, is_strike, stats_of}
use Rattle.apf_model.specs.Fair.{Numbers, after_enter, after_dispatch, numbers, widest}
use Rattle.apf_model.specs.Charged.{after_charge}
use Rattle.apf_book.specs.LedgerView.{LedgerView, hand_in, IsLogOf, AreSmall}
use Rattle.apf_book.specs.Life.{AreWithin, life_most}
use Rattle.apf_book.specs.Histories.{Laws}
use Rattle.apf_book.proofs.Puts.{put_here, put_else}
use Rattle.apf_book.proofs.Running.{count}

put_within : (f : ℕ → ℕ) (p x most : ℕ) → ((q : ℕ) → f q ≤ most) → x ≤ most → (q : ℕ) → put f p x q ≤ most
put_within f p x most h l q = elim (cases_eq q p) [
  | inl e ↦ let a : put f p x q ≡ put f p x p = ap (put f p x) e in let b = put_here f p x in omega arith
  | inr other ↦ let a = put_else f p x q other in let b = h q in omega arith
]

enter_within : (q : ℕ) (queue : List ℕ) (v : Numbers) (most : ℕ) → AreWithin most v → AreWithin most (after_enter q queue v)
enter_within q [] v most b = record { next = put_within v.next q (max (v.next q) v.virtual_time) most b.next (let c = b.next q in let d = b.virtual_time in omega arith); virtual_time = b.virtual_time }
enter_within q (r ∷ rs) v most b = b

-- each dispatch adds one cost at most, and nothing else adds any: so it is with any number of requests, and over any history
pub numbers_within : (queues : ℕ) (costs : List ℕ) (most : ℕ) → ((r : ℕ) → width costs r ≤ most) → (h : List Event) → AreWithin (count_by is_dispatch h * most) (numbers queues costs h)
numbers_within queues costs most low [] = record { next = λ q. omega arith; virtual_time = omega arith }
numbers_within queues costs most low (Enter r q ∷ h) =
    let k = count is_dispatch (Enter r q) h in
    let same : count_by is_dispatch (Enter r q ∷ h) ≡ count_by is_dispatch h = omega arith in
    subst (λ (n : ℕ). AreWithin (n * most) (numbers queues costs (Enter r q ∷ h))) (sym same) (enter_within q (waiting h q) (numbers queues costs h) (count_by is_dispatch h * most) (numbers_within queues costs most low h))
numbers_within queues costs most low (Full r q ∷ h) =
    let k = count is_dispatch (Full r q) h in
    let same : count_by is_dispatch (Full r q ∷ h) ≡ count_by is_dispatch h = omega arith in
    subst (λ (n : ℕ). AreWithin (n * most) (numbers queues costs h)) (sym same) (numbers_within queues costs most low h)
numbers_within queues costs most low (Dispatch r q ∷ h) =
    let before = numbers_within queues costs most low h in
    let now = before.virtual_time in let from = before.next q in let cost = low r in
    let k = count is_dispatch (Dispatch r q) h in
    let same : count_by is_dispatch (Dispatch r q ∷ h) ≡ suc (count_by is_dispatch h) = omega arith in
    let more : suc (count_by is_dispatch h) * most ≡ count_by is_dispatch h * most + most = omega arith in
    subst (λ (n : ℕ). AreWithin (n * most) (numbers queues costs (Dispatch r q ∷ h))) (sym same) (record {
      next = put_within (numbers queues costs h).next q ((numbers queues costs h).next q + width costs r) (suc (count_by is_dispatch h) * most) (λ p. (let d = before.next p in omega arith)) (omega arith);
      virtual_time = omega arith;
    })
numbers_within queues costs most low (Strike r q ∷ h) =
    let k = count is_dispatch (Strike r q) h in
    let same : count_by is_dispatch (Strike r q ∷ h) ≡ count_by is_dispatch h = omega arith in
    subst (λ (n : ℕ). AreWithin (n * most) (numbers queues costs h)) (sym same) (numbers_within queues costs most low h)

-- what each entry makes of the bound
pub life_enter_within : (h : List Event) (r q : ℕ) (queue : List ℕ) (v w : Numbers) → AreWithin (life_most h) v → w ≡ after_enter q queue v → AreWithin (life_most (Enter r q ∷ h)) w
life_enter_within h r q queue v w b is =
    let k = count is_dispatch (Enter r q) h in
    let same : count_by is_dispatch (Enter r q ∷ h) ≡ count_by is_dispatch h = omega arith in
    subst (λ (x : Numbers). AreWithin (life_most (Enter r q ∷ h)) x) (sym is)
    (subst (λ (n : ℕ). AreWithin (n * max_cost + (2 ^ 126 + 2 ^ 46)) (after_enter q queue v)) (sym same) (enter_within q queue v (life_most h) b))

pub life_else_within : (h : List Event) (e : Event) (v : Numbers) → AreWithin (life_most h) v → AreWithin (life_most (e ∷ h)) v
life_else_within h e v b =
    let k = count is_dispatch e h in
    record { next = λ q. (let n = b.next q in omega arith); virtual_time = (let n = b.virtual_time in omega arith) }

pub life_dispatch_within : (h : List Event) (r q cost : ℕ) (v w : Numbers) → cost ≤ max_cost → AreWithin (life_most h) v → w ≡ after_dispatch q cost v → AreWithin (life_most (Dispatch r q ∷ h)) w
life_dispatch_within h r q cost v w low b is =
    let k = count is_dispatch (Dispatch r q) h in
    let same : count_by is_dispatch (Dispatch r q ∷ h) ≡ suc (count_by is_dispatch h) = omega arith in
    let now = b.virtual_time in let from = b.next q in
    subst (λ (x : Numbers). AreWithin (life_most (Dispatch r q ∷ h)) x) (sym is) (record {
      next = put_within v.next q (v.next q + cost) (life_most (Dispatch r q ∷ h)) (λ p. (let d = b.next p in omega arith)) (omega arith);
      virtual_time = omega arith;
    })

pub life_charge_within : (h : List Event) (q old new : ℕ) (v w : Numbers) → v.next q ≤ 2 ^ 126 → new ≤ 2 ^ 46 → AreWithin (life_most h) v → w ≡ after_charge q old new v → AreWithin (life_most h) w
life_charge_within h q old new v w early low b is =
    subst (λ (x : Numbers). AreWithin (life_most h) x) (sym is) (record {
      next = put_within v.next q (v.next q + new - old) (life_most h) b.next (omega arith);
      virtual_time = b.virtual_time;
    })

-- each event is of one kind
kinds : (h : List Event) → count_by is_enter h + count_by is_full h + count_by is_dispatch h + count_by is_strike h ≡ length h
kinds [] = omega arith
kinds (Enter r q ∷ h) =
    let a = count is_enter (Enter r q) h in let b = count is_full (Enter r q) h in let c = count is_dispatch (Enter r q) h in let d = count is_strike (Enter r q) h in let k = kinds h in omega arith
kinds (Full r q ∷ h) =
    let a = count is_enter (Full r q) h in let b = count is_full (Full r q) h in let c = count is_dispatch (Full r q) h in let d = count is_strike (Full r q) h in let k = kinds h in omega arith
kinds (Dispatch r q ∷ h) =
    let a = count is_enter (Dispatch r q) h in let b = count is_full (Dispatch r q) h in let c = count is_dispatch (Dispatch r q) h in let d = count is_strike (Dispatch r q) h in let k = kinds h in omega arith
kinds (Strike r q ∷ h) =
    let a = count is_enter (Strike r q) h in let b = count is_full (Strike r q) h in let c = count is_dispatch (Strike r q) h in let d = count is_strike (Strike r q) h in let k = kinds h in omega arith

in_tally : (f : ℕ → ℕ) (n i : ℕ) → i < n → f i ≤ tally f n
in_tally f zero i l = absurd (omega arith)
in_tally f (suc n) i l = elim (cases_eq i n) [
  | inl e ↦ let a = ap f e in omega arith
  | inr ne ↦ let a = in_tally f n i (omega arith) in omega arith
]

some_length : (xs : List ℕ) → xs ≢ [] → 1 ≤ length xs
some_length [] some = absurd (some refl)
some_length (x ∷ xs) some = omega arith

-- no cost is above the largest, and that is no more than what bounds them all
cost_within : (costs : List ℕ) (r : ℕ) → width costs r ≤ widest costs
cost_within [] r = omega arith
cost_within (k ∷ ks) zero = omega arith
cost_within (k ∷ ks) (suc r) = let l = cost_within ks r in omega arith

widest_within : (costs : List ℕ) (most : ℕ) → ((r : ℕ) → r < length costs → width costs r ≤ most) → widest costs ≤ most
widest_within [] most low = omega arith
widest_within (k ∷ ks) most low = let first = low 0 (omega arith) in let l = widest_within ks most (λ r inside. low (suc r) (omega arith)) in omega arith

times_le : (n m k : ℕ) → n ≤ m → n * k ≤ m * k
times_le n m zero l = omega arith
times_le n m (suc k) l = let b = times_le n m k l in omega arith

-- nobody enters a queue that no event names
nobody_there : (deck : ℕ) (h : List Event) → NamesQueues deck h → (q : ℕ) → deck ≤ q → entered h q ≡ []
nobody_there deck [] names q past = refl
nobody_there deck (Enter r p ∷ h) names q past =
    ap (λ (b : Bool). if b then entered h q ++ r ∷ [] else entered h q) (ne_eqb p q (λ e. (let low = names.0 in omega arith))) ∙ nobody_there deck h names.1 q past
nobody_there deck (Full r p ∷ h) names q past = nobody_there deck h names.1 q past
nobody_there deck (Dispatch r p ∷ h) names q past = nobody_there deck h names.1 q past
nobody_there deck (Strike r p ∷ h) names q past = nobody_there deck h names.1 q past

module _ (laws : Laws) (v : LedgerView) (is : IsLogOf v) where
  -- there are two events of each request that was dispatched, and one of each that waits
  few_dispatched : 2 * count_by is_dispatch v.history + (stats_of v.sizes.deck v.history).waiting ≤ 2 * length v.costs
  few_dispatched =
      let all = laws.numbers (hand_in v) v.limit v.history is.fair.0 in
      let two = all.of_requests (length v.costs) is.names_requests in
      let sum = all.of_queues v.sizes.deck is.names_queues in
      let k = kinds v.history in
      omega arith

  low : widest v.costs ≤ max_cost
  low = widest_within v.costs max_cost (λ r l. (is.costs r l).1)

  times : AreWithin (count_by is_dispatch v.history * widest v.costs) (numbers v.sizes.deck v.costs v.history)
  times = numbers_within v.sizes.deck v.costs (widest v.costs) (cost_within v.costs) v.history

  -- at most this many were dispatched
  few_times : (n m : ℕ) → n ≤ m → n * widest v.costs ≤ m * widest v.costs
  few_times n m l = times_le n m (widest v.costs) l

  -- who waits is counted
  some_waits : (q : ℕ) → waiting v.history q ≢ [] → 1 ≤ (stats_of v.sizes.deck v.history).waiting
  some_waits q some = elim (cases_lt q v.sizes.deck) [
    | inl l ↦ let a = in_tally (λ p. length (waiting v.history p)) v.sizes.deck q l in let b = some_length (waiting v.history q) some in omega arith
    | inr past ↦ absurd (some (ap (filter (λ (r : ℕ). not (has_left v.history r))) (nobody_there v.sizes.deck v.history is.names_queues q past)))
  ]

  pub small : AreSmall v
  small =
      let t = times in let d = few_dispatched in let k = is.few in
      record {
        next = λ q. (let b = t.next q in let l = few_times (count_by is_dispatch v.history) 10000 (omega arith) in omega arith);
        virtual_time = (let b = t.virtual_time in let l = few_times (count_by is_dispatch v.history) 10000 (omega arith) in omega arith);
        finish = λ q some. (let b = t.next q in let one = some_waits q some in let cost = cost_within v.costs (slice_index (waiting v.history q) 0) in
            let l = few_times (suc (count_by is_dispatch v.history)) 10000 (omega arith) in
            let more : suc (count_by is_dispatch v.history) * widest v.costs ≡ count_by is_dispatch v.history * widest v.costs + widest v.costs = omega arith in omega arith);
      }
