-- The finishes of the queues stay as the other fields say.
use Rattle.std.proofs.Common.{◌≡◌, ◌≢◌, ℕ, ◌+◌, ◌-◌, ◌^◌, ◌<◌, ◌≤◌, inl, inr, List, [], ◌∷◌, ◌++◌, length, get_or, set, length-set, get_or-set_same, get_or-set_other, Option, None, Some, refl, sym, ap, ◌∙◌, subst, arith}
use Rattle.std.specs.Prelude.{slice_get, replicate, Contains, ◌⊎◌, ◌↔◌, IfNone, IfSome, MatchOption}
use Rattle.std.proofs.lemmas.Bool.{cases_eq, cases_lt}
use Rattle.std.proofs.lemmas.List.{get_or_past, length-replicate}
use Rattle.apf_model.specs.World.{width}
use Rattle.apf_model.specs.Fair.{Numbers, after_enter, after_dispatch, finish, steps_round, IsChoice}
use Rattle.apf_model.specs.Charged.{after_charge}
use Rattle.apf_least.specs.Least.{no_number, IsReachedBy, IsFirstLeastFrom}
use Rattle.apf_queue.specs.RingsView.{RingsView, ring}
use Rattle.apf_queue.specs.TimeView.{TimeView, numbers_of}
use Rattle.apf_queue.specs.Consistent.{AreConsistent, finish_with, finish_at, AreFinishes, AreKept}
use Rattle.apf_queue.proofs.Places.{first_contains}
use Rattle.apf_queue.proofs.Consistency.{put_other, with_queue, with_request, with_queue_here, with_queue_else, empties}

cases_empty : (xs : List ℕ) → (xs ≡ []) ⊎ (xs ≢ [])
cases_empty [] = inl refl
cases_empty (x ∷ xs) = inr (λ e. (let n = ap length e in absurd (omega arith)))

-- the finish of a queue depends on its first request, that one's cost, and its number
same_finish : (costs costs' : List ℕ) (n n' : ℕ) (first first' : Option ℕ) → first' ≡ first → n' ≡ n → ((r : ℕ) → first ≡ Some r → width costs' r ≡ width costs r)
    → finish_with costs' n' first' ≡ finish_with costs n first
same_finish costs costs' n n' None first' e number same = ap (finish_with costs' n') e
same_finish costs costs' n n' (Some r) first' e number same = ap (finish_with costs' n') e ∙ (let a = same r refl in omega arith)

-- the finish of one queue is set, and no other queue's changed
set_finishes : (rings rings' : RingsView) (time time' : TimeView) (finishes : List ℕ) (q : ℕ) → AreFinishes rings time finishes
    → q < length rings.queues → length rings'.queues ≡ length rings.queues
    → ((p : ℕ) → p ≢ q → finish_at rings' time' p ≡ finish_at rings time p)
    → AreFinishes rings' time' (set finishes q (finish_at rings' time' q))
set_finishes rings rings' time time' finishes q old is_queue queues others =
    let n = length-set finishes q (finish_at rings' time' q) in
    let room = old.room in
    record {
      room = omega arith;
      each = λ p below. elim (cases_eq p q) [
        | inl e ↦ subst (λ (i : ℕ). get_or (set finishes q (finish_at rings' time' q)) i 0 ≡ finish_at rings' time' i) (sym e) (get_or-set_same finishes q (finish_at rings' time' q) 0 (omega arith))
        | inr ne ↦ get_or-set_other finishes q p (finish_at rings' time' q) 0 ne ∙ old.each p (omega arith) ∙ sym (others p ne)
      ];
    }

enter_other : (q : ℕ) (held : List ℕ) (v : Numbers) (p : ℕ) → p ≢ q → (after_enter q held v).next p ≡ v.next p
enter_other q [] v p ne = put_other v.next q _ p ne
enter_other q (x ∷ xs) v p ne = refl

-- no sum of a queue's number and a cost is large
pub small_sum : (rings : RingsView) (time : TimeView) (limit : ℕ) → AreConsistent rings time limit
    → (q r : ℕ) → get_or time.next q 0 + width rings.costs r < 2 ^ 128 - 1
small_sum rings time limit kept q r = let a = kept.next_within q in let b = kept.low r in omega arith

-- a request that stands in no queue is pushed
pub push_finishes : (rings : RingsView) (time time' : TimeView) (finishes : List ℕ) (limit q r k : ℕ) → AreKept rings time finishes limit
    → q < length rings.queues → ((p : ℕ) → Contains (ring rings p) r → ⊥) → numbers_of time' ≡ after_enter q (ring rings q) (numbers_of time)
    → AreFinishes (with_request rings q r k) time' (set finishes q (finish_at (with_request rings q r k) time' q))
push_finishes rings time time' finishes limit q r k kept is_queue nowhere numbers =
    set_finishes rings (with_request rings q r k) time time' finishes q kept.finishes_are is_queue (length-set rings.queues q (ring rings q ++ r ∷ []))
    (λ p ne. same_finish rings.costs (set rings.costs r k) (get_or time.next p 0) (get_or time'.next p 0) (slice_get (ring rings p) 0)
    (slice_get (ring (with_request rings q r k) p) 0) (ap (λ (xs : List ℕ). slice_get xs 0) (with_queue_else rings q (ring rings q ++ r ∷ []) p ne))
    (ap (λ (v : Numbers). v.next p) numbers ∙ enter_other q (ring rings q) (numbers_of time) p ne)
    (λ x first. get_or-set_other rings.costs r x k 0 (λ same. nowhere p (subst (λ (i : ℕ). Contains (ring rings p) i) same (first_contains (ring rings p) x first)))))

busy_number : (q : ℕ) (held : List ℕ) (v : Numbers) → held ≢ [] → after_enter q held v ≡ v
busy_number q [] v some = absurd (some refl)
busy_number q (x ∷ xs) v some = refl

busy_first : (xs : List ℕ) (r : ℕ) → xs ≢ [] → slice_get (xs ++ r ∷ []) 0 ≡ slice_get xs 0
busy_first [] r some = absurd (some refl)
busy_first (x ∷ xs) r some = refl

-- behind others, it leaves each finish as it was
pub busy_finishes : (rings : RingsView) (time time' : TimeView) (finishes : List ℕ) (limit q r k : ℕ) → AreKept rings time finishes limit
    → q < length rings.queues → ring rings q ≢ [] → ((p : ℕ) → Contains (ring rings p) r → ⊥) → numbers_of time' ≡ after_enter q (ring rings q) (numbers_of time)
    → AreFinishes (with_request rings q r k) time' finishes
busy_finishes rings time time' finishes limit q r k kept is_queue some nowhere numbers =
    let first : (p : ℕ) → slice_get (ring (with_request rings q r k) p) 0 ≡ slice_get (ring rings p) 0 = λ (p : ℕ). elim (cases_eq p q) [
      | inl e ↦ ap (λ i. slice_get (ring (with_request rings q r k) i) 0) e ∙ ap (λ (xs : List ℕ). slice_get xs 0) (with_queue_here rings q (ring rings q ++ r ∷ []) is_queue)
          ∙ busy_first (ring rings q) r some ∙ ap (λ i. slice_get (ring rings i) 0) (sym e)
      | inr ne ↦ ap (λ (xs : List ℕ). slice_get xs 0) (with_queue_else rings q (ring rings q ++ r ∷ []) p ne)
    ] in
    let queues = length-set rings.queues q (ring rings q ++ r ∷ []) in
    record {
      room = (let a = kept.finishes_are.room in omega arith);
      each = λ p below. kept.finishes_are.each p below ∙ sym (same_finish rings.costs (set rings.costs r k) (get_or time.next p 0) (get_or time'.next p 0)
          (slice_get (ring rings p) 0) (slice_get (ring (with_request rings q r k) p) 0) (first p)
          (ap (λ (v : Numbers). v.next p) (numbers ∙ busy_number q (ring rings q) (numbers_of time) some))
          (λ x head. get_or-set_other rings.costs r x k 0 (λ same. nowhere p (subst (λ (i : ℕ). Contains (ring rings p) i) same (first_contains (ring rings p) x head)))));
    }

-- a request leaves its queue, and no other queue's number changes
pub left_finishes : (rings : RingsView) (time time' : TimeView) (finishes : List ℕ) (limit q : ℕ) (left : List ℕ) → AreKept rings time finishes limit
    → q < length rings.queues → ((p : ℕ) → p ≢ q → get_or time'.next p 0 ≡ get_or time.next p 0)
    → AreFinishes (with_queue rings q left) time' (set finishes q (finish_at (with_queue rings q left) time' q))
left_finishes rings time time' finishes limit q left kept is_queue numbers =
    set_finishes rings (with_queue rings q left) time time' finishes q kept.finishes_are is_queue (length-set rings.queues q left)
    (λ p ne. same_finish rings.costs rings.costs (get_or time.next p 0) (get_or time'.next p 0) (slice_get (ring rings p) 0)
    (slice_get (ring (with_queue rings q left) p) 0) (ap (λ (xs : List ℕ). slice_get xs 0) (with_queue_else rings q left p ne)) (numbers p ne) (λ x first. refl))

-- a dispatch changes one number
pub dispatch_other : (time time' : TimeView) (q k : ℕ) → numbers_of time' ≡ after_dispatch q k (numbers_of time) → (p : ℕ) → p ≢ q → get_or time'.next p 0 ≡ get_or time.next p 0
dispatch_other time time' q k numbers p ne = ap (λ (v : Numbers). v.next p) numbers ∙ put_other (numbers_of time).next q _ p ne

-- a settlement changes one number, and one finish
pub settle_finishes : (rings : RingsView) (time time' : TimeView) (finishes : List ℕ) (limit q k m : ℕ) → AreKept rings time finishes limit
    → q < length rings.queues → numbers_of time' ≡ after_charge q k m (numbers_of time)
    → AreFinishes rings time' (set finishes q (finish_at rings time' q))
settle_finishes rings time time' finishes limit q k m kept is_queue numbers =
    set_finishes rings rings time time' finishes q kept.finishes_are is_queue refl
    (λ p ne. same_finish rings.costs rings.costs (get_or time.next p 0) (get_or time'.next p 0) (slice_get (ring rings p) 0) (slice_get (ring rings p) 0) refl
    (ap (λ (v : Numbers). v.next p) numbers ∙ put_other (numbers_of time).next q _ p ne) (λ x first. refl))

finish_some : (costs : List ℕ) (n : ℕ) (requests : List ℕ) → requests ≢ [] → finish_with costs n (slice_get requests 0) ≡ n + width costs (get_or requests 0 0)
finish_some costs n [] some = absurd (some refl)
finish_some costs n (r ∷ requests) some = refl

module _ (rings : RingsView) (time : TimeView) (finishes : List ℕ) (limit : ℕ) (kept : AreKept rings time finishes limit) where
  queue_finish : (q : ℕ) → q < length rings.queues → ring rings q ≢ [] → get_or finishes q 0 ≡ finish rings.costs (ring rings) (numbers_of time) q
  queue_finish q is_queue some = kept.finishes_are.each q (let a = kept.finishes_are.room in omega arith) ∙ finish_some rings.costs (get_or time.next q 0) (ring rings q) some

  small_finish : (q : ℕ) → q < length rings.queues → ring rings q ≢ [] → get_or finishes q 0 < no_number
  small_finish q is_queue some = let a = queue_finish q is_queue some in let b = small_sum rings time limit kept.consistent q (get_or (ring rings q) 0 0) in omega arith

  -- a queue with a finish is one in which someone waits
  waited_in : (q : ℕ) → q < length finishes → get_or finishes q 0 < no_number → ring rings q ≢ []
  waited_in q below finish none =
      let a = kept.finishes_are.each q below in
      let b = ap (λ (xs : List ℕ). finish_with rings.costs (get_or time.next q 0) (slice_get xs 0)) none in
      absurd (omega arith)

  some_queue : (q : ℕ) → ring rings q ≢ [] → q < length rings.queues
  some_queue q some = elim (cases_lt q (length rings.queues)) [ inl l ↦ l | inr past ↦ absurd (some (get_or_past rings.queues q [] past)) ]

  pub nothing_waits : ((q : ℕ) → q < length finishes → no_number ≤ get_or finishes q 0) → (q : ℕ) → q < length rings.queues → ring rings q ≡ []
  nothing_waits none q is_queue = elim (cases_empty (ring rings q)) [
    | inl e ↦ e
    | inr some ↦
        let a = small_finish q is_queue some in
        let b = none q (let r = kept.finishes_are.room in omega arith) in
        absurd (omega arith)
  ]

  -- the first queue of least finish is the choice
  pub first_is_choice : (from q : ℕ) → IsFirstLeastFrom finishes from q
      → ((x p : ℕ) → x < length rings.queues → p < length rings.queues → IsReachedBy from x p → steps_round (length rings.queues) time.robin x ≤ steps_round (length rings.queues) time.robin p)
      → IsChoice (length rings.queues) rings.costs (ring rings) (numbers_of time) q
  first_is_choice from q first round =
      let some = waited_in q first.is_place first.is_number in
      let is_queue = some_queue q some in
      let room = kept.finishes_are.room in
      let here = queue_finish q is_queue some in
      record {
        is_queue = is_queue;
        is_waited_in = some;
        has_least_finish = λ p below waits. (let a = queue_finish p below waits in let b = first.least p (omega arith) in omega arith);
        is_reached_first = λ p below waits same. round q p is_queue below (first.first p (omega arith) (let a = queue_finish p below waits in omega arith));
      }

  -- what the search of the tree answers is the choice
  pub choice_found : (queues robin from : ℕ) (o : Option ℕ) → queues ≡ length rings.queues → robin ≡ time.robin
      → ((x p : ℕ) → x < queues → p < queues → IsReachedBy from x p → steps_round queues robin x ≤ steps_round queues robin p)
      → IfNone o ((q : ℕ) → q < length finishes → no_number ≤ get_or finishes q 0) → IfSome o (IsFirstLeastFrom finishes from)
      → MatchOption o ((q : ℕ) → q < length rings.queues → ring rings q ≡ []) (IsChoice (length rings.queues) rings.costs (ring rings) (numbers_of time))
  choice_found queues robin from None e f round none some = nothing_waits none
  choice_found queues robin from (Some q) e f round none some =
      first_is_choice from q some
      (subst (λ (n : ℕ). (x p : ℕ) → x < n → p < n → IsReachedBy from x p → steps_round n time.robin x ≤ steps_round n time.robin p) e
      (subst (λ (n : ℕ). (x p : ℕ) → x < queues → p < queues → IsReachedBy from x p → steps_round queues n x ≤ steps_round queues n p) f round))

-- queues in which nothing ever was
pub opening_finishes : (queues requests : ℕ) (costs : List ℕ) (time : TimeView) (finishes : List ℕ) → queues ≤ length finishes
    → ((q : ℕ) → q < length finishes → get_or finishes q 0 ≡ no_number)
    → AreFinishes (record { queues = replicate queues []; costs = costs; requests = requests }) time finishes
opening_finishes queues requests costs time finishes room empty =
    record {
      room = (let a : length (replicate {A = List ℕ} queues []) ≡ queues = length-replicate queues [] in omega arith);
      each = λ q below. empty q below ∙ sym (ap (λ (xs : List ℕ). finish_with costs (get_or time.next q 0) (slice_get xs 0)) (empties queues q));
    }

-- a request that no queue is recorded for stands in none
pub stands_nowhere : (o : Option ℕ) (r : ℕ) (queues : List (List ℕ)) → ((q : ℕ) → (o ≡ Some q) ↔ Contains (get_or queues q []) r)
    → IfNone o ((q : ℕ) → Contains (get_or queues q []) r → ⊥)
stands_nowhere None r queues stands = λ q c. (let e : ◌≡◌ {A = Option ℕ} None (Some q) = (stands q).1 c in cc)
stands_nowhere (Some p) r queues stands = tt
