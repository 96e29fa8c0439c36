-- The fields of the queues stay consistent.
use Rattle.std.proofs.Common.{◌≡◌, ◌≢◌, ℕ, zero, suc, ◌+◌, ◌-◌, ◌<◌, ◌≤◌, inl, inr, Bool, cond, List, [], ◌∷◌, ◌++◌, length, get_or, set, length-set, get_or-set_same, get_or-set_other, refl, sym, ap, ◌∙◌, subst, arith}
use Rattle.std.specs.Prelude.{Contains, max, replicate}
use Rattle.std.proofs.lemmas.Bool.{cases_eq, cases_lt, eq-eqb, ne_eqb}
use Rattle.std.proofs.lemmas.List.{length_push, get_or_past, length-replicate}
use Rattle.std.proofs.lemmas.List.Elements.{Contains-push_cases}
use Rattle.apf_words.specs.Limits.{max_cost}
use Rattle.apf_model.specs.World.{put, width}
use Rattle.apf_model.specs.Fair.{Numbers, after_enter, after_dispatch}
use Rattle.apf_queue.specs.RingsView.{RingsView, ring, without}
use Rattle.apf_queue.specs.TimeView.{TimeView, numbers_of}
use Rattle.apf_model.specs.Charged.{after_charge}
use Rattle.apf_queue.specs.View.{IsQueueShape, latest_time, max_charge}
use Rattle.apf_queue.specs.Consistent.{AreConsistent}
use Rattle.apf_queue.proofs.Places.{split_at, length-out, Contains-without}

put_same : {A : Type 0} (f : ℕ → A) (p : ℕ) (x : A) → put f p x p ≡ x
put_same f p x = ap (λ (b : Bool). cond b x (f p)) (eq-eqb p p refl)

pub put_other : {A : Type 0} (f : ℕ → A) (p : ℕ) (x : A) (q : ℕ) → q ≢ p → put f p x q ≡ f q
put_other f p x q ne = ap (λ (b : Bool). cond b x (f q)) (ne_eqb q p ne)

-- a queue's number after a put is bounded as the others are
put_bounded : (f : ℕ → ℕ) (q x most : ℕ) → ((p : ℕ) → f p ≤ most) → x ≤ most → (p : ℕ) → put f q x p ≤ most
put_bounded f q x most h l p = elim (cases_eq p q) [
  | inl e ↦ subst (λ (n : ℕ). n ≤ most) (sym (ap (put f q x) e ∙ put_same f q x)) l
  | inr ne ↦ subst (λ (n : ℕ). n ≤ most) (sym (put_other f q x p ne)) (h p)
]

enter_bounded : (q : ℕ) (held : List ℕ) (v : Numbers) (most : ℕ) → ((p : ℕ) → v.next p ≤ most) → v.virtual_time ≤ most → (p : ℕ) → (after_enter q held v).next p ≤ most
enter_bounded q [] v most h l p = put_bounded v.next q (max (v.next q) v.virtual_time) most h (let a = h q in omega arith) p
enter_bounded q (x ∷ xs) v most h l p = h p

enter_time : (q : ℕ) (held : List ℕ) (v : Numbers) → (after_enter q held v).virtual_time ≡ v.virtual_time
enter_time q [] v = refl
enter_time q (x ∷ xs) v = refl

enter_robin : (q : ℕ) (held : List ℕ) (v : Numbers) → (after_enter q held v).robin ≡ v.robin
enter_robin q [] v = refl
enter_robin q (x ∷ xs) v = refl

-- the rings with other requests in a queue
abbrev pub with_queue : RingsView → ℕ → List ℕ → RingsView
with_queue rings q xs = record { queues = set rings.queues q xs; costs = rings.costs; requests = rings.requests }

-- the rings with a request at the end of a queue, whose dispatch is charged this
abbrev pub with_request : RingsView → ℕ → ℕ → ℕ → RingsView
with_request rings q r k = record { queues = set rings.queues q (ring rings q ++ r ∷ []); costs = set rings.costs r k; requests = rings.requests }

pub with_queue_here : (rings : RingsView) (q : ℕ) (xs : List ℕ) → q < length rings.queues → ring (with_queue rings q xs) q ≡ xs
with_queue_here rings q xs l = get_or-set_same rings.queues q xs [] l

pub with_queue_else : (rings : RingsView) (q : ℕ) (xs : List ℕ) (p : ℕ) → p ≢ q → ring (with_queue rings q xs) p ≡ ring rings p
with_queue_else rings q xs p ne = get_or-set_other rings.queues q p xs [] ne

-- a request is pushed
module _ (rings : RingsView) (time : TimeView) (limit : ℕ) (old : AreConsistent rings time limit)
    (q r k : ℕ) (q_in : q < length rings.queues) (r_in : r < length rings.costs) (low : k ≤ max_cost)
    (room : length (ring rings q) ≡ limit → ⊥)
    (time' : TimeView) (numbers : numbers_of time' ≡ after_enter q (ring rings q) (numbers_of time)) (one_for_each : length time'.next ≡ length time.next) where
  low_push : (x : ℕ) → width (set rings.costs r k) x ≤ max_cost
  low_push x = elim (cases_eq x r) [
    | inl e ↦ let same : get_or (set rings.costs r k) x 0 ≡ k = ap (λ i. get_or (set rings.costs r k) i 0) e ∙ get_or-set_same rings.costs r k 0 r_in in omega arith
    | inr ne ↦ let same = get_or-set_other rings.costs r x k 0 ne in let n = old.low x in omega arith
  ]

  within_push : (p : ℕ) → length (ring (with_request rings q r k) p) ≤ limit
  within_push p = elim (cases_eq p q) [
    | inl e ↦
        let same = ap (λ i. length (ring (with_queue rings q (ring rings q ++ r ∷ [])) i)) e ∙ ap length (with_queue_here rings q (ring rings q ++ r ∷ []) q_in) ∙ length_push (ring rings q) r in
        let n = old.within_limit q in omega (arith, room)
    | inr ne ↦ let same = ap length (with_queue_else rings q (ring rings q ++ r ∷ []) p ne) in let n = old.within_limit p in omega arith
  ]

  requests_push : (p x : ℕ) → Contains (ring (with_request rings q r k) p) x → x < length rings.costs
  requests_push p x c = elim (cases_eq p q) [
    | inl e ↦
        let here : Contains (ring rings q ++ r ∷ []) x = subst (λ (xs : List ℕ). Contains xs x) (ap (ring (with_queue rings q (ring rings q ++ r ∷ []))) e ∙ with_queue_here rings q (ring rings q ++ r ∷ []) q_in) c in
        elim (Contains-push_cases (ring rings q) r x here) [ inl was ↦ old.are_requests q x was | inr same ↦ (let l = r_in in omega arith) ]
    | inr other ↦ old.are_requests p x (subst (λ (xs : List ℕ). Contains xs x) (with_queue_else rings q (ring rings q ++ r ∷ []) p other) c)
  ]

  pub push_consistent : AreConsistent (with_request rings q r k) time' limit
  push_consistent =
      let queues = length-set rings.queues q (ring rings q ++ r ∷ []) in
      let requests = length-set rings.costs r k in
      record {
        shape = record {
          has_queues = (let a = old.shape.has_queues in omega arith);
          few_queues = (let a = old.shape.few_queues in omega arith);
          has_room = old.shape.has_room;
          little_room = old.shape.little_room;
          few_requests = (let a = old.shape.few_requests in omega arith);
        };
        one_cost_each = requests ∙ old.one_cost_each;
        one_next_each = one_for_each ∙ old.one_next_each ∙ sym queues;
        robin_is_queue = (let a = old.robin_is_queue in let e = ap (λ (v : Numbers). v.robin) numbers ∙ enter_robin q (ring rings q) (numbers_of time) in omega arith);
        within_limit = within_push;
        low = low_push;
        are_requests = λ p x c. (let l = requests_push p x c in omega arith);
        next_within = λ p. subst (λ (n : ℕ). n ≤ latest_time + max_charge) (sym (ap (λ (v : Numbers). v.next p) numbers))
            (enter_bounded q (ring rings q) (numbers_of time) (latest_time + max_charge) old.next_within old.time_within p);
        time_within = (let e = ap (λ (v : Numbers). v.virtual_time) numbers ∙ enter_time q (ring rings q) (numbers_of time) in let a = old.time_within in omega arith);
      }

-- a request is taken out
module _ (rings : RingsView) (time : TimeView) (limit : ℕ) (old : AreConsistent rings time limit)
    (q r : ℕ) (stands : Contains (ring rings q) r)
    (in_place : (before after : List ℕ) → ring rings q ≡ before ++ r ∷ after → without r (ring rings q) ≡ before ++ after) where
  pub stands_in : q < length rings.queues
  stands_in = elim (cases_lt q (length rings.queues)) [
    | inl l ↦ l
    | inr past ↦ let none = ap length (get_or_past rings.queues q [] past) in let l : stands.0 < length (ring rings q) = stands.1 in absurd (omega arith)
  ]

  one_fewer : length (without r (ring rings q)) + 1 ≡ length (ring rings q)
  one_fewer =
      let s = split_at (ring rings q) r stands in
      let a = ap length (in_place s.before s.after s.is) in
      let b = ap length s.is ∙ length-out s.before r s.after in
      omega arith

  within_left : (p : ℕ) → length (ring (with_queue rings q (without r (ring rings q))) p) ≤ limit
  within_left p = elim (cases_eq p q) [
    | inl e ↦
        let same = ap (λ i. length (ring (with_queue rings q (without r (ring rings q))) i)) e ∙ ap length (with_queue_here rings q (without r (ring rings q)) stands_in) in
        let n = old.within_limit q in let f = one_fewer in omega arith
    | inr ne ↦ let same = ap length (with_queue_else rings q (without r (ring rings q)) p ne) in let n = old.within_limit p in omega arith
  ]

  requests_left : (p x : ℕ) → Contains (ring (with_queue rings q (without r (ring rings q))) p) x → x < length rings.costs
  requests_left p x c = elim (cases_eq p q) [
    | inl e ↦
        let here : Contains (without r (ring rings q)) x = subst (λ (xs : List ℕ). Contains xs x) (ap (ring (with_queue rings q (without r (ring rings q)))) e ∙ with_queue_here rings q (without r (ring rings q)) stands_in) c in
        old.are_requests q x (Contains-without r (ring rings q) x here).0
    | inr ne ↦ old.are_requests p x (subst (λ (xs : List ℕ). Contains xs x) (with_queue_else rings q (without r (ring rings q)) p ne) c)
  ]

  -- whatever the numbers are then
  left_consistent : (time' : TimeView) → length time'.next ≡ length time.next → time'.robin < length rings.queues
      → ((p : ℕ) → get_or time'.next p 0 ≤ latest_time + max_charge) → time'.virtual_time ≤ latest_time + max_charge
      → AreConsistent (with_queue rings q (without r (ring rings q))) time' limit
  left_consistent time' one_for_each robin next_within time_within =
      let queues = length-set rings.queues q (without r (ring rings q)) in
      record {
        shape = record {
          has_queues = (let a = old.shape.has_queues in omega arith);
          few_queues = (let a = old.shape.few_queues in omega arith);
          has_room = old.shape.has_room;
          little_room = old.shape.little_room;
          few_requests = old.shape.few_requests;
        };
        one_cost_each = old.one_cost_each;
        one_next_each = one_for_each ∙ old.one_next_each ∙ sym queues;
        robin_is_queue = omega arith;
        within_limit = within_left;
        low = old.low;
        are_requests = requests_left;
        next_within = next_within;
        time_within = time_within;
      }

  -- it is struck
  pub strike_consistent : AreConsistent (with_queue rings q (without r (ring rings q))) time limit
  strike_consistent = left_consistent time refl old.robin_is_queue old.next_within old.time_within

  -- it is dispatched, where virtual time may go on
  module _ (k : ℕ) (k_is : k ≡ width rings.costs r) (early : get_or time.next q 0 ≤ latest_time)
      (time' : TimeView) (numbers : numbers_of time' ≡ after_dispatch q k (numbers_of time)) (one_for_each : length time'.next ≡ length time.next) where
    next_after : (p : ℕ) → get_or time'.next p 0 ≤ latest_time + max_charge
    next_after p =
        let low = old.low r in
        subst (λ (n : ℕ). n ≤ latest_time + max_charge) (sym (ap (λ (v : Numbers). v.next p) numbers))
        (put_bounded (numbers_of time).next q (get_or time.next q 0 + k) (latest_time + max_charge) old.next_within (let a = early in omega arith) p)

    pub dispatch_consistent : AreConsistent (with_queue rings q (without r (ring rings q))) time' limit
    dispatch_consistent =
        let robin = ap (λ (v : Numbers). v.robin) numbers in
        let level = ap (λ (v : Numbers). v.virtual_time) numbers in
        let is_queue = stands_in in
        left_consistent time' one_for_each (omega arith) next_after (let a = early in let b = old.time_within in omega arith)

-- a request is settled
module _ (rings : RingsView) (time : TimeView) (limit : ℕ) (old : AreConsistent rings time limit) (q k m : ℕ)
    (low : m ≤ max_charge) (early : get_or time.next q 0 ≤ latest_time)
    (time' : TimeView) (numbers : numbers_of time' ≡ after_charge q k m (numbers_of time)) (one_for_each : length time'.next ≡ length time.next) where
  settled_next : (p : ℕ) → get_or time'.next p 0 ≤ latest_time + max_charge
  settled_next p =
      subst (λ (n : ℕ). n ≤ latest_time + max_charge) (sym (ap (λ (v : Numbers). v.next p) numbers))
      (put_bounded (numbers_of time).next q (get_or time.next q 0 + m - k) (latest_time + max_charge) old.next_within (let a = early in let b = low in omega arith) p)

  pub settle_consistent : AreConsistent rings time' limit
  settle_consistent =
      let robin = ap (λ (v : Numbers). v.robin) numbers in
      let level = ap (λ (v : Numbers). v.virtual_time) numbers in
      record {
        shape = old.shape;
        one_cost_each = old.one_cost_each;
        one_next_each = one_for_each ∙ old.one_next_each;
        robin_is_queue = (let a = old.robin_is_queue in omega arith);
        within_limit = old.within_limit;
        low = old.low;
        are_requests = old.are_requests;
        next_within = settled_next;
        time_within = (let b = old.time_within in omega arith);
      }

zeros : (n i : ℕ) → get_or (replicate {A = ℕ} n 0) i 0 ≡ 0
zeros zero i = refl
zeros (suc n) zero = refl
zeros (suc n) (suc i) = zeros n i

pub empties : (n i : ℕ) → get_or (replicate {A = List ℕ} n []) i [] ≡ []
empties zero i = refl
empties (suc n) zero = refl
empties (suc n) (suc i) = empties n i

-- queues in which nothing ever was
pub opening_consistent : (queues length_limit requests : ℕ) → IsQueueShape queues length_limit requests
    → AreConsistent (record { queues = replicate queues []; costs = replicate requests 0; requests = requests }) (record { next = replicate queues 0; virtual_time = 0; robin = queues - 1 }) length_limit
opening_consistent queues length_limit requests shape =
    let a : length (replicate {A = List ℕ} queues []) ≡ queues = length-replicate queues [] in
    let b : length (replicate {A = ℕ} queues 0) ≡ queues = length-replicate queues 0 in
    let c : length (replicate {A = ℕ} requests 0) ≡ requests = length-replicate requests 0 in
    let s = shape.has_queues in
    let t = shape.few_queues in
    let u = shape.few_requests in
    record {
      shape = record { has_queues = omega arith; few_queues = omega arith; has_room = shape.has_room; little_room = shape.little_room; few_requests = omega arith };
      one_cost_each = c;
      one_next_each = b ∙ sym a;
      robin_is_queue = omega arith;
      within_limit = λ q. (let e = ap length (empties queues q) in omega arith);
      low = λ r. (let e = zeros requests r in omega arith);
      are_requests = λ q r stands. (let e = ap length (empties queues q) in let l : stands.0 < length (get_or (replicate {A = List ℕ} queues []) q []) = stands.1 in absurd (omega arith));
      next_within = λ q. (let e = zeros queues q in omega arith);
      time_within = omega arith;
    }
