-- How many events there are in a legal history, of each request and of each queue.
use Rattle.std.proofs.Common.{◌≡◌, ◌≢◌, ℕ, zero, suc, ◌+◌, ◌*◌, ◌≤◌, inl, inr, Bool, false, cond, eqb, List, [], ◌∷◌, length, refl, sym, ap, ◌∙◌, arith}
use Rattle.std.specs.Prelude.{count_by}
use Rattle.std.proofs.lemmas.Bool.{cases_eq, eq-eqb, ne_eqb}
use Rattle.std.proofs.lemmas.List.Sums.{sum_by-cons}
use Rattle.apf_history.specs.declared.events.Event.{Event}
use Rattle.apf_history.specs.declared.events.Event.TheVariants.{Enter, Full, Dispatch, Strike}
use Rattle.apf_history.specs.declared.events.Status.{Status}
use Rattle.apf_history.specs.declared.events.Status.TheVariants as status_is
use Rattle.apf_history.specs.Tally.{tally}
use Rattle.apf_history.specs.History.{request_of, queue_of, NamesRequests, NamesQueues, waiting, MayFollow, IsLegal}
use Rattle.apf_history.specs.Outcome.{is_enter, is_dispatch, is_strike}
use Rattle.apf_history.specs.Order.{makes, finds, status, is_event_of, is_enter_of, is_dispatch_of, is_enter_into, is_dispatch_from, is_strike_from, AreCounted}
use Rattle.apf_history.proofs.Sums.{tally_at, tally_nothing}
use Rattle.apf_history.proofs.Waiting.{waiting_others, length_enter, length_dispatch, length_strike}
use Rattle.apf_history.proofs.Statuses.{made_here, made_else, found, waits_named}

abbrev pub one_if : Bool → ℕ
one_if b = cond b 1 0

pub count : (p : Event → Bool) (e : Event) (h : List Event) → count_by p (e ∷ h) ≡ one_if (p e) + count_by p h
count p e h = sum_by-cons (λ x. cond (p x) 1 0) e h

-- how many events in all, Enters and Dispatches a request of this status has had
abbrev pub events_at : Status → ℕ
events_at status_is.Away = 0
events_at status_is.Waits = 1
events_at status_is.Dispatched = 2
events_at status_is.Struck = 2
events_at status_is.Full = 1

abbrev pub enters_at : Status → ℕ
enters_at status_is.Away = 0
enters_at status_is.Waits = 1
enters_at status_is.Dispatched = 1
enters_at status_is.Struck = 1
enters_at status_is.Full = 0

abbrev pub dispatches_at : Status → ℕ
dispatches_at status_is.Dispatched = 1
dispatches_at _ = 0

-- a count of the events of one request, by its status
module _ (p : ℕ → Event → Bool) (at : Status → ℕ) (none : at status_is.Away ≡ 0)
    (more : (e : Event) → at (makes e) ≡ one_if (p (request_of e) e) + at (finds e))
    (others : (r : ℕ) (e : Event) → r ≢ request_of e → p r e ≡ false)
    (hands : ℕ → List ℕ) (limit : ℕ) where
  counted_at : (h : List Event) → IsLegal hands limit h → (r : ℕ) → count_by (p r) h ≡ at (status h r)
  counted_at [] l r = sym none
  counted_at (e ∷ h) l r = elim (cases_eq r (request_of e)) [
    | inl same ↦
        let old = counted_at h l.1 r in
        let c = count (p r) e h in
        let flag : one_if (p r e) ≡ one_if (p (request_of e) e) = ap (λ (i : ℕ). one_if (p i e)) same in
        let was : at (status h r) ≡ at (finds e) = ap (λ (i : ℕ). at (status h i)) same ∙ ap at (found hands limit h l.1 e l.0) in
        let is : at (status (e ∷ h) r) ≡ at (makes e) = ap (λ (i : ℕ). at (status (e ∷ h) i)) same ∙ ap at (made_here e h) in
        let m = more e in
        omega arith
    | inr ne ↦
        let old = counted_at h l.1 r in
        let c = count (p r) e h in
        let flag : one_if (p r e) ≡ 0 = ap one_if (others r e ne) in
        let is : at (status (e ∷ h) r) ≡ at (status h r) = ap at (made_else e h r ne) in
        omega arith
  ]

one_here : (j : ℕ) → one_if (eqb j j) ≡ 1
one_here j = ap one_if (eq-eqb j j refl)

more_events : (e : Event) → events_at (makes e) ≡ one_if (is_event_of (request_of e) e) + events_at (finds e)
more_events (Enter r q) = let o = one_here r in omega arith
more_events (Full r q) = let o = one_here r in omega arith
more_events (Dispatch r q) = let o = one_here r in omega arith
more_events (Strike r q) = let o = one_here r in omega arith

more_enters : (e : Event) → enters_at (makes e) ≡ one_if (is_enter_of (request_of e) e) + enters_at (finds e)
more_enters (Enter r q) = let o = one_here r in omega arith
more_enters (Full r q) = omega arith
more_enters (Dispatch r q) = omega arith
more_enters (Strike r q) = omega arith

more_dispatches : (e : Event) → dispatches_at (makes e) ≡ one_if (is_dispatch_of (request_of e) e) + dispatches_at (finds e)
more_dispatches (Enter r q) = omega arith
more_dispatches (Full r q) = omega arith
more_dispatches (Dispatch r q) = let o = one_here r in omega arith
more_dispatches (Strike r q) = omega arith

no_event : (r : ℕ) (e : Event) → r ≢ request_of e → is_event_of r e ≡ false
no_event r e ne = ne_eqb (request_of e) r (λ x. ne (sym x))

no_enter : (r : ℕ) (e : Event) → r ≢ request_of e → is_enter_of r e ≡ false
no_enter r (Enter j q) ne = ne_eqb j r (λ x. ne (sym x))
no_enter r (Full j q) ne = refl
no_enter r (Dispatch j q) ne = refl
no_enter r (Strike j q) ne = refl

no_dispatch : (r : ℕ) (e : Event) → r ≢ request_of e → is_dispatch_of r e ≡ false
no_dispatch r (Enter j q) ne = refl
no_dispatch r (Full j q) ne = refl
no_dispatch r (Dispatch j q) ne = ne_eqb j r (λ x. ne (sym x))
no_dispatch r (Strike j q) ne = refl

few_events : (s : Status) → events_at s ≤ 2
few_events status_is.Away = omega arith
few_events status_is.Waits = omega arith
few_events status_is.Dispatched = omega arith
few_events status_is.Struck = omega arith
few_events status_is.Full = omega arith

few_enters : (s : Status) → enters_at s ≤ 1
few_enters status_is.Away = omega arith
few_enters status_is.Waits = omega arith
few_enters status_is.Dispatched = omega arith
few_enters status_is.Struck = omega arith
few_enters status_is.Full = omega arith

few_dispatches : (s : Status) → dispatches_at s ≤ 1
few_dispatches status_is.Away = omega arith
few_dispatches status_is.Waits = omega arith
few_dispatches status_is.Dispatched = omega arith
few_dispatches status_is.Struck = omega arith
few_dispatches status_is.Full = omega arith

tally_two : (f : ℕ → ℕ) (n : ℕ) → ((j : ℕ) → f j ≤ 2) → tally f n ≤ 2 * n
tally_two f zero small = omega arith
tally_two f (suc n) small = let a : tally f n ≤ 2 * n = tally_two f n small in let b : f n ≤ 2 = small n in omega arith

module _ (hands : ℕ → List ℕ) (limit : ℕ) where
  pub events_twice : (h : List Event) → IsLegal hands limit h → (r : ℕ) → count_by (is_event_of r) h ≤ 2
  events_twice h l r = let c = counted_at is_event_of events_at refl more_events no_event hands limit h l r in let f = few_events (status h r) in omega arith

  pub enters_once : (h : List Event) → IsLegal hands limit h → (r : ℕ) → count_by (is_enter_of r) h ≤ 1
  enters_once h l r = let c = counted_at is_enter_of enters_at refl more_enters no_enter hands limit h l r in let f = few_enters (status h r) in omega arith

  pub dispatched_once : (h : List Event) → IsLegal hands limit h → (r : ℕ) → count_by (is_dispatch_of r) h ≤ 1
  dispatched_once h l r = let c = counted_at is_dispatch_of dispatches_at refl more_dispatches no_dispatch hands limit h l r in let f = few_dispatches (status h r) in omega arith

  -- the length is the sum of the requests' events
  by_requests : (n : ℕ) (h : List Event) → IsLegal hands limit h → NamesRequests n h → length h ≡ tally (λ r. events_at (status h r)) n
  by_requests n [] l m = sym (tally_nothing (λ r. events_at (status [] r)) n (λ j k. refl))
  by_requests n (e ∷ h) l m =
      let old = by_requests n h l.1 m.1 in
      let moved = tally_at (λ r. events_at (status h r)) (λ r. events_at (status (e ∷ h) r)) n (request_of e) m.0 (λ j ne. ap events_at (made_else e h j ne)) in
      let was : events_at (status h (request_of e)) ≡ events_at (finds e) = ap events_at (found hands limit h l.1 e l.0) in
      let is : events_at (status (e ∷ h) (request_of e)) ≡ events_at (makes e) = ap events_at (made_here e h) in
      let more = more_events e in let one = one_here (request_of e) in
      omega arith

  two_each : (h : List Event) → IsLegal hands limit h → (n : ℕ) → NamesRequests n h → length h ≤ 2 * n
  two_each h l n m = let c = by_requests n h l m in let t = tally_two (λ r. events_at (status h r)) n (λ j. few_events (status h j)) in omega arith

  -- of one queue: what an event makes of the counts and of who waits
  queue_after : (h : List Event) → IsLegal hands limit h → (e : Event) → MayFollow hands limit h e
      → one_if (is_enter e) + length (waiting h (queue_of e)) ≡ one_if (is_dispatch e) + one_if (is_strike e) + length (waiting (e ∷ h) (queue_of e))
  queue_after h l (Enter r q) m = let n = length_enter hands limit h l r q m.0 in omega arith
  queue_after h l (Full r q) m = refl
  queue_after h l (Dispatch r q) m = let n = length_dispatch hands limit h l r q m in omega arith
  queue_after h l (Strike r q) m = let n = length_strike hands limit h l r q m in omega arith

  -- of one queue: who entered it was dispatched from it, struck out of it, or waits in it
  of_queue : (h : List Event) → IsLegal hands limit h → (q : ℕ) → count_by (is_enter_into q) h ≡ count_by (is_dispatch_from q) h + count_by (is_strike_from q) h + length (waiting h q)
  of_queue [] l q = refl
  of_queue (e ∷ h) l q =
      let old = of_queue h l.1 q in
      let x = count (is_enter_into q) e h in let y = count (is_dispatch_from q) e h in let z = count (is_strike_from q) e h in
      elim (cases_eq q (queue_of e)) [
        | inl same ↦
            let a = ap (λ (p : ℕ). length (waiting h p)) same in let b = ap (λ (p : ℕ). length (waiting (e ∷ h) p)) same in
            let m = queue_after h l.1 e l.0 in let f = here e (sym same) in let f0 = f.0 in let f1 = f.1 in let f2 = f.2 in omega arith
        | inr ne ↦
            let b = ap length (waiting_others hands limit h l.1 e l.0 q ne) in
            let f = elsewhere e (λ s. ne (sym s)) in let f0 = f.0 in let f1 = f.1 in let f2 = f.2 in omega arith
      ] where
        here : (e : Event) → queue_of e ≡ q → (one_if (is_enter_into q e) ≡ one_if (is_enter e)) × (one_if (is_dispatch_from q e) ≡ one_if (is_dispatch e)) × (one_if (is_strike_from q e) ≡ one_if (is_strike e))
        here (Enter r p) s = (ap one_if (eq-eqb p q s), refl, refl)
        here (Full r p) s = (refl, refl, refl)
        here (Dispatch r p) s = (refl, ap one_if (eq-eqb p q s), refl)
        here (Strike r p) s = (refl, refl, ap one_if (eq-eqb p q s))

        elsewhere : (e : Event) → queue_of e ≢ q → (one_if (is_enter_into q e) ≡ 0) × (one_if (is_dispatch_from q e) ≡ 0) × (one_if (is_strike_from q e) ≡ 0)
        elsewhere (Enter r p) ne = (ap one_if (ne_eqb p q ne), refl, refl)
        elsewhere (Full r p) ne = (refl, refl, refl)
        elsewhere (Dispatch r p) ne = (refl, ap one_if (ne_eqb p q ne), refl)
        elsewhere (Strike r p) ne = (refl, refl, ap one_if (ne_eqb p q ne))

  -- of all queues
  of_queues : (h : List Event) → IsLegal hands limit h → (n : ℕ) → NamesQueues n h → count_by is_enter h ≡ count_by is_dispatch h + count_by is_strike h + tally (λ q. length (waiting h q)) n
  of_queues [] l n m = let none = tally_nothing (λ q. length (waiting [] q)) n (λ j k. refl) in omega arith
  of_queues (e ∷ h) l n m =
      let old = of_queues h l.1 n m.1 in
      let x = count is_enter e h in let y = count is_dispatch e h in let z = count is_strike e h in
      let moved = tally_at (λ q. length (waiting h q)) (λ q. length (waiting (e ∷ h) q)) n (queue_of e) m.0 (λ q ne. ap length (waiting_others hands limit h l.1 e l.0 q ne)) in
      let here = queue_after h l.1 e l.0 in
      omega arith

  pub counted : (h : List Event) → IsLegal hands limit h → AreCounted h
  counted h l = record {
    of_queue = of_queue h l;
    of_queues = of_queues h l;
    of_request = events_twice h l;
    of_requests = two_each h l;
    waits_named = waits_named hands limit h l;
  }
