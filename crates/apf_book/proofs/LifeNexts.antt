-- What is dispatched next from queues of slots, and what a dispatch, a strike and a refusal leave.
use Rattle.std.proofs.Common.{◌≡◌, ◌≢◌, ℕ, ◌≤◌, inl, inr, Bool, cond, List, [], ◌∷◌, length, get_or, set, drop, length-set, get_or-set_same, get_or-set_other, Option, Some, None, refl, sym, ap, ◌∙◌, subst, arith}
use Rattle.std.specs.Prelude.{Contains, slice_get, slice_index, MatchOption}
use Rattle.std.proofs.lemmas.Bool.{cases_eq, cases_lt, eq-eqb, ne_eqb}
use Rattle.std.proofs.lemmas.List.{get_or_past, drop-map, length-map}
use Rattle.apf_words.specs.Limits.{max_cost}
use Rattle.apf_history.specs.declared.events.Event.TheVariants.{Full, Dispatch}
use Rattle.apf_model.specs.World.{put, width}
use Rattle.apf_model.specs.History.{waiting, IsShortest, MayFollow}
use Rattle.apf_history.specs.declared.events.Event.{Event}
use Rattle.apf_history.specs.declared.events.LogEntry.{LogEntry}
use Rattle.apf_history.specs.declared.events.LogEntry.TheVariants.{Happens}
use Rattle.apf_model.specs.Fair.{Numbers, after_dispatch, finish, steps_round, IsChoice}
use Rattle.apf_model.specs.Charged.{charged_numbers, charge_of}
use Rattle.apf_model.specs.Outcome.{is_dispatch}
use Rattle.apf_queue.specs.declared.choice.Chosen.{Chosen}
use Rattle.apf_queue.specs.View.{QueuesView, queue_count, queue_in, numbers_in, IsChosen, NothingWaits, Dispatches, HasTime}
use Rattle.apf_book.specs.Histories.{Laws, Stands}
use Rattle.apf_book.specs.Life.{LifeView, LifeState, IsLifeOf, holding, Comes, asked, then_came, IsNextIn}
use Rattle.apf_book.proofs.Lists.{Contains-rest, first_contains, some_first}
use Rattle.apf_book.proofs.Puts.{put_here, put_else}
use Rattle.apf_book.proofs.Running.{count_within}
use Rattle.apf_book.proofs.Times.{life_dispatch_within, life_else_within}
use Rattle.apf_book.proofs.Asking.{is_asked}
use Rattle.apf_book.proofs.LifeCharges.{still_unsettled, kept_then}

first_held : (holders slots : List ℕ) (slot : ℕ) → slice_get slots 0 ≡ Some slot → slice_get (holding holders slots) 0 ≡ Some (slice_index holders slot)
first_held holders [] slot e = absurd (let f : ◌≡◌ {A = Option ℕ} None (Some slot) = e in cc)
first_held holders (x ∷ xs) slot e = let same : x ≡ slot = cc in ap (λ i. Some (slice_index holders i)) same

index_held : (holders slots : List ℕ) → slots ≢ [] → slice_index (holding holders slots) 0 ≡ slice_index holders (slice_index slots 0)
index_held holders [] some = absurd (some refl)
index_held holders (x ∷ xs) some = refl

held_none : (holders slots : List ℕ) → holding holders slots ≡ [] → slots ≡ []
held_none holders [] e = refl
held_none holders (x ∷ xs) e = absurd (let n = ap (λ (ys : List ℕ). length ys) e in omega arith)

module _ (v : LifeView) (s : LifeState) (is : IsLifeOf v s) where
  slots_of_some : (q : ℕ) → waiting v.history q ≢ [] → queue_in s.queues q ≢ []
  slots_of_some q ne e = ne (sym (is.queue_is q) ∙ ap (holding s.holders) e)

  some_of_slots : (q : ℕ) → queue_in s.queues q ≢ [] → waiting v.history q ≢ []
  some_of_slots q ne e = ne (held_none s.holders (queue_in s.queues q) (is.queue_is q ∙ e))

  finish_same : (q : ℕ) → queue_in s.queues q ≢ [] → finish s.queues.costs (queue_in s.queues) (numbers_in s.queues) q ≡ finish v.costs (waiting v.history) (charged_numbers v.queues v.costs v.log) q
  finish_same q ne =
      let a : slice_index s.queues.next q ≡ (charged_numbers v.queues v.costs v.log).next q = ap (λ (n : Numbers). n.next q) is.numbers_are in
      let b : width s.queues.costs (slice_index (queue_in s.queues q) 0) ≡ width v.costs (slice_index (waiting v.history q) 0) =
      is.charged q (slice_index (queue_in s.queues q) 0) (some_first (queue_in s.queues q) ne)
      ∙ ap (width v.costs) (sym (index_held s.holders (queue_in s.queues q) ne) ∙ ap (λ (xs : List ℕ). slice_index xs 0) (is.queue_is q)) in
      omega arith

  steps_same : (q : ℕ) → steps_round (queue_count s.queues) (numbers_in s.queues).robin q ≡ steps_round v.queues (charged_numbers v.queues v.costs v.log).robin q
  steps_same q = ap (λ (n : ℕ). steps_round n (numbers_in s.queues).robin q) is.deck ∙ ap (λ (n : Numbers). steps_round v.queues n.robin q) is.numbers_are

  -- the choice by the queues of slots is that by the history
  life_choice : (q : ℕ) → IsChoice (queue_count s.queues) s.queues.costs (queue_in s.queues) (numbers_in s.queues) q → IsChoice v.queues v.costs (waiting v.history) (charged_numbers v.queues v.costs v.log) q
  life_choice q c = record {
    is_queue = let d = is.deck in let k = c.is_queue in omega arith;
    is_waited_in = some_of_slots q c.is_waited_in;
    has_least_finish = λ p l ne. (let a = finish_same q c.is_waited_in in let b = finish_same p (slots_of_some p ne) in let k = c.has_least_finish p (let d = is.deck in omega arith) (slots_of_some p ne) in omega arith);
    is_reached_first = λ p l ne e. (let a = finish_same q c.is_waited_in in let b = finish_same p (slots_of_some p ne) in let x = steps_same q in let y = steps_same p in
        let k = c.is_reached_first p (let d = is.deck in omega arith) (slots_of_some p ne) (omega arith) in omega arith);
  }

  life_next : (c : Chosen) → IsChosen s.queues c → IsNextIn v s c
  life_next c chosen =
      let first = chosen.is_head.is_first in
      record {
        is_choice = life_choice c.queue chosen.is_choice;
        is_first = ap (λ (xs : List ℕ). slice_get xs 0) (sym (is.queue_is c.queue)) ∙ first_held s.holders (queue_in s.queues c.queue) c.request first;
        cost_is = chosen.is_head.cost_is ∙ is.charged c.queue c.request (first_contains (queue_in s.queues c.queue) c.request first);
      }

  life_nobody : NothingWaits s.queues → (q : ℕ) → waiting v.history q ≡ []
  life_nobody none q = elim (cases_lt q (length s.queues.queues)) [
    | inl l ↦ sym (is.queue_is q) ∙ ap (holding s.holders) (none q l)
    | inr past ↦ sym (is.queue_is q) ∙ ap (holding s.holders) (get_or_past s.queues.queues q [] past)
  ]

  -- what is chosen, of every such history
  pub life_chosen : (x : Option Chosen) → MatchOption x (NothingWaits s.queues) (IsChosen s.queues) → MatchOption x ((q : ℕ) → waiting v.history q ≡ []) (IsNextIn v s)
  life_chosen None h = life_nobody h
  life_chosen (Some c) h = life_next c h

  -- virtual time may go on: it never has more than 2^76 numbers to go by
  pub life_has_time : Laws → (q : ℕ) → HasTime s.queues q
  life_has_time laws q =
      let two = (laws.numbers v.hands v.limit v.history is.fair.0).of_requests (length v.costs) is.names_requests in
      let k = is.few in
      let some = count_within is_dispatch v.history in
      let b = is.within.next q in
      omega arith

  module _ (laws : Laws) (c : Chosen) (t : QueuesView) (chosen : IsChosen s.queues c) (d : Dispatches s.queues t c.queue c.cost) where
    next : IsNextIn v s c
    next = life_next c chosen

    waits : Contains (waiting v.history c.queue) (slice_index s.holders c.request)
    waits = first_contains (waiting v.history c.queue) (slice_index s.holders c.request) next.is_first

    here : queue_in t c.queue ≡ drop 1 (queue_in s.queues c.queue)
    here = ap (λ (x : List (List ℕ)). get_or x c.queue []) d.queues
        ∙ get_or-set_same s.queues.queues c.queue (drop 1 (queue_in s.queues c.queue)) [] (let l = next.is_choice.is_queue in let m = is.deck in omega arith)

    else : (p : ℕ) → p ≢ c.queue → queue_in t p ≡ queue_in s.queues p
    else p ne = ap (λ (x : List (List ℕ)). get_or x p []) d.queues ∙ get_or-set_other s.queues.queues c.queue p (drop 1 (queue_in s.queues c.queue)) [] ne

    follows : (p : ℕ) → waiting (Dispatch (slice_index s.holders c.request) c.queue ∷ v.history) p ≡ put (waiting v.history) c.queue (drop 1 (waiting v.history c.queue)) p
    follows p = (laws.follows v.hands v.limit v.history (Dispatch (slice_index s.holders c.request) c.queue) is.fair.0 next.is_first).queues p

    queues_after : (p : ℕ) → holding s.holders (queue_in t p) ≡ waiting (Dispatch (slice_index s.holders c.request) c.queue ∷ v.history) p
    queues_after p = elim (cases_eq p c.queue) [
      | inl e ↦ subst (λ (i : ℕ). holding s.holders (queue_in t i) ≡ waiting (Dispatch (slice_index s.holders c.request) c.queue ∷ v.history) i) (sym e)
          (ap (holding s.holders) here ∙ sym (drop-map (λ i. slice_index s.holders i) 1 (queue_in s.queues c.queue)) ∙ ap (drop 1) (is.queue_is c.queue)
          ∙ sym (follows c.queue ∙ put_here (waiting v.history) c.queue (drop 1 (waiting v.history c.queue))))
      | inr ne ↦ ap (holding s.holders) (else p ne) ∙ is.queue_is p ∙ sym (follows p ∙ put_else (waiting v.history) c.queue (drop 1 (waiting v.history c.queue)) p ne)
    ]

    stood : (p slot : ℕ) → Contains (queue_in t p) slot → Contains (queue_in s.queues p) slot
    stood p slot k = elim (cases_eq p c.queue) [
      | inl e ↦ subst (λ (i : ℕ). Contains (queue_in s.queues i) slot) (sym e)
          (Contains-rest (queue_in s.queues c.queue) slot (subst (λ (xs : List ℕ). Contains xs slot) (ap (queue_in t) e ∙ here) k))
      | inr ne ↦ subst (λ (xs : List ℕ). Contains xs slot) (else p ne) k
    ]

    -- what is charged for it, and for others
    charged_now : charge_of v.costs (Happens (Dispatch (slice_index s.holders c.request) c.queue) ∷ v.log) (slice_index s.holders c.request) ≡ Some (record { queue = c.queue; amount = c.cost })
    charged_now = ap (λ (b : Bool). cond b (Some (record { queue = c.queue; amount = width v.costs (slice_index s.holders c.request) })) (charge_of v.costs v.log (slice_index s.holders c.request))) (eq-eqb (slice_index s.holders c.request) (slice_index s.holders c.request) refl)
        ∙ ap (λ (k : ℕ). Some (record { queue = c.queue; amount = k })) (sym next.cost_is)

    charged_else : (j : ℕ) → j ≢ slice_index s.holders c.request → charge_of v.costs (Happens (Dispatch (slice_index s.holders c.request) c.queue) ∷ v.log) j ≡ charge_of v.costs v.log j
    charged_else j ne = ap (λ (b : Bool). cond b (Some (record { queue = c.queue; amount = width v.costs (slice_index s.holders c.request) })) (charge_of v.costs v.log j)) (ne_eqb (slice_index s.holders c.request) j (λ e. ne (sym e)))

    -- the request that holds the chosen slot is dispatched
    pub life_dispatches : IsLifeOf (then_came v (Dispatch (slice_index s.holders c.request) c.queue)) (record { queues = t; holders = s.holders; hand = s.hand; known = s.known; running = set s.running c.request (Some (record { queue = c.queue; amount = c.cost })) })
    life_dispatches = record {
      queue_is = queues_after;
      in_slots = λ p slot k. is.in_slots p slot (stood p slot k);
      in_place = λ p slot k. is.in_place p slot (stood p slot k);
      fair = ((next.is_first, is.fair.0), (subst (λ (h : List Event). IsChoice v.queues v.costs (waiting h) (charged_numbers v.queues v.costs v.log) c.queue) (sym is.events_are) next.is_choice, is.fair.1));
      events_are = ap (λ (h : List Event). Dispatch (slice_index s.holders c.request) c.queue ∷ h) is.events_are;
      within = life_dispatch_within v.history (slice_index s.holders c.request) c.queue c.cost (numbers_in s.queues) (numbers_in t) (let a = next.cost_is in let b = is.low (slice_index s.holders c.request) in omega arith) is.within d.numbers;
      numbers_are = d.numbers ∙ (ap (λ (k : ℕ). after_dispatch c.queue k (numbers_in s.queues)) next.cost_is ∙ ap (after_dispatch c.queue (width v.costs (slice_index s.holders c.request))) is.numbers_are);
      charged = λ p slot k. ap (λ (x : List ℕ). width x slot) d.costs ∙ is.charged p slot (stood p slot k);
      deck = ap (λ (x : List (List ℕ)). length x) d.queues ∙ (length-set s.queues.queues c.queue (drop 1 (queue_in s.queues c.queue)) ∙ is.deck);
      limit = d.length_limit ∙ is.limit;
      one_holder_each = is.one_holder_each ∙ sym (ap (λ (x : List ℕ). length x) d.costs);
      names_queues = (next.is_choice.is_queue, is.names_queues);
      names_requests = ((laws.numbers v.hands v.limit v.history is.fair.0).waits_named (length v.costs) is.names_requests c.queue (slice_index s.holders c.request) waits, is.names_requests);
      low = is.low;
      few = is.few;
      holders_are = is.holders_are;
      running = kept_then s.running s.holders c.request (slice_index s.holders c.request) (Some (record { queue = c.queue; amount = c.cost })) (charge_of v.costs v.log)
          (charge_of v.costs (Happens (Dispatch (slice_index s.holders c.request) c.queue) ∷ v.log)) refl charged_now charged_else (is.in_slots c.queue c.request (first_contains (queue_in s.queues c.queue) c.request chosen.is_head.is_first))
          (λ j l holds other. is.running j l holds);
      unsettled = λ none. ap (λ (l : List LogEntry). Happens (Dispatch (slice_index s.holders c.request) c.queue) ∷ l) (is.unsettled (still_unsettled s.running (set s.running c.request (Some (record { queue = c.queue; amount = c.cost }))) (length-set s.running c.request (Some (record { queue = c.queue; amount = c.cost }))) none));
    }

-- it is refused, as the queue is full, and nothing that is stored changes
pub life_refuses : (laws : Laws) (stands : Stands) (v : LifeView) (s : LifeState) (is : IsLifeOf v s) (r : ℕ) (hand : List ℕ) (q cost : ℕ)
    → Comes v r hand q → cost ≤ max_cost → length (queue_in s.queues q) ≡ s.queues.length_limit → IsLifeOf (then_came (asked v r hand cost) (Full r q)) s
life_refuses laws stands v s is r hand q cost comes low full =
    let known = is_asked laws stands v s is r hand cost comes.is_request comes.is_new low in
    let count : length (queue_in s.queues q) ≡ length (waiting v.history q) = sym (length-map (queue_in s.queues q) (λ i. slice_index s.holders i)) ∙ ap (λ (xs : List ℕ). length xs) (is.queue_is q) in
    let may : MayFollow (put v.hands r hand) v.limit v.history (Full r q) = (
      comes.is_new,
      subst (λ (xs : List ℕ). IsShortest (waiting v.history) xs q) (sym (put_here v.hands r hand)) comes.is_shortest,
      (let m = is.limit in omega arith),
    ) in record {
      queue_is = known.queue_is;
      in_slots = known.in_slots;
      in_place = known.in_place;
      fair = ((may, known.fair.0), (tt, known.fair.1));
      events_are = ap (λ (h : List Event). Full r q ∷ h) known.events_are;
      within = life_else_within v.history (Full r q) (numbers_in s.queues) known.within;
      numbers_are = known.numbers_are;
      charged = known.charged;
      deck = known.deck;
      limit = known.limit;
      one_holder_each = known.one_holder_each;
      names_queues = (comes.is_queue, known.names_queues);
      names_requests = ((let n = length-set v.costs r cost in let l = comes.is_request in omega arith), known.names_requests);
      low = known.low;
      few = known.few;
      holders_are = known.holders_are;
      running = known.running;
      unsettled = λ none. ap (λ (l : List LogEntry). Happens (Full r q) ∷ l) (known.unsettled none);
    }
