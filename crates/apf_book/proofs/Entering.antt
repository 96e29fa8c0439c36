-- What the arrival of a request leaves of the queues of slots.
use Rattle.std.proofs.Common.{◌≡◌, ◌≢◌, ℕ, ◌<◌, ◌≤◌, inl, inr, Bool, cond, List, [], ◌∷◌, ◌++◌, length, get_or, set, length-set, get_or-set_same, get_or-set_other, None, refl, sym, ap, ap₂, ◌∙◌, subst, arith}
use Rattle.std.specs.Prelude.{Contains, slice_index}
use Rattle.std.proofs.lemmas.Bool.{cases_eq, eq-eqb, ne_eqb}
use Rattle.std.proofs.lemmas.List.{map_push, length-map}
use Rattle.std.proofs.lemmas.List.Elements.{Contains-push_cases}
use Rattle.apf_gate.specs.Slots.{slot_of}
use Rattle.apf_words.specs.Limits.{max_cost}
use Rattle.apf_history.specs.declared.events.Event.{Event}
use Rattle.apf_history.specs.declared.events.Event.TheVariants.{Enter}
use Rattle.apf_history.specs.declared.events.LogEntry.{LogEntry}
use Rattle.apf_history.specs.declared.events.LogEntry.TheVariants.{Happens}
use Rattle.apf_history.specs.Standing.{EachNames}
use Rattle.apf_model.specs.World.{put, width}
use Rattle.apf_model.specs.History.{waiting, IsShortest, MayFollow, IsLegal}
use Rattle.apf_model.specs.Fair.{Numbers, after_enter}
use Rattle.apf_model.specs.Charged.{charged_numbers, charge_of}
use Rattle.apf_queue.specs.View.{QueuesView, queue_in, numbers_in, StandsNowhere, Enters}
use Rattle.apf_book.specs.Histories.{Laws, Stands}
use Rattle.apf_book.specs.Life.{LifeView, LifeState, IsLifeOf, holding, holder_by, Comes, asked, then_came}
use Rattle.apf_book.proofs.Lists.{Contains-head, Contains-tail}
use Rattle.apf_book.proofs.Puts.{put_here, put_else}
use Rattle.apf_book.proofs.Asking.{is_asked, names_others}
use Rattle.apf_book.proofs.LifeCharges.{still_unsettled, kept_then}
use Rattle.apf_book.proofs.Times.{life_enter_within}

-- a slot that does not stand there gets another holder
holding_else : (holders : List ℕ) (slot r : ℕ) (slots : List ℕ) → (Contains slots slot → ⊥) → holding (set holders slot r) slots ≡ holding holders slots
holding_else holders slot r [] out = refl
holding_else holders slot r (x ∷ xs) out =
    ap₂ ◌∷◌ (get_or-set_other holders slot x r 0 (λ e. out (subst (λ (i : ℕ). Contains (x ∷ xs) i) e (Contains-head x xs))))
    (holding_else holders slot r xs (λ c. out (Contains-tail x xs slot c)))

-- an Enter goes by whether the queue is empty, and not by who stands there
enter_same : (q : ℕ) (holders slots : List ℕ) (n : Numbers) → after_enter q slots n ≡ after_enter q (holding holders slots) n
enter_same q holders [] n = refl
enter_same q holders (x ∷ xs) n = refl

module _ (laws : Laws) (stands : Stands) (v : LifeView) (s : LifeState) (is : IsLifeOf v s) (r : ℕ) (hand : List ℕ) (q cost : ℕ)
    (comes : Comes v r hand q) (low : cost ≤ max_cost) (has_slot : slot_of r < length s.holders)
    (nowhere : StandsNowhere s.queues (slot_of r)) (room : length (queue_in s.queues q) ≢ s.queues.length_limit)
    (t : QueuesView) (enters : Enters s.queues t q (slot_of r) cost) where
  known : IsLifeOf (asked v r hand cost) s
  known = is_asked laws stands v s is r hand cost comes.is_request comes.is_new low

  waiting_count : length (queue_in s.queues q) ≡ length (waiting v.history q)
  waiting_count = sym (length-map (queue_in s.queues q) (λ i. slice_index s.holders i)) ∙ ap (λ (xs : List ℕ). length xs) (is.queue_is q)

  may : MayFollow (put v.hands r hand) v.limit v.history (Enter r q)
  may = (
    comes.is_new,
    subst (λ (xs : List ℕ). IsShortest (waiting v.history) xs q) (sym (put_here v.hands r hand)) comes.is_shortest,
    (let l = (laws.order v.hands v.limit v.history is.fair.0).within_limit q in let n = waiting_count in let m = is.limit in omega (arith, room)),
  )

  queue_here : queue_in t q ≡ queue_in s.queues q ++ slot_of r ∷ []
  queue_here = ap (λ (x : List (List ℕ)). get_or x q []) enters.queues
      ∙ get_or-set_same s.queues.queues q (queue_in s.queues q ++ slot_of r ∷ []) [] (let d = is.deck in let l = comes.is_queue in omega arith)

  queue_else : (p : ℕ) → p ≢ q → queue_in t p ≡ queue_in s.queues p
  queue_else p ne = ap (λ (x : List (List ℕ)). get_or x p []) enters.queues ∙ get_or-set_other s.queues.queues q p (queue_in s.queues q ++ slot_of r ∷ []) [] ne

  follows : (p : ℕ) → waiting (Enter r q ∷ v.history) p ≡ put (waiting v.history) q (waiting v.history q ++ r ∷ []) p
  follows p = (laws.follows (put v.hands r hand) v.limit v.history (Enter r q) known.fair.0 may).queues p

  holder_here : slice_index (set s.holders (slot_of r) r) (slot_of r) ≡ r
  holder_here = get_or-set_same s.holders (slot_of r) r 0 has_slot

  holder_else : (slot : ℕ) → slot ≢ slot_of r → slice_index (set s.holders (slot_of r) r) slot ≡ slice_index s.holders slot
  holder_else slot ne = get_or-set_other s.holders (slot_of r) slot r 0 ne

  queues_after : (p : ℕ) → holding (set s.holders (slot_of r) r) (queue_in t p) ≡ waiting (Enter r q ∷ v.history) p
  queues_after p = elim (cases_eq p q) [
    | inl e ↦ subst (λ (i : ℕ). holding (set s.holders (slot_of r) r) (queue_in t i) ≡ waiting (Enter r q ∷ v.history) i) (sym e)
        (ap (holding (set s.holders (slot_of r) r)) queue_here
        ∙ map_push (λ i. slice_index (set s.holders (slot_of r) r) i) (queue_in s.queues q) (slot_of r)
        ∙ ap₂ (λ (xs : List ℕ) (x : ℕ). xs ++ x ∷ []) (holding_else s.holders (slot_of r) r (queue_in s.queues q) (nowhere q) ∙ is.queue_is q) holder_here
        ∙ sym (follows q ∙ put_here (waiting v.history) q (waiting v.history q ++ r ∷ [])))
    | inr ne ↦ ap (holding (set s.holders (slot_of r) r)) (queue_else p ne)
        ∙ holding_else s.holders (slot_of r) r (queue_in s.queues p) (nowhere p) ∙ is.queue_is p
        ∙ sym (follows p ∙ put_else (waiting v.history) q (waiting v.history q ++ r ∷ []) p ne)
  ]

  -- who stands in a queue then is the one that entered, or stood there
  stood : (p slot : ℕ) → slot ≢ slot_of r → Contains (queue_in t p) slot → Contains (queue_in s.queues p) slot
  stood p slot ne c = elim (cases_eq p q) [
    | inl e ↦ elim (Contains-push_cases (queue_in s.queues q) (slot_of r) slot (subst (λ (xs : List ℕ). Contains xs slot) (ap (queue_in t) e ∙ queue_here) c)) [
      | inl old ↦ subst (λ (i : ℕ). Contains (queue_in s.queues i) slot) (sym e) old
      | inr new ↦ absurd (ne (sym new))
    ]
    | inr other ↦ subst (λ (xs : List ℕ). Contains xs slot) (queue_else p other) c
  ]

  in_slots_after : (p slot : ℕ) → Contains (queue_in t p) slot → slot_of (slice_index (set s.holders (slot_of r) r) slot) ≡ slot
  in_slots_after p slot c = elim (cases_eq slot (slot_of r)) [
    | inl e ↦ ap (λ i. slot_of (slice_index (set s.holders (slot_of r) r) i)) e ∙ ap slot_of holder_here ∙ sym e
    | inr ne ↦ ap slot_of (holder_else slot ne) ∙ is.in_slots p slot (stood p slot ne c)
  ]

  in_place_after : (p slot : ℕ) → Contains (queue_in t p) slot → slot < length (set s.holders (slot_of r) r)
  in_place_after p slot c = elim (cases_eq slot (slot_of r)) [
    | inl e ↦ (let n = length-set s.holders (slot_of r) r in omega (arith, has_slot, e))
    | inr ne ↦ (let n = length-set s.holders (slot_of r) r in let l = is.in_place p slot (stood p slot ne c) in omega arith)
  ]

  charged_after : (p slot : ℕ) → Contains (queue_in t p) slot → width t.costs slot ≡ width (set v.costs r cost) (slice_index (set s.holders (slot_of r) r) slot)
  charged_after p slot c = elim (cases_eq slot (slot_of r)) [
    | inl e ↦ ap (width t.costs) e ∙ ap (λ (x : List ℕ). get_or x (slot_of r) 0) enters.costs
        ∙ get_or-set_same s.queues.costs (slot_of r) cost 0 (let n = is.one_holder_each in let l = has_slot in omega arith)
        ∙ sym (ap (λ i. width (set v.costs r cost) (slice_index (set s.holders (slot_of r) r) i)) e ∙ ap (width (set v.costs r cost)) holder_here
        ∙ get_or-set_same v.costs r cost 0 comes.is_request)
    | inr ne ↦ ap (λ (x : List ℕ). get_or x slot 0) enters.costs ∙ get_or-set_other s.queues.costs (slot_of r) slot cost 0 ne
        ∙ known.charged p slot (stood p slot ne c) ∙ sym (ap (width (set v.costs r cost)) (holder_else slot ne))
  ]

  holders_after : (slot : ℕ) → slot < length (set s.holders (slot_of r) r) → slice_index (set s.holders (slot_of r) r) slot ≡ holder_by (Enter r q ∷ v.history) slot
  holders_after slot l = elim (cases_eq slot (slot_of r)) [
    | inl e ↦ ap (slice_index (set s.holders (slot_of r) r)) e ∙ holder_here ∙ sym (ap (λ (b : Bool). cond b r (holder_by v.history slot)) (eq-eqb (slot_of r) slot (sym e)))
    | inr ne ↦ holder_else slot ne ∙ is.holders_are slot (let n = length-set s.holders (slot_of r) r in omega arith) ∙ sym (ap (λ (b : Bool). cond b r (holder_by v.history slot)) (ne_eqb (slot_of r) slot (λ e. ne (sym e))))
  ]

  -- nothing was charged for it before
  uncharged : charge_of (set v.costs r cost) v.log r ≡ None
  uncharged = stands.unnamed v.queues (set v.costs r cost) (put v.hands r hand) v.limit v.log r
      (subst (λ (h : List Event). IsLegal (put v.hands r hand) v.limit h) (sym known.events_are) known.fair.0, known.fair.1)
      (subst (λ (h : List Event). EachNames (λ j. j ≢ r) h) (sym is.events_are) (names_others laws v.hands v.limit r v.history is.fair.0 comes.is_new))

  pub life_enters : IsLifeOf (then_came (asked v r hand cost) (Enter r q)) (record { queues = t; holders = set s.holders (slot_of r) r; hand = s.hand; known = s.known; running = set s.running (slot_of r) None })
  life_enters = record {
    queue_is = queues_after;
    in_slots = in_slots_after;
    in_place = in_place_after;
    fair = ((may, known.fair.0), (tt, known.fair.1));
    events_are = ap (λ (h : List Event). Enter r q ∷ h) known.events_are;
    within = life_enter_within v.history r q (queue_in s.queues q) (numbers_in s.queues) (numbers_in t) known.within enters.numbers;
    numbers_are = enters.numbers ∙ (ap (λ (n : Numbers). after_enter q (queue_in s.queues q) n) known.numbers_are
        ∙ (enter_same q s.holders (queue_in s.queues q) (charged_numbers v.queues (set v.costs r cost) v.log)
        ∙ ap (λ (xs : List ℕ). after_enter q xs (charged_numbers v.queues (set v.costs r cost) v.log)) (is.queue_is q ∙ ap (λ (h : List Event). waiting h q) (sym is.events_are))));
    charged = charged_after;
    deck = ap (λ (x : List (List ℕ)). length x) enters.queues ∙ (length-set s.queues.queues q (queue_in s.queues q ++ slot_of r ∷ []) ∙ is.deck);
    limit = enters.length_limit ∙ is.limit;
    one_holder_each = length-set s.holders (slot_of r) r ∙ (is.one_holder_each ∙ sym (ap (λ (x : List ℕ). length x) enters.costs ∙ length-set s.queues.costs (slot_of r) cost));
    names_queues = (comes.is_queue, is.names_queues);
    names_requests = ((let n = length-set v.costs r cost in let l = comes.is_request in omega arith), known.names_requests);
    low = known.low;
    few = known.few;
    holders_are = holders_after;
    running = kept_then s.running (set s.holders (slot_of r) r) (slot_of r) r None (charge_of (set v.costs r cost) v.log) (charge_of (set v.costs r cost) v.log) holder_here uncharged (λ j ne. refl) refl
        (λ j l holds other. known.running j l (sym (holder_else (slot_of j) other) ∙ holds));
    unsettled = λ none. ap (λ (l : List LogEntry). Happens (Enter r q) ∷ l) (known.unsettled (still_unsettled s.running (set s.running (slot_of r) None) (length-set s.running (slot_of r) None) none));
  }
