-- What a strike leaves of the queues of slots.
use Rattle.std.proofs.Common.{◌≡◌, ◌≢◌, ℕ, zero, suc, ◌<◌, inl, inr, Bool, cond, not, eqb, List, [], ◌∷◌, length, length-set, get_or-set_same, get_or-set_other, Option, Some, None, refl, sym, ap, ◌∙◌, subst, arith}
use Rattle.std.specs.Prelude.{Contains, slice_index, IfSome, IfNone, ◌↔◌}
use Rattle.std.proofs.lemmas.Bool.{cases_eq, cases_lt, eq-eqb, ne_eqb}
use Rattle.std.proofs.lemmas.List.{get_or_past, set-get_or}
use Rattle.apf_gate.specs.Slots.{slot_of}
use Rattle.apf_history.specs.declared.events.Event.{Event}
use Rattle.apf_history.specs.declared.events.LogEntry.{LogEntry}
use Rattle.apf_history.specs.declared.events.LogEntry.TheVariants.{Happens}
use Rattle.apf_history.specs.declared.events.Event.TheVariants.{Strike}
use Rattle.apf_model.specs.World.{put, width}
use Rattle.apf_model.specs.History.{waiting}
use Rattle.apf_queue.specs.RingsView.{without}
use Rattle.apf_queue.specs.View.{QueuesView, queue_in, numbers_in, struck}
use Rattle.apf_book.specs.Histories.{Laws}
use Rattle.apf_book.specs.Life.{LifeView, LifeState, IsLifeOf, holding, asked, then_came}
use Rattle.apf_book.proofs.Lists.{Contains-head, Contains-tail, Contains-none, Contains-filter}
use Rattle.apf_book.proofs.Puts.{put_here, put_else}
use Rattle.apf_book.proofs.Asking.{Contains-holding}
use Rattle.apf_book.proofs.Times.{life_else_within}

-- a request that holds one of these slots
slot_held : (holders slots : List ℕ) (r : ℕ) → Contains (holding holders slots) r → (slot : ℕ) × Contains slots slot × (slice_index holders slot ≡ r)
slot_held holders [] r c = absurd (Contains-none r c)
slot_held holders (x ∷ xs) r (zero, l, e) = (x, Contains-head x xs, e)
slot_held holders (x ∷ xs) r (suc i, l, e) =
    let later = slot_held holders xs r (i, (let k : suc i < suc (length (holding holders xs)) = l in omega arith), e) in
    (later.0, Contains-tail x xs later.0 later.1, later.2)

-- the slot without which, is the request without which
held_without : (holders : List ℕ) (slot r : ℕ) (slots : List ℕ) → slice_index holders slot ≡ r → ((x : ℕ) → Contains slots x → slice_index holders x ≡ r → x ≡ slot)
    → holding holders (without slot slots) ≡ without r (holding holders slots)
held_without holders slot r [] holds one = refl
held_without holders slot r (x ∷ xs) holds one = elim (cases_eq slot x) [
  | inl e ↦
      let held : r ≡ slice_index holders x = sym holds ∙ ap (slice_index holders) e in
      ap (λ (b : Bool). holding holders (cond (not b) (x ∷ without slot xs) (without slot xs))) (eq-eqb slot x e)
      ∙ held_without holders slot r xs holds (λ y c k. one y (Contains-tail x xs y c) k)
      ∙ sym (ap (λ (b : Bool). cond (not b) (slice_index holders x ∷ without r (holding holders xs)) (without r (holding holders xs))) (eq-eqb r (slice_index holders x) held))
  | inr ne ↦
      let other : r ≢ slice_index holders x = λ same. ne (sym (one x (Contains-head x xs) (sym same))) in
      ap (λ (b : Bool). holding holders (cond (not b) (x ∷ without slot xs) (without slot xs))) (ne_eqb slot x ne)
      ∙ ap (λ (ys : List ℕ). slice_index holders x ∷ ys) (held_without holders slot r xs holds (λ y c k. one y (Contains-tail x xs y c) k))
      ∙ sym (ap (λ (b : Bool). cond (not b) (slice_index holders x ∷ without r (holding holders xs)) (without r (holding holders xs))) (ne_eqb r (slice_index holders x) other))
]

module _ (v : LifeView) (s : LifeState) (is : IsLifeOf v s) (r : ℕ) where
  -- who waits holds its slot
  waits_in_slot : (q : ℕ) → Contains (waiting v.history q) r → Contains (queue_in s.queues q) (slot_of r) × (slice_index s.holders (slot_of r) ≡ r)
  waits_in_slot q waits =
      let held = slot_held s.holders (queue_in s.queues q) r (subst (λ (xs : List ℕ). Contains xs r) (sym (is.queue_is q)) waits) in
      let own : held.0 ≡ slot_of r = sym (is.in_slots q held.0 held.1) ∙ ap slot_of held.2 in (
        subst (λ (i : ℕ). Contains (queue_in s.queues q) i) own held.1,
        subst (λ (i : ℕ). slice_index s.holders i ≡ r) own held.2,
      )

  -- another one holds its slot
  pub held_by_other : slice_index s.holders (slot_of r) ≢ r → (q : ℕ) → Contains (waiting v.history q) r → ⊥
  held_by_other other q waits = other (waits_in_slot q waits).1

  -- its slot waits in no queue
  pub waits_in_none : ((q : ℕ) → Contains (queue_in s.queues q) (slot_of r) → ⊥) → (q : ℕ) → Contains (waiting v.history q) r → ⊥
  waits_in_none nowhere q waits = nowhere q (waits_in_slot q waits).0

  module _ (q : ℕ) (holds : slice_index s.holders (slot_of r) ≡ r) (stands : Contains (queue_in s.queues q) (slot_of r)) where
    is_queue : q < length s.queues.queues
    is_queue = elim (cases_lt q (length s.queues.queues)) [
      | inl l ↦ l
      | inr past ↦ absurd (Contains-none (slot_of r) (subst (λ (xs : List ℕ). Contains xs (slot_of r)) (get_or_past s.queues.queues q [] past) stands))
    ]

    -- who holds a slot that stands in a queue waits there
    pub stands_and_waits : Contains (waiting v.history q) r
    stands_and_waits = subst (λ (xs : List ℕ). Contains xs r) (is.queue_is q) (subst (λ (i : ℕ). Contains (holding s.holders (queue_in s.queues q)) i) holds (Contains-holding s.holders (queue_in s.queues q) (slot_of r) stands))

  module _ (laws : Laws) (q : ℕ) (holds : slice_index s.holders (slot_of r) ≡ r) (stands : Contains (queue_in s.queues q) (slot_of r)) where
    inside : q < length s.queues.queues
    inside = is_queue q holds stands

    waits : Contains (waiting v.history q) r
    waits = stands_and_waits q holds stands

    here : queue_in (struck s.queues q (slot_of r)) q ≡ without (slot_of r) (queue_in s.queues q)
    here = get_or-set_same s.queues.queues q (without (slot_of r) (queue_in s.queues q)) [] inside

    else : (p : ℕ) → p ≢ q → queue_in (struck s.queues q (slot_of r)) p ≡ queue_in s.queues p
    else p ne = get_or-set_other s.queues.queues q p (without (slot_of r) (queue_in s.queues q)) [] ne

    follows : (p : ℕ) → waiting (Strike r q ∷ v.history) p ≡ put (waiting v.history) q (without r (waiting v.history q)) p
    follows p = (laws.follows v.hands v.limit v.history (Strike r q) is.fair.0 waits).queues p

    queues_after : (p : ℕ) → holding s.holders (queue_in (struck s.queues q (slot_of r)) p) ≡ waiting (Strike r q ∷ v.history) p
    queues_after p = elim (cases_eq p q) [
      | inl e ↦ subst (λ (i : ℕ). holding s.holders (queue_in (struck s.queues q (slot_of r)) i) ≡ waiting (Strike r q ∷ v.history) i) (sym e)
          (ap (holding s.holders) here
          ∙ held_without s.holders (slot_of r) r (queue_in s.queues q) holds (λ x c k. sym (is.in_slots q x c) ∙ ap slot_of k)
          ∙ ap (without r) (is.queue_is q) ∙ sym (follows q ∙ put_here (waiting v.history) q (without r (waiting v.history q))))
      | inr ne ↦ ap (holding s.holders) (else p ne) ∙ is.queue_is p ∙ sym (follows p ∙ put_else (waiting v.history) q (without r (waiting v.history q)) p ne)
    ]

    stood : (p slot : ℕ) → Contains (queue_in (struck s.queues q (slot_of r)) p) slot → Contains (queue_in s.queues p) slot
    stood p slot k = elim (cases_eq p q) [
      | inl e ↦ subst (λ (i : ℕ). Contains (queue_in s.queues i) slot) (sym e)
          (Contains-filter (λ j. not (eqb (slot_of r) j)) (queue_in s.queues q) slot (subst (λ (xs : List ℕ). Contains xs slot) (ap (queue_in (struck s.queues q (slot_of r))) e ∙ here) k))
      | inr ne ↦ subst (λ (xs : List ℕ). Contains xs slot) (else p ne) k
    ]

    pub life_strikes : IsLifeOf (then_came v (Strike r q)) (record { queues = struck s.queues q (slot_of r); holders = s.holders; hand = s.hand; known = s.known; running = s.running })
    life_strikes = record {
      queue_is = queues_after;
      in_slots = λ p slot k. is.in_slots p slot (stood p slot k);
      in_place = λ p slot k. is.in_place p slot (stood p slot k);
      fair = ((waits, is.fair.0), (tt, is.fair.1));
      events_are = ap (λ (h : List Event). Strike r q ∷ h) is.events_are;
      within = life_else_within v.history (Strike r q) (numbers_in s.queues) is.within;
      numbers_are = is.numbers_are;
      charged = λ p slot k. is.charged p slot (stood p slot k);
      deck = length-set s.queues.queues q (without (slot_of r) (queue_in s.queues q)) ∙ is.deck;
      limit = is.limit;
      one_holder_each = is.one_holder_each;
      names_queues = ((let d = is.deck in let l = inside in omega arith), is.names_queues);
      names_requests = ((laws.numbers v.hands v.limit v.history is.fair.0).waits_named (length v.costs) is.names_requests q r waits, is.names_requests);
      low = is.low;
      few = is.few;
      holders_are = is.holders_are;
      running = is.running;
      unsettled = λ none. ap (λ (l : List LogEntry). Happens (Strike r q) ∷ l) (is.unsettled none);
    }

-- what a removal of the slot answers
pub strike_none : (o : Option ℕ) (s : LifeState) (r : ℕ) → ((q : ℕ) → (o ≡ Some q) ↔ Contains (queue_in s.queues q) (slot_of r))
    → IfNone o ((v : LifeView) → IsLifeOf v s → (q : ℕ) → Contains (waiting v.history q) r → ⊥)
strike_none None s r stood = λ v is. waits_in_none v s is r (λ q k. (let e : ◌≡◌ {A = Option ℕ} None (Some q) = (stood q).1 k in cc))
strike_none (Some p) s r stood = tt

pub strike_some : (laws : Laws) (o : Option ℕ) (s : LifeState) (t : QueuesView) (r : ℕ) → slice_index s.holders (slot_of r) ≡ r
    → ((q : ℕ) → (o ≡ Some q) ↔ Contains (queue_in s.queues q) (slot_of r)) → IfSome o (λ q. t ≡ struck s.queues q (slot_of r))
    → IfSome o (λ q. (v : LifeView) → IsLifeOf v s → IsLifeOf (then_came v (Strike r q)) (record { queues = t; holders = s.holders; hand = s.hand; known = s.known; running = s.running }))
strike_some laws None s t r holds stood e = tt
strike_some laws (Some q) s t r holds stood e = λ v is.
    subst (λ (x : QueuesView). IsLifeOf (then_came v (Strike r q)) (record { queues = x; holders = s.holders; hand = s.hand; known = s.known; running = s.running })) (sym e)
    (life_strikes v s is r laws q holds ((stood q).0 (refl {a = Some q})))

-- a request that asks for what is known of it changes nothing
put_known : {A : Type 0} (f : ℕ → A) (r x : ℕ) → put f r (f r) x ≡ f x
put_known f r x = elim (cases_eq x r) [ inl e ↦ ap (put f r (f r)) e ∙ put_here f r (f r) ∙ ap f (sym e) | inr ne ↦ put_else f r (f r) x ne ]

pub asked_known : (v : LifeView) (r : ℕ) → asked v r (v.hands r) (width v.costs r) ≡ v
asked_known v r = λ i. record { history = v.history; log = v.log; costs = set-get_or v.costs r 0 i; hands = λ x. put_known v.hands r x i; queues = v.queues; limit = v.limit }
