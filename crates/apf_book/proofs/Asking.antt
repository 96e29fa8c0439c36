-- What a request asks for changes nothing of a history that does not name it.
use Rattle.std.proofs.Common.{◌≡◌, ◌≢◌, ℕ, ◌<◌, ◌≤◌, inl, inr, Bool, true, false, eqb, List, [], ◌∷◌, length, get_or, set, length-set, get_or-set_same, get_or-set_other, refl, sym, ap, ◌∙◌, subst, arith}
use Rattle.std.specs.Prelude.{◌||◌, Contains, slice_index}
use Rattle.std.proofs.lemmas.Bool.{cases_eq, eq-eqb, false≢true}
use Rattle.std.proofs.lemmas.List.{get_or-map, length-map}
use Rattle.apf_words.specs.Limits.{max_cost}
use Rattle.apf_history.specs.declared.events.Event.{Event}
use Rattle.apf_history.specs.declared.events.Event.TheVariants.{Enter, Full, Dispatch, Strike}
use Rattle.apf_history.specs.declared.events.Status.TheVariants as status_is
use Rattle.apf_history.specs.Standing.{EachNames}
use Rattle.apf_model.specs.World.{put, width}
use Rattle.apf_model.specs.History.{request_of, has_arrived, waiting, IsLegal, NamesRequests}
use Rattle.apf_model.specs.Charged.{events, IsSettled}
use Rattle.apf_model.specs.Order.{status}
use Rattle.apf_queue.specs.View.{queue_in}
use Rattle.apf_book.specs.Histories.{Laws, Stands}
use Rattle.apf_book.specs.Life.{LifeView, LifeState, IsLifeOf, holding, asked}
use Rattle.apf_book.proofs.Lists.{first_contains}
use Rattle.apf_book.proofs.Puts.{put_else}

or_false : (a b : Bool) → (a || b) ≡ false → (a ≡ false) × (b ≡ false)
or_false true b e = absurd (false≢true (sym e))
or_false false b e = (refl, e)

other_number : (j r : ℕ) → eqb j r ≡ false → j ≢ r
other_number j r e same = false≢true (sym e ∙ eq-eqb j r same)

each : (P Q : ℕ → Type 0) → ((j : ℕ) → P j → Q j) → (h : List Event) → EachNames P h → EachNames Q h
each P Q f [] k = tt
each P Q f (e ∷ h) k = (f (request_of e) k.0, each P Q f h k.1)

module _ (laws : Laws) (hands : ℕ → List ℕ) (limit r : ℕ) where
  -- who has not arrived waits nowhere
  pub waits_nowhere : (h : List Event) → IsLegal hands limit h → has_arrived h r ≡ false → (q : ℕ) → Contains (waiting h q) r → ⊥
  waits_nowhere h legal new q waits =
      let all = laws.statuses hands limit h legal in
      let away : status h r ≡ status_is.Away = (all.away r).1 new in
      let stays : status h r ≡ status_is.Waits = (all.waits r).1 (q, waits) in
      let same : status_is.Away ≡ status_is.Waits = sym away ∙ stays in
      cc

  -- and no event names it
  pub names_others : (h : List Event) → IsLegal hands limit h → has_arrived h r ≡ false → EachNames (λ j. j ≢ r) h
  names_others [] legal new = tt
  names_others (Enter j q ∷ h) legal new = let o = or_false (eqb j r) (has_arrived h r) new in (other_number j r o.0, names_others h legal.1 o.1)
  names_others (Full j q ∷ h) legal new = let o = or_false (eqb j r) (has_arrived h r) new in (other_number j r o.0, names_others h legal.1 o.1)
  names_others (Dispatch j q ∷ h) legal new =
      ((λ same. waits_nowhere h legal.1 new q (subst (λ (i : ℕ). Contains (waiting h q) i) same (first_contains (waiting h q) j legal.0))), names_others h legal.1 new)
  names_others (Strike j q ∷ h) legal new =
      ((λ same. waits_nowhere h legal.1 new q (subst (λ (i : ℕ). Contains (waiting h q) i) same legal.0)), names_others h legal.1 new)

pub Contains-holding : (holders slots : List ℕ) (slot : ℕ) → Contains slots slot → Contains (holding holders slots) (slice_index holders slot)
Contains-holding holders slots slot c = (
  c.0,
  subst (λ (n : ℕ). c.0 < n) (sym (length-map slots (λ i. slice_index holders i))) c.1,
  get_or-map (λ i. slice_index holders i) slots c.0 slot (slice_index holders slot) c.1 ∙ ap (λ i. slice_index holders i) c.2,
)

module _ (laws : Laws) (stands : Stands) (v : LifeView) (s : LifeState) (is : IsLifeOf v s) (r : ℕ) (hand : List ℕ) (cost : ℕ)
    (is_request : r < length v.costs) (is_new : has_arrived v.history r ≡ false) (low : cost ≤ max_cost) where
  others : EachNames (λ j. j ≢ r) v.history
  others = names_others laws v.hands v.limit r v.history is.fair.0 is_new

  cost_else : (j : ℕ) → j ≢ r → width (set v.costs r cost) j ≡ width v.costs j
  cost_else j ne = get_or-set_other v.costs r j cost 0 ne

  same_costs : EachNames (λ j. width (set v.costs r cost) j ≡ width v.costs j) v.history
  same_costs = each (λ j. j ≢ r) (λ j. width (set v.costs r cost) j ≡ width v.costs j) cost_else v.history others

  same_hands : EachNames (λ j. put v.hands r hand j ≡ v.hands j) v.history
  same_hands = each (λ j. j ≢ r) (λ j. put v.hands r hand j ≡ v.hands j) (put_else v.hands r hand) v.history others

  holder_other : (q slot : ℕ) → Contains (queue_in s.queues q) slot → slice_index s.holders slot ≢ r
  holder_other q slot c same =
      waits_nowhere laws v.hands v.limit r v.history is.fair.0 is_new q
      (subst (λ (xs : List ℕ). Contains xs r) (is.queue_is q) (subst (λ (i : ℕ). Contains (holding s.holders (queue_in s.queues q)) i) same (Contains-holding s.holders (queue_in s.queues q) slot c)))

  low_asked : (j : ℕ) → width (set v.costs r cost) j ≤ max_cost
  low_asked j = elim (cases_eq j r) [
    | inl e ↦ let same : get_or (set v.costs r cost) j 0 ≡ cost = ap (λ i. get_or (set v.costs r cost) i 0) e ∙ get_or-set_same v.costs r cost 0 is_request in omega arith
    | inr ne ↦ let same = cost_else j ne in let n = is.low j in omega arith
  ]

  costs_of_log : EachNames (λ j. width (set v.costs r cost) j ≡ width v.costs j) (events v.log)
  costs_of_log = subst (λ (h : List Event). EachNames (λ j. width (set v.costs r cost) j ≡ width v.costs j) h) (sym is.events_are) same_costs

  still : IsSettled v.queues (set v.costs r cost) (put v.hands r hand) v.limit v.log
  still = stands.stands v.queues v.costs (set v.costs r cost) v.hands (put v.hands r hand) v.limit v.log
      (subst (λ (h : List Event). EachNames (λ j. put v.hands r hand j ≡ v.hands j) h) (sym is.events_are) same_hands) costs_of_log
      (subst (λ (h : List Event). IsLegal v.hands v.limit h) (sym is.events_are) is.fair.0, is.fair.1)

  -- so the queues are those of the same history with what it asks for
  pub is_asked : IsLifeOf (asked v r hand cost) s
  is_asked = record {
    queue_is = is.queue_is;
    in_slots = is.in_slots;
    in_place = is.in_place;
    fair = (subst (λ (h : List Event). IsLegal (put v.hands r hand) v.limit h) is.events_are still.0, still.1);
    events_are = is.events_are;
    within = is.within;
    numbers_are = is.numbers_are ∙ sym (stands.numbers v.queues v.costs (set v.costs r cost) v.log costs_of_log);
    charged = λ q slot c. is.charged q slot c ∙ sym (cost_else (slice_index s.holders slot) (holder_other q slot c));
    deck = is.deck;
    limit = is.limit;
    one_holder_each = is.one_holder_each;
    names_queues = is.names_queues;
    names_requests = subst (λ (n : ℕ). NamesRequests n v.history) (sym (length-set v.costs r cost)) is.names_requests;
    low = low_asked;
    few = (let n = length-set v.costs r cost in let k = is.few in omega arith);
    holders_are = is.holders_are;
    running = λ j l holds. is.running j l holds ∙ sym (stands.charges v.costs (set v.costs r cost) v.log costs_of_log j);
    unsettled = is.unsettled;
  }
