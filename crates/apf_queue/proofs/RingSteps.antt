-- What a push and a removal leave of the rings, as contracts see them.
use Rattle.std.proofs.Common.{◌≡◌, ◌≢◌, ℕ, ◌+◌, ◌<◌, ◌≤◌, inl, inr, List, [], ◌∷◌, ◌++◌, length, get_or, set, Option, Some, None, length-set, get_or-set_same, get_or-set_other, refl, sym, ap, ◌∙◌, subst, arith}
use Rattle.std.specs.Prelude.{Contains, ◌↔◌}
use Rattle.std.proofs.lemmas.Bool.{cases_lt}
use Rattle.std.proofs.lemmas.List.{get_or_past}
use Rattle.std.proofs.lemmas.List.Elements.{Contains-append_right}
use Rattle.apf_queue.specs.Nodes.{NotIn, AreApart, IsRing, AreLinked}
use Rattle.apf_queue.specs.RingsView.{RingsView, ring as seen_list, AreRings, rings_from, ring_at, queue_at, without}
use Rattle.apf_queue.proofs.Places.{Contains-head, without-out}
use Rattle.apf_queue.proofs.RingLists.{seen_count, seen_requests, seen_ring, rings_from_is, AreRings-ring_at, AreRings-push, AreRings-remove}

pub None-from : (o : Option ℕ) → ((q : ℕ) → o ≡ Some q → ⊥) → o ≡ None
None-from None h = refl
None-from (Some q) h = absurd (h q refl)

-- what is seen of the same fields
seen_as : (queues queues' : List (List ℕ)) (costs costs' : List ℕ) (requests requests' : ℕ) → queues ≡ queues' → costs ≡ costs' → requests ≡ requests'
    → ◌≡◌ {A = RingsView} (record { queues = queues; costs = costs; requests = requests }) (record { queues = queues'; costs = costs'; requests = requests' })
seen_as queues queues' costs costs' requests requests' a b c = λ i. record { queues = a i; costs = b i; requests = c i }

contains_none : (r : ℕ) → Contains [] r → ⊥
contains_none r c = absurd (let l : c.0 < 0 = c.1 in omega arith)

module _ (requests : ℕ) (next previous : List ℕ) (queue_of : List (Option ℕ)) (lengths costs : List ℕ) (seen : RingsView)
    (is : ◌≡◌ {A = RingsView} (record { queues = rings_from next requests lengths; costs = costs; requests = requests }) seen)
    (rings : AreRings requests next previous queue_of lengths (ring_at requests next lengths)) where
  -- a request that stands in no list has no queue recorded
  pub recorded_none : (r : ℕ) → ((q : ℕ) → Contains (seen_list seen q) r → ⊥) → queue_at queue_of r ≡ None
  recorded_none r nowhere =
      None-from (queue_at queue_of r) (λ q e. nowhere q (subst (λ (xs : List ℕ). Contains xs r) (sym (seen_ring requests next lengths costs seen is q)) (rings.found q r e).1))

  -- the queue that is recorded is the one whose list has the request
  pub recorded_contains : (q r : ℕ) → queue_at queue_of r ≡ Some q → Contains (seen_list seen q) r
  recorded_contains q r e = subst (λ (xs : List ℕ). Contains xs r) (sym (seen_ring requests next lengths costs seen is q)) (rings.found q r e).1

  in_count : (q r : ℕ) → Contains (seen_list seen q) r → q < length lengths
  in_count q r c = elim (cases_lt q (length lengths)) [
    | inl l ↦ l
    | inr past ↦
        let none : seen_list seen q ≡ [] = get_or_past seen.queues q [] (subst (λ (m : ℕ). m ≤ q) (sym (seen_count requests next lengths costs seen is)) past) in
        absurd (contains_none r (subst (λ (xs : List ℕ). Contains xs r) none c))
  ]

  -- the queue that is recorded is the one whose list has the request
  pub recorded_is : (o : Option ℕ) (r : ℕ) → o ≡ queue_at queue_of r → (q : ℕ) → (o ≡ Some q) ↔ Contains (seen_list seen q) r
  recorded_is o r same q = (
    (λ e. recorded_contains q r (sym same ∙ e)),
    (λ c. same ∙ (rings.owned q (in_count q r c) r (subst (λ (xs : List ℕ). Contains xs r) (seen_ring requests next lengths costs seen is q) c)).1),
  )

  -- a list without a request that stands in it
  pub taken_out : (q r : ℕ) (before after : List ℕ) → seen_list seen q ≡ before ++ r ∷ after → without r (seen_list seen q) ≡ before ++ after
  taken_out q r before after e =
      let c : Contains (seen_list seen q) r = subst (λ (xs : List ℕ). Contains xs r) (sym e) (Contains-append_right before (r ∷ after) r (Contains-head r after)) in
      ap (without r) e ∙ without-out before r after (subst AreApart (sym (seen_ring requests next lengths costs seen is q) ∙ e) (rings.apart q (in_count q r c)))

  -- a queue that is recorded is not empty
  pub recorded_some : (q r : ℕ) → queue_at queue_of r ≡ Some q → 1 ≤ get_or lengths q 0
  recorded_some q r e =
      let f = rings.found q r e in
      let n = rings.counted q f.0 in
      let l : f.1.0 < length (ring_at requests next lengths q) = f.1.1 in
      omega arith

  pub recorded_in : (q r : ℕ) → queue_at queue_of r ≡ Some q → q < length lengths
  recorded_in q r e = (rings.found q r e).0

  module _ (q r : ℕ) (q_in : q < length seen.queues) (r_in : r < seen.requests) (nowhere : (p : ℕ) → Contains (seen_list seen p) r → ⊥)
      (next' previous' : List ℕ) (linked : AreLinked next' previous') (same_len : length next' ≡ length next)
      (alone : (i : ℕ) → i ≢ r → i ≢ requests + q → get_or next i 0 ≡ i → get_or next' i 0 ≡ i)
      (ring : (nodes : List ℕ) → IsRing next (requests + q) nodes → AreApart ((requests + q) ∷ nodes) → NotIn r ((requests + q) ∷ nodes)
      → IsRing next' (requests + q) (nodes ++ r ∷ []))
      (others : (h : ℕ) (nodes : List ℕ) → IsRing next h nodes → NotIn r (h ∷ nodes) → NotIn (requests + q) (h ∷ nodes) → IsRing next' h nodes)
      (n : ℕ) (n_is : n ≡ get_or lengths q 0 + 1) where
    after_push : AreRings requests next' previous' (set queue_of r (Some q)) (set lengths q n) (λ p. get_or (set seen.queues q (seen_list seen q ++ r ∷ [])) p [])
    after_push =
        let in_lengths : q < length lengths = subst (λ (m : ℕ). q < m) (seen_count requests next lengths costs seen is) q_in in
        let same : requests ≡ seen.requests = seen_requests requests next lengths costs seen is in
        AreRings-push requests next previous queue_of lengths (ring_at requests next lengths) rings q r in_lengths (omega arith) (recorded_none r nowhere)
        next' previous' linked same_len alone ring others (λ p. get_or (set seen.queues q (seen_list seen q ++ r ∷ [])) p [])
        (get_or-set_same seen.queues q (seen_list seen q ++ r ∷ []) [] q_in ∙ ap (λ xs. xs ++ r ∷ []) (seen_ring requests next lengths costs seen is q))
        (λ p ne. get_or-set_other seen.queues q p (seen_list seen q ++ r ∷ []) [] ne ∙ seen_ring requests next lengths costs seen is p) n n_is

    pub push_rings : AreRings requests next' previous' (set queue_of r (Some q)) (set lengths q n) (ring_at requests next' (set lengths q n))
    push_rings = AreRings-ring_at _ _ _ _ _ _ after_push

    pub push_seen : (k : ℕ) (costs' : List ℕ) → costs' ≡ set costs r k → ◌≡◌ {A = RingsView} (record { queues = rings_from next' requests (set lengths q n); costs = costs'; requests = requests })
        (record { queues = set seen.queues q (seen_list seen q ++ r ∷ []); costs = set seen.costs r k; requests = seen.requests })
    push_seen k costs' charged =
        let same = length-set seen.queues q (seen_list seen q ++ r ∷ []) ∙ seen_count requests next lengths costs seen is ∙ sym (length-set lengths q n) in
        seen_as _ _ _ _ _ _
        (rings_from_is requests next' previous' (set queue_of r (Some q)) (set lengths q n) _ after_push (set seen.queues q (seen_list seen q ++ r ∷ [])) same (λ p l. refl))
        (charged ∙ ap (λ (v : RingsView). set v.costs r k) is)
        (seen_requests requests next lengths costs seen is)

  module _ (q r : ℕ) (r_in : r < requests) (r_at : queue_at queue_of r ≡ Some q)
      (next' previous' : List ℕ) (linked : AreLinked next' previous') (same_len : length next' ≡ length next)
      (alone : get_or next' r 0 ≡ r) (still_alone : (i : ℕ) → get_or next i 0 ≡ i → get_or next' i 0 ≡ i)
      (ring : (head : ℕ) (before after : List ℕ) → IsRing next head (before ++ r ∷ after) → AreApart (head ∷ (before ++ r ∷ after))
      → head < length next → IsRing next' head (before ++ after))
      (others : (h : ℕ) (nodes : List ℕ) → IsRing next h nodes → NotIn r (h ∷ nodes) → IsRing next' h nodes)
      (n : ℕ) (n_is : n + 1 ≡ get_or lengths q 0) where
    after_remove : AreRings requests next' previous' (set queue_of r None) (set lengths q n) (λ p. get_or (set seen.queues q (without r (seen_list seen q))) p [])
    after_remove =
        let q_in : q < length seen.queues = subst (λ (m : ℕ). q < m) (sym (seen_count requests next lengths costs seen is)) (rings.found q r r_at).0 in
        AreRings-remove requests next previous queue_of lengths (ring_at requests next lengths) rings q r r_in r_at
        next' previous' linked same_len alone still_alone ring others (λ p. get_or (set seen.queues q (without r (seen_list seen q))) p [])
        (get_or-set_same seen.queues q (without r (seen_list seen q)) [] q_in ∙ ap (without r) (seen_ring requests next lengths costs seen is q))
        (λ p ne. get_or-set_other seen.queues q p (without r (seen_list seen q)) [] ne ∙ seen_ring requests next lengths costs seen is p) n n_is

    pub remove_rings : AreRings requests next' previous' (set queue_of r None) (set lengths q n) (ring_at requests next' (set lengths q n))
    remove_rings = AreRings-ring_at _ _ _ _ _ _ after_remove

    pub remove_seen : (costs' : List ℕ) → costs' ≡ costs → ◌≡◌ {A = RingsView} (record { queues = rings_from next' requests (set lengths q n); costs = costs'; requests = requests })
        (record { queues = set seen.queues q (without r (seen_list seen q)); costs = seen.costs; requests = seen.requests })
    remove_seen costs' charged =
        let same = length-set seen.queues q (without r (seen_list seen q)) ∙ seen_count requests next lengths costs seen is ∙ sym (length-set lengths q n) in
        seen_as _ _ _ _ _ _
        (rings_from_is requests next' previous' (set queue_of r None) (set lengths q n) _ after_remove (set seen.queues q (without r (seen_list seen q))) same (λ p l. refl))
        (charged ∙ ap (λ (v : RingsView). v.costs) is)
        (seen_requests requests next lengths costs seen is)
