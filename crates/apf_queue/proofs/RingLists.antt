-- The lists that the rings spell.
use Rattle.std.proofs.Common.{◌≡◌, ◌≢◌, ℕ, zero, suc, ◌+◌, ◌<◌, ◌^◌, inl, inr, List, [], ◌∷◌, ◌++◌, length, get_or, set, Option, Some, None, length-set, get_or-set_same, get_or-set_other, refl, sym, ap, ap₂, ◌∙◌, subst, arith}
use Rattle.std.specs.Prelude.{Contains, slice_get}
use Rattle.std.proofs.lemmas.Bool.{cases_eq}
use Rattle.std.proofs.lemmas.List.{ext_get_or, length_push}
use Rattle.std.proofs.lemmas.List.Elements.{Contains-append_left, Contains-push, Contains-push_cases}
use Rattle.apf_queue.specs.Nodes.{NotIn, AreApart, Leads, IsRing, AreLinked}
use Rattle.apf_queue.specs.RingsView.{RingsView, ring as seen_list, AreRings, follow, rings_from, ring_at, queue_at, without}
use Rattle.apf_queue.proofs.Places.{Contains-head, NotIn-from, AreApart-push, AreApart-out, length-out, without-out, IsSplit, split_at, Contains-without, without-contains}

-- the list of a ring is found by following the links
follow_leads : (next : List ℕ) (a : ℕ) (xs : List ℕ) (b : ℕ) → Leads next a xs b → follow next a (length xs) ≡ xs
follow_leads next a [] b h = refl
follow_leads next a (x ∷ xs) b h = ap₂ ◌∷◌ h.0 (ap (λ y. follow next y (length xs)) h.0 ∙ follow_leads next x xs b h.1)

pub length-follow : (next : List ℕ) (a n : ℕ) → length (follow next a n) ≡ n
length-follow next a zero = refl
length-follow next a (suc n) = ap suc (length-follow next (get_or next a 0) n)

pub length-rings_from : (next : List ℕ) (head : ℕ) (ns : List ℕ) → length (rings_from next head ns) ≡ length ns
length-rings_from next head [] = refl
length-rings_from next head (n ∷ ns) = ap suc (length-rings_from next (suc head) ns)

pub get_or-rings_from : (next : List ℕ) (head : ℕ) (ns : List ℕ) (q : ℕ) → get_or (rings_from next head ns) q [] ≡ follow next (head + q) (get_or ns q 0)
get_or-rings_from next head [] q = refl
get_or-rings_from next head (n ∷ ns) zero = let e : head ≡ head + 0 = omega arith in ap (λ a. follow next a n) e
get_or-rings_from next head (n ∷ ns) (suc q) =
    let e : suc head + q ≡ head + suc q = omega arith in
    get_or-rings_from next (suc head) ns q ∙ ap (λ a. follow next a (get_or ns q 0)) e

first_follows : (next : List ℕ) (a n : ℕ) → (n ≡ 0 → ⊥) → slice_get (follow next a n) 0 ≡ Some (get_or next a 0)
first_follows next a zero some = absurd (some refl)
first_follows next a (suc n) some = refl

first_contained : (next : List ℕ) (a n : ℕ) → (n ≡ 0 → ⊥) → Contains (follow next a n) (get_or next a 0)
first_contained next a zero some = absurd (some refl)
first_contained next a (suc n) some = Contains-head (get_or next a 0) (follow next (get_or next a 0) n)

-- what contracts see of the fields
module _ (requests : ℕ) (next lengths costs : List ℕ) (seen : RingsView) (is : ◌≡◌ {A = RingsView} (record { queues = rings_from next requests lengths; costs = costs; requests = requests }) seen) where
  pub seen_count : length seen.queues ≡ length lengths
  seen_count = sym (ap (λ (v : RingsView). length v.queues) is) ∙ length-rings_from next requests lengths

  pub seen_requests : requests ≡ seen.requests
  seen_requests = ap (λ (v : RingsView). v.requests) is

  pub seen_ring : (q : ℕ) → seen_list seen q ≡ ring_at requests next lengths q
  seen_ring q = sym (ap (λ (v : RingsView). get_or v.queues q []) is) ∙ get_or-rings_from next requests lengths q

  -- the first of a queue is the node after its head
  pub seen_none : (q : ℕ) → get_or lengths q 0 ≡ 0 → slice_get (seen_list seen q) 0 ≡ None
  seen_none q e = ap (λ (xs : List ℕ). slice_get xs 0) (seen_ring q ∙ ap (λ n. follow next (requests + q) n) e)

  pub seen_first : (q : ℕ) → (get_or lengths q 0 ≡ 0 → ⊥) → slice_get (seen_list seen q) 0 ≡ Some (get_or next (requests + q) 0)
  seen_first q some = ap (λ (xs : List ℕ). slice_get xs 0) (seen_ring q) ∙ first_follows next (requests + q) (get_or lengths q 0) some

module _ (requests : ℕ) (next previous : List ℕ) (queue_of : List (Option ℕ)) (lengths : List ℕ) (queue : ℕ → List ℕ) (rings : AreRings requests next previous queue_of lengths queue) where
  -- each list is what its links spell
  pub spelled : (q : ℕ) → q < length lengths → ring_at requests next lengths q ≡ queue q
  spelled q l = ap (λ n. follow next (requests + q) n) (rings.counted q l) ∙ follow_leads next (requests + q) (queue q) (requests + q) (rings.ring q l)

  -- so the fields spell what following the links gives
  pub AreRings-ring_at : AreRings requests next previous queue_of lengths (ring_at requests next lengths)
  AreRings-ring_at =
      let at = λ (q : ℕ) (l : q < length lengths). sym (spelled q l) in
      record {
        linked = rings.linked;
        one_node_each = rings.one_node_each;
        nodes_fit = rings.nodes_fit;
        one_queue_each = rings.one_queue_each;
        ring = λ q l. subst (λ (xs : List ℕ). IsRing next (requests + q) xs) (at q l) (rings.ring q l);
        apart = λ q l. subst AreApart (at q l) (rings.apart q l);
        counted = λ q l. rings.counted q l ∙ ap length (at q l);
        owned = λ q l r c. rings.owned q l r (subst (λ (xs : List ℕ). Contains xs r) (spelled q l) c);
        found = λ q r e. let f = rings.found q r e in (f.0, subst (λ (xs : List ℕ). Contains xs r) (at q f.0) f.1);
        alone = rings.alone;
      }

  -- the lists of the rings, where they are known
  pub rings_from_is : (queues : List (List ℕ)) → length queues ≡ length lengths → ((q : ℕ) → q < length lengths → get_or queues q [] ≡ queue q)
      → rings_from next requests lengths ≡ queues
  rings_from_is queues same at =
      ext_get_or [] (rings_from next requests lengths) queues (length-rings_from next requests lengths ∙ sym same)
      (λ q l. let l' : q < length lengths = subst (λ (n : ℕ). q < n) (length-rings_from next requests lengths) l in
      get_or-rings_from next requests lengths q ∙ spelled q l' ∙ sym (at q l'))

  -- the requests of a queue are no head
  pub heads_apart : (q p : ℕ) → q < length lengths → NotIn (requests + p) (queue q)
  heads_apart q p l = NotIn-from (requests + p) (queue q) (λ x c e. let own = (rings.owned q l x c).0 in absurd (omega arith))

  -- a request that has another queue recorded, or none, stands not in this one
  pub not_in_queue : (q r : ℕ) → q < length lengths → (queue_at queue_of r ≡ Some q → ⊥) → NotIn r (queue q)
  not_in_queue q r l other = NotIn-from r (queue q) (λ x c e. other (subst (λ (y : ℕ). queue_at queue_of y ≡ Some q) e (rings.owned q l x c).1))

  -- the first of a queue is a request
  pub first_in : (q : ℕ) → q < length lengths → (get_or lengths q 0 ≡ 0 → ⊥) → get_or next (requests + q) 0 < requests
  first_in q l some =
      let c = first_contained next (requests + q) (get_or lengths q 0) some in
      (rings.owned q l (get_or next (requests + q) 0) (subst (λ (xs : List ℕ). Contains xs (get_or next (requests + q) 0)) (spelled q l) c)).0

  -- a queue that is recorded for a request
  pub one_queue : (q p r : ℕ) → p < length lengths → queue_at queue_of r ≡ Some q → Contains (queue p) r → p ≡ q
  one_queue q p r l e c = let f : Some p ≡ Some q = sym (rings.owned p l r c).1 ∙ e in cc

None-differs : {q : ℕ} → ◌≡◌ {A = Option ℕ} None (Some q) → ⊥
None-differs e = cc

-- a request is put at the end of a queue
module _ (requests : ℕ) (next previous : List ℕ) (queue_of : List (Option ℕ)) (lengths : List ℕ) (queue : ℕ → List ℕ) (rings : AreRings requests next previous queue_of lengths queue)
    (q r : ℕ) (q_in : q < length lengths) (r_in : r < requests) (r_alone : queue_at queue_of r ≡ None)
    (next' previous' : List ℕ) (linked : AreLinked next' previous') (same_len : length next' ≡ length next)
    (alone : (i : ℕ) → i ≢ r → i ≢ requests + q → get_or next i 0 ≡ i → get_or next' i 0 ≡ i)
    (ring : (nodes : List ℕ) → IsRing next (requests + q) nodes → AreApart ((requests + q) ∷ nodes) → NotIn r ((requests + q) ∷ nodes)
    → IsRing next' (requests + q) (nodes ++ r ∷ []))
    (others : (h : ℕ) (nodes : List ℕ) → IsRing next h nodes → NotIn r (h ∷ nodes) → NotIn (requests + q) (h ∷ nodes) → IsRing next' h nodes)
    (queue' : ℕ → List ℕ) (here : queue' q ≡ queue q ++ r ∷ []) (else : (p : ℕ) → p ≢ q → queue' p ≡ queue p) (n : ℕ) (n_is : n ≡ get_or lengths q 0 + 1) where
  pushed_lengths : List ℕ
  pushed_lengths = set lengths q n

  no_queue : (p : ℕ) → queue_at queue_of r ≡ Some p → ⊥
  no_queue p e = None-differs (sym r_alone ∙ e)

  lt_of : (p : ℕ) → p < length (set lengths q n) → p < length lengths
  lt_of p l = subst (λ (m : ℕ). p < m) (length-set lengths q n) l

  ring_after : (p : ℕ) → p < length (set lengths q n) → IsRing next' (requests + p) (queue' p)
  ring_after p l = elim (cases_eq p q) [
    | inl e ↦ subst (λ (i : ℕ). IsRing next' (requests + i) (queue' i)) (sym e) (subst (λ (xs : List ℕ). IsRing next' (requests + q) xs) (sym here)
        (ring (queue q) (rings.ring q q_in) (heads_apart requests next previous queue_of lengths queue rings q q q_in, rings.apart q q_in)
        ((λ e2. absurd (omega arith)), not_in_queue requests next previous queue_of lengths queue rings q r q_in (no_queue q))))
    | inr ne ↦ subst (λ (xs : List ℕ). IsRing next' (requests + p) xs) (sym (else p ne))
        (others (requests + p) (queue p) (rings.ring p (lt_of p l))
        ((λ e2. absurd (omega arith)), not_in_queue requests next previous queue_of lengths queue rings p r (lt_of p l) (no_queue p))
        ((λ e2. ne (omega arith)), heads_apart requests next previous queue_of lengths queue rings p q (lt_of p l)))
  ]

  apart_after : (p : ℕ) → p < length (set lengths q n) → AreApart (queue' p)
  apart_after p l = elim (cases_eq p q) [
    | inl e ↦ subst (λ (i : ℕ). AreApart (queue' i)) (sym e) (subst AreApart (sym here)
        (AreApart-push (queue q) r (rings.apart q q_in) (not_in_queue requests next previous queue_of lengths queue rings q r q_in (no_queue q))))
    | inr ne ↦ subst AreApart (sym (else p ne)) (rings.apart p (lt_of p l))
  ]

  counted_after : (p : ℕ) → p < length (set lengths q n) → get_or (set lengths q n) p 0 ≡ length (queue' p)
  counted_after p l = elim (cases_eq p q) [
    | inl e ↦ subst (λ (i : ℕ). get_or (set lengths q n) i 0 ≡ length (queue' i)) (sym e)
        (get_or-set_same lengths q n 0 q_in ∙ n_is ∙ ap (λ m. m + 1) (rings.counted q q_in) ∙ sym (length_push (queue q) r) ∙ sym (ap length here))
    | inr ne ↦ get_or-set_other lengths q p n 0 ne ∙ rings.counted p (lt_of p l) ∙ sym (ap length (else p ne))
  ]

  r_in_list : r < length queue_of
  r_in_list = let a = rings.one_queue_each in let b = rings.one_node_each in let l = r_in in omega arith

  queue_kept : (x : ℕ) → x ≢ r → queue_at (set queue_of r (Some q)) x ≡ queue_at queue_of x
  queue_kept x ne = get_or-set_other queue_of r x (Some q) None ne

  queue_new : queue_at (set queue_of r (Some q)) r ≡ Some q
  queue_new = get_or-set_same queue_of r (Some q) None r_in_list

  stays_owned : (p x : ℕ) → p < length lengths → Contains (queue p) x → (x < requests) × (queue_at (set queue_of r (Some q)) x ≡ Some p)
  stays_owned p x l c =
      let own = rings.owned p l x c in
      let ne : x ≢ r = λ e. no_queue p (subst (λ (y : ℕ). queue_at queue_of y ≡ Some p) e own.1) in
      (own.0, queue_kept x ne ∙ own.1)

  owned_after : (p : ℕ) → p < length (set lengths q n) → (x : ℕ) → Contains (queue' p) x → (x < requests) × (queue_at (set queue_of r (Some q)) x ≡ Some p)
  owned_after p l x c = elim (cases_eq p q) [
    | inl e ↦ elim (Contains-push_cases (queue q) r x (subst (λ (xs : List ℕ). Contains xs x) (ap queue' e ∙ here) c)) [
      | inl old ↦ stays_owned p x (lt_of p l) (subst (λ (i : ℕ). Contains (queue i) x) (sym e) old)
      | inr new ↦ subst (λ (y : ℕ). (y < requests) × (queue_at (set queue_of r (Some q)) y ≡ Some p)) new (r_in, queue_new ∙ ap Some (sym e))
    ]
    | inr ne ↦ stays_owned p x (lt_of p l) (subst (λ (xs : List ℕ). Contains xs x) (else p ne) c)
  ]

  found_after : (p x : ℕ) → queue_at (set queue_of r (Some q)) x ≡ Some p → (p < length (set lengths q n)) × Contains (queue' p) x
  found_after p x e = elim (cases_eq x r) [
    | inl same ↦
        let f : Some q ≡ Some p = sym queue_new ∙ (sym (ap (λ y. queue_at (set queue_of r (Some q)) y) same) ∙ e) in
        let qp : q ≡ p = cc in
        subst (λ (i : ℕ). (i < length (set lengths q n)) × Contains (queue' i) x) qp (
          subst (λ (m : ℕ). q < m) (sym (length-set lengths q n)) q_in,
          subst (λ (xs : List ℕ). Contains xs x) (sym here) (subst (λ (y : ℕ). Contains (queue q ++ r ∷ []) y) (sym same) (Contains-push (queue q) r)),
        )
    | inr ne ↦
        let f = rings.found p x (sym (queue_kept x ne) ∙ e) in (
          subst (λ (m : ℕ). p < m) (sym (length-set lengths q n)) f.0,
          elim (cases_eq p q) [
            | inl pq ↦ subst (λ (xs : List ℕ). Contains xs x) (sym (ap queue' pq ∙ here)) (Contains-append_left (queue q) (r ∷ []) x (subst (λ (i : ℕ). Contains (queue i) x) pq f.1))
            | inr other ↦ subst (λ (xs : List ℕ). Contains xs x) (sym (else p other)) f.1
          ],
        )
  ]

  alone_after : (x : ℕ) → x < requests → queue_at (set queue_of r (Some q)) x ≡ None → get_or next' x 0 ≡ x
  alone_after x l e =
      let ne : x ≢ r = λ same. None-differs (sym e ∙ (ap (λ y. queue_at (set queue_of r (Some q)) y) same ∙ queue_new)) in
      let far : x ≢ requests + q = λ at. absurd (omega arith) in
      alone x ne far (rings.alone x l (sym (queue_kept x ne) ∙ e))

  pub AreRings-push : AreRings requests next' previous' (set queue_of r (Some q)) (set lengths q n) queue'
  AreRings-push =
      record {
        linked = linked;
        one_node_each = same_len ∙ rings.one_node_each ∙ ap (λ m. requests + m) (sym (length-set lengths q n));
        nodes_fit = subst (λ (m : ℕ). requests + m < 2 ^ 32) (sym (length-set lengths q n)) rings.nodes_fit;
        one_queue_each = length-set queue_of r (Some q) ∙ rings.one_queue_each ∙ sym same_len;
        ring = ring_after;
        apart = apart_after;
        counted = counted_after;
        owned = owned_after;
        found = found_after;
        alone = alone_after;
      }

-- a request is taken out of its queue
module _ (requests : ℕ) (next previous : List ℕ) (queue_of : List (Option ℕ)) (lengths : List ℕ) (queue : ℕ → List ℕ) (rings : AreRings requests next previous queue_of lengths queue)
    (q r : ℕ) (r_in : r < requests) (r_at : queue_at queue_of r ≡ Some q)
    (next' previous' : List ℕ) (linked : AreLinked next' previous') (same_len : length next' ≡ length next)
    (alone : get_or next' r 0 ≡ r) (still_alone : (i : ℕ) → get_or next i 0 ≡ i → get_or next' i 0 ≡ i)
    (ring : (head : ℕ) (before after : List ℕ) → IsRing next head (before ++ r ∷ after) → AreApart (head ∷ (before ++ r ∷ after))
    → head < length next → IsRing next' head (before ++ after))
    (others : (h : ℕ) (nodes : List ℕ) → IsRing next h nodes → NotIn r (h ∷ nodes) → IsRing next' h nodes)
    (queue' : ℕ → List ℕ) (here : queue' q ≡ without r (queue q)) (else : (p : ℕ) → p ≢ q → queue' p ≡ queue p) (n : ℕ) (n_is : n + 1 ≡ get_or lengths q 0) where
  q_in : q < length lengths
  q_in = (rings.found q r r_at).0

  place : IsSplit (queue q) r
  place = split_at (queue q) r (rings.found q r r_at).1

  here_out : queue' q ≡ place.before ++ place.after
  here_out = here ∙ (ap (without r) place.is ∙ without-out place.before r place.after (subst AreApart place.is (rings.apart q q_in)))

  lt_at : (p : ℕ) → p < length (set lengths q n) → p < length lengths
  lt_at p l = subst (λ (m : ℕ). p < m) (length-set lengths q n) l

  elsewhere : (p : ℕ) → p ≢ q → queue_at queue_of r ≡ Some p → ⊥
  elsewhere p ne e = let f : Some p ≡ Some q = sym e ∙ r_at in ne (cc)

  ring_left : (p : ℕ) → p < length (set lengths q n) → IsRing next' (requests + p) (queue' p)
  ring_left p l = elim (cases_eq p q) [
    | inl e ↦ subst (λ (i : ℕ). IsRing next' (requests + i) (queue' i)) (sym e) (subst (λ (xs : List ℕ). IsRing next' (requests + q) xs) (sym here_out)
        (ring (requests + q) place.before place.after (subst (λ (xs : List ℕ). IsRing next (requests + q) xs) place.is (rings.ring q q_in))
        (subst (λ (xs : List ℕ). AreApart ((requests + q) ∷ xs)) place.is (heads_apart requests next previous queue_of lengths queue rings q q q_in, rings.apart q q_in))
        (let m = rings.one_node_each in let l2 = q_in in omega arith)))
    | inr ne ↦ subst (λ (xs : List ℕ). IsRing next' (requests + p) xs) (sym (else p ne))
        (others (requests + p) (queue p) (rings.ring p (lt_at p l))
        ((λ e2. absurd (omega arith)), not_in_queue requests next previous queue_of lengths queue rings p r (lt_at p l) (elsewhere p ne)))
  ]

  apart_left_over : (p : ℕ) → p < length (set lengths q n) → AreApart (queue' p)
  apart_left_over p l = elim (cases_eq p q) [
    | inl e ↦ subst (λ (i : ℕ). AreApart (queue' i)) (sym e) (subst AreApart (sym here_out)
        (AreApart-out place.before r place.after (subst AreApart place.is (rings.apart q q_in))))
    | inr ne ↦ subst AreApart (sym (else p ne)) (rings.apart p (lt_at p l))
  ]

  counted_left : (p : ℕ) → p < length (set lengths q n) → get_or (set lengths q n) p 0 ≡ length (queue' p)
  counted_left p l = elim (cases_eq p q) [
    | inl e ↦ subst (λ (i : ℕ). get_or (set lengths q n) i 0 ≡ length (queue' i)) (sym e)
        (let one : suc (length (place.before ++ place.after)) ≡ length (queue q) = sym (ap length place.is ∙ length-out place.before r place.after) in
        let old = rings.counted q q_in in
        let new : n ≡ length (place.before ++ place.after) = omega arith in
        get_or-set_same lengths q n 0 q_in ∙ new ∙ sym (ap length here_out))
    | inr ne ↦ get_or-set_other lengths q p n 0 ne ∙ rings.counted p (lt_at p l) ∙ sym (ap length (else p ne))
  ]

  r_in_queues : r < length queue_of
  r_in_queues = let a = rings.one_queue_each in let b = rings.one_node_each in let l = r_in in omega arith

  queue_stays : (x : ℕ) → x ≢ r → queue_at (set queue_of r None) x ≡ queue_at queue_of x
  queue_stays x ne = get_or-set_other queue_of r x None None ne

  queue_none : queue_at (set queue_of r None) r ≡ None
  queue_none = get_or-set_same queue_of r None None r_in_queues

  kept_owned : (p x : ℕ) → p < length lengths → x ≢ r → Contains (queue p) x → (x < requests) × (queue_at (set queue_of r None) x ≡ Some p)
  kept_owned p x l ne c = let own = rings.owned p l x c in (own.0, queue_stays x ne ∙ own.1)

  owned_left : (p : ℕ) → p < length (set lengths q n) → (x : ℕ) → Contains (queue' p) x → (x < requests) × (queue_at (set queue_of r None) x ≡ Some p)
  owned_left p l x c = elim (cases_eq p q) [
    | inl e ↦
        let old = Contains-without r (queue q) x (subst (λ (xs : List ℕ). Contains xs x) (ap queue' e ∙ here) c) in
        kept_owned p x (lt_at p l) old.1 (subst (λ (i : ℕ). Contains (queue i) x) (sym e) old.0)
    | inr ne ↦
        let old : Contains (queue p) x = subst (λ (xs : List ℕ). Contains xs x) (else p ne) c in
        let far : x ≢ r = λ same. elsewhere p ne (subst (λ (y : ℕ). queue_at queue_of y ≡ Some p) same (rings.owned p (lt_at p l) x old).1) in
        kept_owned p x (lt_at p l) far old
  ]

  found_left : (p x : ℕ) → queue_at (set queue_of r None) x ≡ Some p → (p < length (set lengths q n)) × Contains (queue' p) x
  found_left p x e =
      let ne : x ≢ r = λ same. None-differs (sym queue_none ∙ (sym (ap (λ y. queue_at (set queue_of r None) y) same) ∙ e)) in
      let f = rings.found p x (sym (queue_stays x ne) ∙ e) in (
        subst (λ (m : ℕ). p < m) (sym (length-set lengths q n)) f.0,
        elim (cases_eq p q) [
          | inl pq ↦ subst (λ (xs : List ℕ). Contains xs x) (sym (ap queue' pq ∙ here)) (without-contains r (queue q) x (subst (λ (i : ℕ). Contains (queue i) x) pq f.1) ne)
          | inr other ↦ subst (λ (xs : List ℕ). Contains xs x) (sym (else p other)) f.1
        ],
      )

  alone_left : (x : ℕ) → x < requests → queue_at (set queue_of r None) x ≡ None → get_or next' x 0 ≡ x
  alone_left x l e = elim (cases_eq x r) [
    | inl same ↦ subst (λ (y : ℕ). get_or next' y 0 ≡ y) (sym same) alone
    | inr ne ↦ still_alone x (rings.alone x l (sym (queue_stays x ne) ∙ e))
  ]

  pub AreRings-remove : AreRings requests next' previous' (set queue_of r None) (set lengths q n) queue'
  AreRings-remove =
      record {
        linked = linked;
        one_node_each = same_len ∙ rings.one_node_each ∙ ap (λ m. requests + m) (sym (length-set lengths q n));
        nodes_fit = subst (λ (m : ℕ). requests + m < 2 ^ 32) (sym (length-set lengths q n)) rings.nodes_fit;
        one_queue_each = length-set queue_of r None ∙ rings.one_queue_each ∙ sym same_len;
        ring = ring_left;
        apart = apart_left_over;
        counted = counted_left;
        owned = owned_left;
        found = found_left;
        alone = alone_left;
      }
