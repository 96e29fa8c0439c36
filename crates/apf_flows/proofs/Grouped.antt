-- The flows of the first requests of a trace, and one request more.
use Rattle.std.proofs.Common.{◌≡◌, ◌≢◌, ℕ, ◌+◌, ◌<◌, ◌≤◌, List, [], ◌∷◌, ◌++◌, length, get_or, Option, Some, None, refl, sym, ◌∙◌, ap, subst, arith, ⊎_elim, below_more, length-append}
use Rattle.std.proofs.Math.ListN.{get_or-append}
use Rattle.std.proofs.Math.Seq.{get_or-append_seam}
use Rattle.std.proofs.lemmas.Bool.{cases_eq}
use Rattle.apf_flows.specs.Flows.{AreFlows}
use Rattle.apf_flows.proofs.Firsts.{firsts_below, firsts_new, firsts_known}
use Rattle.apf_flows.specs.Known.{FindsFlow, FindsFlowBy}

-- `AreFlows`, of the first this many requests
pub record AreFlowsOf (hashes : List ℕ) (count : ℕ) (firsts flows : List ℕ) : Type 0 where
  pub each : length flows ≡ count
  pub few : length firsts ≤ count
  pub flow : (i : ℕ) → i < count → get_or flows i 0 < length firsts
  pub same_hash : (i : ℕ) → i < count → get_or hashes (get_or firsts (get_or flows i 0) 0) 0 ≡ get_or hashes i 0
  pub not_later : (i : ℕ) → i < count → get_or firsts (get_or flows i 0) 0 ≤ i
  pub request : (k : ℕ) → k < length firsts → get_or firsts k 0 < count
  pub first : (k i : ℕ) → k < length firsts → i < get_or firsts k 0 → get_or hashes i 0 ≢ get_or hashes (get_or firsts k 0) 0
  pub ascending : (j k : ℕ) → j < k → k < length firsts → get_or firsts j 0 < get_or firsts k 0

-- the flow of a hash that is known is one of that hash, and no request has a hash that is not
abbrev pub KnowsBy : Option ℕ → (hashes : List ℕ) (count : ℕ) (firsts : List ℕ) (hash : ℕ) → Type 0
KnowsBy (Some flow) hashes count firsts hash = (flow < length firsts) × (get_or hashes (get_or firsts flow 0) 0 ≡ hash)
KnowsBy None hashes count firsts hash = (i : ℕ) → i < count → get_or hashes i 0 ≢ hash

-- what is known of each hash
pub record Knows (hashes : List ℕ) (count : ℕ) (firsts : List ℕ) (known : ℕ → Option ℕ) : Type 0 where
  pub by_hash : (hash : ℕ) → KnowsBy (known hash) hashes count firsts hash

pub no_flows : (hashes : List ℕ) → AreFlowsOf hashes 0 [] []
no_flows hashes = record {
  each = refl;
  few = omega arith;
  flow = λ i h. absurd (omega arith);
  same_hash = λ i h. absurd (omega arith);
  not_later = λ i h. absurd (omega arith);
  request = λ k h. absurd (omega arith);
  first = λ k i h _. absurd (omega arith);
  ascending = λ j k _ h. absurd (omega arith);
}

-- the flows of all requests
pub all_flows : (hashes : List ℕ) (n : ℕ) (firsts flows : List ℕ) → n ≡ length hashes → AreFlowsOf hashes n firsts flows → AreFlows hashes firsts flows
all_flows hashes n firsts flows e h = record {
  each = h.each ∙ e;
  flow = λ i lt. h.flow i (omega arith);
  same_hash = λ i lt. h.same_hash i (omega arith);
  not_later = λ i lt. h.not_later i (omega arith);
  request = λ k lt. omega (arith, h.request k lt);
  first = h.first;
  ascending = h.ascending;
}

-- a request of a flow that is known
flows_known : (hashes : List ℕ) (n : ℕ) (firsts flows : List ℕ) (flow : ℕ) → AreFlowsOf hashes n firsts flows
    → flow < length firsts → get_or hashes (get_or firsts flow 0) 0 ≡ get_or hashes n 0
    → AreFlowsOf hashes (n + 1) firsts (flows ++ flow ∷ [])
flows_known hashes n firsts flows flow h within same =
    let len : length (flows ++ flow ∷ []) ≡ n + 1 = omega (arith, length-append flows (flow ∷ []), h.each) in
    let old = λ (i : ℕ) (lt : i < n). get_or-append flows (flow ∷ []) 0 i (omega (arith, h.each)) in
    let seam : get_or (flows ++ flow ∷ []) n 0 ≡ flow = subst (λ (m : ℕ). get_or (flows ++ flow ∷ []) m 0 ≡ flow) h.each (get_or-append_seam flows flow [] 0) in
    let request = h.request flow within in
    record {
      each = len;
      few = omega (arith, h.few);
      flow = below_more _ _ (λ i lt. rw (old i lt) (h.flow i lt)) (rw seam within);
      same_hash = below_more _ _ (λ i lt. rw (old i lt) (h.same_hash i lt)) (rw seam same);
      not_later = below_more _ _ (λ i lt. rw (old i lt) (h.not_later i lt)) (rw seam (omega (arith, request)));
      request = λ k lt. omega (arith, h.request k lt);
      first = h.first;
      ascending = h.ascending;
    }

-- a request that begins a flow
flows_new : (hashes : List ℕ) (n : ℕ) (firsts flows : List ℕ) → AreFlowsOf hashes n firsts flows
    → ((i : ℕ) → i < n → get_or hashes i 0 ≢ get_or hashes n 0)
    → AreFlowsOf hashes (n + 1) (firsts ++ n ∷ []) (flows ++ length firsts ∷ [])
flows_new hashes n firsts flows h new =
    let flow = length firsts in
    let len : length (flows ++ flow ∷ []) ≡ n + 1 = omega (arith, length-append flows (flow ∷ []), h.each) in
    let count : length (firsts ++ n ∷ []) ≡ flow + 1 = omega (arith, length-append firsts (n ∷ [])) in
    let old = λ (i : ℕ) (lt : i < n). get_or-append flows (flow ∷ []) 0 i (omega (arith, h.each)) in
    let seam : get_or (flows ++ flow ∷ []) n 0 ≡ flow = subst (λ (m : ℕ). get_or (flows ++ flow ∷ []) m 0 ≡ flow) h.each (get_or-append_seam flows flow [] 0) in
    let old_first = λ (k : ℕ) (lt : k < flow). get_or-append firsts (n ∷ []) 0 k lt in
    let new_first : get_or (firsts ++ n ∷ []) flow 0 ≡ n = get_or-append_seam firsts n [] 0 in
    let request : (k : ℕ) → k < flow + 1 → get_or (firsts ++ n ∷ []) k 0 < n + 1 = below_more _ _ (λ k lt. rw (old_first k lt) (omega (arith, h.request k lt))) (rw new_first (omega arith)) in
    let first : (k : ℕ) → k < flow + 1 → (i : ℕ) → i < get_or (firsts ++ n ∷ []) k 0 → get_or hashes i 0 ≢ get_or hashes (get_or (firsts ++ n ∷ []) k 0) 0
    = below_more _ _ (λ k lt. rw (old_first k lt) (λ i below. h.first k i lt below)) (rw new_first new) in
    let ascending : (k : ℕ) → k < flow + 1 → (j : ℕ) → j < k → get_or (firsts ++ n ∷ []) j 0 < get_or (firsts ++ n ∷ []) k 0
    = below_more _ _ (λ k lt j less. rw (old_first k lt, old_first j (omega arith)) (h.ascending j k less lt)) (λ j less. rw (new_first, old_first j less) (h.request j less)) in
    record {
      each = len;
      few = omega (arith, h.few);
      flow = below_more _ _ (λ i lt. rw (old i lt) (omega (arith, h.flow i lt))) (rw seam (omega arith));
      same_hash = below_more _ _ (λ i lt. rw (old i lt, old_first (get_or flows i 0) (h.flow i lt)) (h.same_hash i lt)) (rw (seam, new_first) refl);
      not_later = below_more _ _ (λ i lt. rw (old i lt, old_first (get_or flows i 0) (h.flow i lt)) (h.not_later i lt)) (rw (seam, new_first) (omega arith));
      request = λ k lt. request k (omega arith);
      first = λ k i lt below. first k (omega arith) i below;
      ascending = λ j k less lt. ascending k (omega arith) j less;
    }

-- what is known of a hash, after a request of another
known_kept : (o : Option ℕ) (hashes : List ℕ) (n : ℕ) (firsts firsts' : List ℕ) (hash : ℕ) → KnowsBy o hashes n firsts hash → get_or hashes n 0 ≢ hash
    → length firsts ≤ length firsts' → ((k : ℕ) → k < length firsts → get_or firsts' k 0 ≡ get_or firsts k 0) → KnowsBy o hashes (n + 1) firsts' hash
known_kept None hashes n firsts firsts' hash h apart longer same = below_more _ _ h apart
known_kept (Some flow) hashes n firsts firsts' hash h apart longer same = (omega (arith, h.0), rw (same flow h.0) h.1)

-- what is known of each hash, after a request that is of this flow
knows_more : (hashes : List ℕ) (n : ℕ) (firsts firsts' : List ℕ) (known known' : ℕ → Option ℕ) (flow : ℕ) → Knows hashes n firsts known
    → length firsts ≤ length firsts' → ((k : ℕ) → k < length firsts → get_or firsts' k 0 ≡ get_or firsts k 0)
    → known' (get_or hashes n 0) ≡ Some flow → flow < length firsts' → get_or hashes (get_or firsts' flow 0) 0 ≡ get_or hashes n 0
    → ((other : ℕ) → other ≢ get_or hashes n 0 → known' other ≡ known other) → Knows hashes (n + 1) firsts' known'
knows_more hashes n firsts firsts' known known' flow h longer same here within is others = record {
  by_hash = λ q. ⊎_elim
      (λ e. subst (λ (x : ℕ). KnowsBy (known' x) hashes (n + 1) firsts' x) (sym e) (subst (λ (o : Option ℕ). KnowsBy o hashes (n + 1) firsts' (get_or hashes n 0)) (sym here) (within, is)))
      (λ ne. subst (λ (o : Option ℕ). KnowsBy o hashes (n + 1) firsts' q) (sym (others q ne)) (known_kept (known q) hashes n firsts firsts' q (h.by_hash q) (λ e. ne (sym e)) longer same))
      (cases_eq q (get_or hashes n 0));
}

pub knows_none : (hashes : List ℕ) (known : ℕ → Option ℕ) → ((hash : ℕ) → known hash ≡ None) → Knows hashes 0 [] known
knows_none hashes known none = record {
  by_hash = λ hash. subst (λ (o : Option ℕ). KnowsBy o hashes 0 [] hash) (sym (none hash)) (λ i h. absurd (omega arith));
}

-- what is kept while a trace is gone through
pub record IsGrouped (hashes : List ℕ) (count : ℕ) (firsts places : List ℕ) (known : ℕ → Option ℕ) : Type 0 where
  pub flows : AreFlowsOf hashes count firsts places
  pub knows : Knows hashes count firsts known
  pub order : firsts ≡ firsts_below hashes count

-- by what is known of the hash
grouped_by : (o : Option ℕ) (hashes : List ℕ) (n : ℕ) (firsts firsts' flows : List ℕ) (known known' : ℕ → Option ℕ) (hash flow : ℕ)
    → known hash ≡ o → hash ≡ get_or hashes n 0 → n < length hashes → IsGrouped hashes n firsts flows known
    → FindsFlowBy o known known' firsts firsts' hash n flow → IsGrouped hashes (n + 1) firsts' (flows ++ flow ∷ []) known'
grouped_by (Some k) hashes n firsts firsts' flows known known' hash flow is at within h found =
    let of_hash : KnowsBy (Some k) hashes n firsts hash = subst (λ (o : Option ℕ). KnowsBy o hashes n firsts hash) is (h.knows.by_hash hash) in
    let is_flow : flow < length firsts = rw found.0 of_hash.0 in
    let same : get_or hashes (get_or firsts flow 0) 0 ≡ get_or hashes n 0 = rw found.0 (of_hash.1 ∙ at) in
    let here : known' (get_or hashes n 0) ≡ Some flow = subst (λ (x : ℕ). known' x ≡ Some flow) at (found.2 hash ∙ is ∙ ap (λ (x : ℕ). Some x) (sym found.0)) in
    subst (λ (fs : List ℕ). IsGrouped hashes (n + 1) fs (flows ++ flow ∷ []) known') (sym found.1) (record {
      flows = flows_known hashes n firsts flows flow h.flows is_flow same;
      knows = knows_more hashes n firsts firsts known known' flow h.knows (omega arith) (λ k lt. refl) here is_flow same (λ other ne. found.2 other);
      order = h.order ∙ sym (firsts_known hashes n (get_or firsts flow 0) (h.flows.request flow is_flow) same (omega arith));
    })
grouped_by None hashes n firsts firsts' flows known known' hash flow is at within h found =
    let new : (i : ℕ) → i < n → get_or hashes i 0 ≢ get_or hashes n 0
    = subst (λ (x : ℕ). (i : ℕ) → i < n → get_or hashes i 0 ≢ x) at (subst (λ (o : Option ℕ). KnowsBy o hashes n firsts hash) is (h.knows.by_hash hash)) in
    let count : length (firsts ++ n ∷ []) ≡ length firsts + 1 = omega (arith, length-append firsts (n ∷ [])) in
    let last : get_or (firsts ++ n ∷ []) (length firsts) 0 ≡ n = get_or-append_seam firsts n [] 0 in
    let here : known' (get_or hashes n 0) ≡ Some (length firsts) = subst (λ (x : ℕ). known' x ≡ Some (length firsts)) at (found.2 ∙ ap (λ (x : ℕ). Some x) found.0) in
    subst (λ (f : ℕ). IsGrouped hashes (n + 1) firsts' (flows ++ f ∷ []) known') (sym found.0)
    (subst (λ (fs : List ℕ). IsGrouped hashes (n + 1) fs (flows ++ length firsts ∷ []) known') (sym found.1) (record {
      flows = flows_new hashes n firsts flows h.flows new;
      knows = knows_more hashes n firsts (firsts ++ n ∷ []) known known' (length firsts) h.knows (omega arith) (λ k lt. get_or-append firsts (n ∷ []) 0 k lt) here (omega arith) (rw last refl)
          (λ other ne. found.3 other (λ e. ne (e ∙ at)));
      order = ap (λ (fs : List ℕ). fs ++ n ∷ []) h.order ∙ sym (firsts_new hashes n new (omega arith));
    }))

-- one request more
pub grouped_more : (hashes : List ℕ) (n : ℕ) (firsts firsts' flows : List ℕ) (known known' : ℕ → Option ℕ) (hash flow : ℕ)
    → hash ≡ get_or hashes n 0 → n < length hashes → IsGrouped hashes n firsts flows known
    → FindsFlow known known' firsts firsts' hash n flow → IsGrouped hashes (n + 1) firsts' (flows ++ flow ∷ []) known'
grouped_more hashes n firsts firsts' flows known known' hash flow at within h found =
    grouped_by (known hash) hashes n firsts firsts' flows known known' hash flow refl at within h found
