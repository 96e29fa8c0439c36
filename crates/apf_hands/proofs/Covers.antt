-- The flows with the same queues are those that cover a hand, and the flow itself.
use Rattle.std.proofs.Common.{◌≡◌, ℕ, suc, ◌+◌, ◌-◌, ◌<◌, List, [], ◌∷◌, ◌++◌, Bool, true, false, Option, cond, not, length, get_or, filter, map, refl, sym, ◌∙◌, ap, ap₂, subst, append-nil, arith}
use Rattle.std.specs.Prelude.{◌&&◌, ◌||◌, ◌==◌, nat_eq, nat_lt, bytes_eq, if◌then◌else◌}
use Rattle.std.specs.List.{AllByRecursion, IsDistinct, list_any}
use Rattle.std.proofs.lemmas.List.Elements.{filter-append, recursion_from_All}
use Rattle.std.proofs.lemmas.Bool.Decides.{nat_tests}
use Rattle.std.proofs.lemmas.List.{map-append}
use Rattle.std.proofs.lemmas.List.Folds.{list_any_at}
use Rattle.std.proofs.lemmas.List.Sorted.{length_permutation}
use Rattle.std.proofs.lemmas.Slice.Eq.{bytes_eq-Decides}
use Rattle.apf_flow.specs.Sizes.{Sizes}
use Rattle.apf_hands.specs.declared.dealt.Dealt.{Dealt}
use Rattle.apf_hands.specs.Alike.{AreAlike, IsOnce, hashes_for, held_text, held_whole_text, others_of, with_queues}
use Rattle.apf_hands.specs.Dealing.{HaveHands, IsDealt}
use Rattle.apf_hands.specs.Dealt.{flow_of, flows_of}
use Rattle.apf_hands.specs.Hands.{Flow, covering, covering_text, covers, covers_text, flow_text, hand_by, hand_text, shares_all, shares_text, whole_text}
use Rattle.apf_hands.specs.Holders.{AreHolders}
use Rattle.apf_hands.proofs.Held.{sharers_same}
use Rattle.apf_hands.proofs.Ordered.{all_own, equal, not_both, own, same_queues}

abbrev pub hash_of_dealt : Dealt → ℕ
hash_of_dealt flow = flow.first.now.hash

-- ---- one flow more

alike_step : (queues : List ℕ) (flows : List Dealt) (flow : Dealt) (b : Bool) → bytes_eq flow.queues.items queues ≡ b
    → map hash_of_dealt (with_queues queues flows) ++ (if b then hash_of_dealt flow ∷ [] else []) ≡ map hash_of_dealt (with_queues queues (flows ++ flow ∷ []))
alike_step queues flows flow true is =
    sym (ap (map hash_of_dealt) (filter-append (λ (d : Dealt). bytes_eq d.queues.items queues) flows (flow ∷ []) ∙ ap (λ (t : Bool). with_queues queues flows ++ cond t (flow ∷ []) []) is)
    ∙ map-append hash_of_dealt (with_queues queues flows) (flow ∷ []))
alike_step queues flows flow false is =
    append-nil (map hash_of_dealt (with_queues queues flows))
    ∙ sym (ap (map hash_of_dealt) (filter-append (λ (d : Dealt). bytes_eq d.queues.items queues) flows (flow ∷ []) ∙ ap (λ (t : Bool). with_queues queues flows ++ cond t (flow ∷ []) []) is ∙ append-nil (with_queues queues flows)))

pub alike_more : (flows : List Dealt) (flow : Dealt) (old new : List ℕ → List ℕ) → AreAlike flows old
    → ((queues : List ℕ) → new queues ≡ old queues ++ (if bytes_eq flow.queues.items queues then hash_of_dealt flow ∷ [] else [])) → AreAlike (flows ++ flow ∷ []) new
alike_more flows flow old new h is = record {
  each = λ queues.
      is queues
      ∙ ap (λ (hs : List ℕ). hs ++ (if bytes_eq flow.queues.items queues then hash_of_dealt flow ∷ [] else [])) (h.each queues)
      ∙ alike_step queues flows flow (bytes_eq flow.queues.items queues) refl;
}

-- ---- filters

-- the hashes of some of those that pass, but one
others_step : (hash : ℕ) (d : Dealt) (rest : List ℕ) (others : List Dealt) (p : Bool) → others_of hash rest ≡ map hash_of_dealt others
    → others_of hash (map hash_of_dealt (cond p (d ∷ []) []) ++ rest) ≡ map hash_of_dealt (cond (not (hash == hash_of_dealt d) && p) (d ∷ others) others)
others_step hash d rest others true same = by (hash == hash_of_dealt d)
  where
    by : (b : Bool) → cond (not b) (hash_of_dealt d ∷ others_of hash rest) (others_of hash rest) ≡ map hash_of_dealt (cond (not b && true) (d ∷ others) others)
    by true = same
    by false = ap (λ (hs : List ℕ). hash_of_dealt d ∷ hs) same
others_step hash d rest others false same = by (hash == hash_of_dealt d)
  where
    by : (b : Bool) → others_of hash rest ≡ map hash_of_dealt (cond (not b && false) (d ∷ others) others)
    by true = same
    by false = same

others_passed : (hash : ℕ) (p : Dealt → Bool) (flows : List Dealt) → others_of hash (map hash_of_dealt (filter p flows)) ≡ map hash_of_dealt (filter (λ d. not (hash == hash_of_dealt d) && p d) flows)
others_passed hash p [] = refl
others_passed hash p (d ∷ flows) = front (p d) ∙ others_step hash d (map hash_of_dealt (filter p flows)) (filter (λ e. not (hash == hash_of_dealt e) && p e) flows) (p d) (others_passed hash p flows)
  where
    front : (b : Bool) → others_of hash (map hash_of_dealt (cond b (d ∷ filter p flows) (filter p flows))) ≡ others_of hash (map hash_of_dealt (cond b (d ∷ []) []) ++ map hash_of_dealt (filter p flows))
    front true = refl
    front false = refl

filter_same : (p q : Dealt → Bool) (flows : List Dealt) → AllByRecursion (λ d. p d ≡ q d) flows → filter p flows ≡ filter q flows
filter_same p q [] all = refl
filter_same p q (d ∷ flows) all =
    ap (λ t. cond t (d ∷ filter p flows) (filter p flows)) all.0 ∙ ap (λ (ds : List Dealt). cond (q d) (d ∷ ds) ds) (filter_same p q flows all.1)

covering_dealt : (flow : Flow) (flows : List Dealt) → covering flow (flows_of flows) ≡ map hash_of_dealt (filter (λ d. covers flow (flow_of d)) flows)
covering_dealt flow [] = refl
covering_dealt flow (d ∷ flows) = by (covers flow (flow_of d)) (covering_dealt flow flows)
  where
    by : (b : Bool) → map (λ (f : Flow). f.hash) (filter (covers flow) (flows_of flows)) ≡ map hash_of_dealt (filter (λ (e : Dealt). covers flow (flow_of e)) flows) → map (λ (f : Flow). f.hash) (cond b (flow_of d ∷ filter (covers flow) (flows_of flows)) (filter (covers flow) (flows_of flows)))
        ≡ map hash_of_dealt (cond b (d ∷ filter (λ (e : Dealt). covers flow (flow_of e)) flows) (filter (λ (e : Dealt). covers flow (flow_of e)) flows))
    by true rest = ap (λ (hs : List ℕ). hash_of_dealt d ∷ hs) rest
    by false rest = rest

nothing_passes : (p : Dealt → Bool) → ((d : Dealt) → p d ≡ false) → (flows : List Dealt) → filter p flows ≡ []
nothing_passes p fails [] = refl
nothing_passes p fails (d ∷ flows) = ap (λ t. cond t (d ∷ filter p flows) (filter p flows)) (fails d) ∙ nothing_passes p fails flows

-- ---- the flow itself is one of those with its queues

others_few : (hash : ℕ) (p : Dealt → Bool) (flows : List Dealt) → AllByRecursion (λ d. nat_eq hash (hash_of_dealt d) ≡ false) flows
    → length (others_of hash (map hash_of_dealt (filter p flows))) ≡ length (map hash_of_dealt (filter p flows))
others_few hash p [] apart = refl
others_few hash p (d ∷ flows) apart = by (p d) (others_few hash p flows apart.1)
  where
    by : (b : Bool) → length (others_of hash (map hash_of_dealt (filter p flows))) ≡ length (map hash_of_dealt (filter p flows)) → length (others_of hash (map hash_of_dealt (cond b (d ∷ filter p flows) (filter p flows)))) ≡ length (map hash_of_dealt (cond b (d ∷ filter p flows) (filter p flows)))
    by true rest =
        ap (λ t. length (cond (not t) (hash_of_dealt d ∷ others_of hash (map hash_of_dealt (filter p flows))) (others_of hash (map hash_of_dealt (filter p flows))))) apart.0
        ∙ ap suc rest
    by false rest = rest

apart_mapped : (hash : ℕ) (flows : List Dealt) → AllByRecursion (λ h. nat_eq hash h ≡ false) (map hash_of_dealt flows) → AllByRecursion (λ d. nat_eq hash (hash_of_dealt d) ≡ false) flows
apart_mapped hash [] apart = tt
apart_mapped hash (d ∷ flows) apart = (apart.0, apart_mapped hash flows apart.1)

one_less : (hash : ℕ) (p : Dealt → Bool) (flows : List Dealt) → IsDistinct nat_eq (map hash_of_dealt flows) → list_any (λ d. nat_eq hash (hash_of_dealt d)) flows ≡ true
    → AllByRecursion (λ d. nat_eq hash (hash_of_dealt d) ≡ true → p d ≡ true) flows
    → length (others_of hash (map hash_of_dealt (filter p flows))) + 1 ≡ length (map hash_of_dealt (filter p flows))
unfolding IsDistinct
one_less hash p [] d has passes = absurd cc
one_less hash p (e ∷ flows) d has passes = by (λ there. one_less hash p flows d.1 there passes.1) (nat_eq hash (hash_of_dealt e)) (p e) refl refl
  where
    front : (u v : Bool) → p e ≡ u → nat_eq hash (hash_of_dealt e) ≡ v
        → length (others_of hash (map hash_of_dealt (cond (p e) (e ∷ filter p flows) (filter p flows)))) ≡ length (cond u (cond (not v) (hash_of_dealt e ∷ others_of hash (map hash_of_dealt (filter p flows))) (others_of hash (map hash_of_dealt (filter p flows)))) (others_of hash (map hash_of_dealt (filter p flows))))
    front true v pass is =
        ap (λ t. length (others_of hash (map hash_of_dealt (cond t (e ∷ filter p flows) (filter p flows))))) pass
        ∙ ap (λ t. length (cond (not t) (hash_of_dealt e ∷ others_of hash (map hash_of_dealt (filter p flows))) (others_of hash (map hash_of_dealt (filter p flows))))) is
    front false v pass is = ap (λ t. length (others_of hash (map hash_of_dealt (cond t (e ∷ filter p flows) (filter p flows))))) pass

    back : (u : Bool) → p e ≡ u → length (map hash_of_dealt (cond (p e) (e ∷ filter p flows) (filter p flows))) ≡ length (map hash_of_dealt (cond u (e ∷ filter p flows) (filter p flows)))
    back u pass = ap (λ t. length (map hash_of_dealt (cond t (e ∷ filter p flows) (filter p flows)))) pass

    later : nat_eq hash (hash_of_dealt e) ≡ false → list_any (λ (f : Dealt). nat_eq hash (hash_of_dealt f)) flows ≡ true
    later is = sym (ap (λ u. u || list_any (λ (f : Dealt). nat_eq hash (hash_of_dealt f)) flows) is) ∙ has

    by : (list_any (λ (f : Dealt). nat_eq hash (hash_of_dealt f)) flows ≡ true → length (others_of hash (map hash_of_dealt (filter p flows))) + 1 ≡ length (map hash_of_dealt (filter p flows)))
        → (b t : Bool) → nat_eq hash (hash_of_dealt e) ≡ b → p e ≡ t
        → length (others_of hash (map hash_of_dealt (cond (p e) (e ∷ filter p flows) (filter p flows)))) + 1 ≡ length (map hash_of_dealt (cond (p e) (e ∷ filter p flows) (filter p flows)))
    by rest true t is pass =
        let own_apart : AllByRecursion (λ h. nat_eq hash h ≡ false) (map hash_of_dealt flows) =
        subst (λ (n : ℕ). AllByRecursion (λ h. nat_eq n h ≡ false) (map hash_of_dealt flows)) (sym (equal hash (hash_of_dealt e) is)) d.0 in
        let few = others_few hash p flows (apart_mapped hash flows own_apart) in
        let f = front true true (passes.0 is) is in
        let g = back true (passes.0 is) in
        omega (arith, few, f, g)
    by rest false true is pass =
        let one = rest (later is) in
        let f = front true false pass is in
        let g = back true pass in
        omega (arith, one, f, g)
    by rest false false is pass =
        let one = rest (later is) in
        let f = front false false pass is in
        let g = back false pass in
        omega (arith, one, f, g)

-- ---- of one flow

test_flips : (xs ys : List ℕ) → bytes_eq xs ys ≡ bytes_eq ys xs
test_flips xs ys = by (bytes_eq xs ys) (bytes_eq ys xs) refl refl
  where
    by : (a b : Bool) → bytes_eq xs ys ≡ a → bytes_eq ys xs ≡ b → bytes_eq xs ys ≡ bytes_eq ys xs
    by true true e f = e ∙ sym f
    by false false e f = e ∙ sym f
    by true false e f = absurd (not_both (bytes_eq ys xs) ((bytes_eq-Decides ys xs).1 (sym ((bytes_eq-Decides xs ys).0 e))) f)
    by false true e f = absurd (not_both (bytes_eq xs ys) ((bytes_eq-Decides xs ys).1 (sym ((bytes_eq-Decides ys xs).0 f))) e)

has_at : (t : Dealt → Bool) (flows : List Dealt) (i : ℕ) (flow : Dealt) → i < length flows → t (get_or flows i flow) ≡ true → list_any t flows ≡ true
has_at t flows i flow low is = list_any_at t flows i flow low is

module _ (sizes : Option Sizes) (flow : Dealt) (of : IsDealt sizes flow) where
  -- another flow has the same queues exactly if its hand holds all of this one's
  test_same : (d : Dealt) → IsDealt sizes d → shares_all flow.hand.items d.hand.items ≡ bytes_eq d.queues.items flow.queues.items
  test_same d dealt =
      same_queues flow.hand.items d.hand.items flow.queues.items d.queues.items of.queues dealt.queues of.distinct dealt.distinct (let a = of.size in let b = dealt.size in omega (arith, a, b))
      ∙ test_flips flow.queues.items d.queues.items

  covers_same : nat_lt 0 (length flow.hand.items) ≡ true → (d : Dealt) → IsDealt sizes d
      → covers (flow_of flow) (flow_of d) ≡ (not (hash_of_dealt flow == hash_of_dealt d) && bytes_eq d.queues.items flow.queues.items)
  covers_same some d dealt =
      ap (λ t. (not (hash_of_dealt flow == hash_of_dealt d) && t) && shares_all flow.hand.items d.hand.items) some
      ∙ drop_true (not (hash_of_dealt flow == hash_of_dealt d)) (shares_all flow.hand.items d.hand.items)
      ∙ ap (λ t. not (hash_of_dealt flow == hash_of_dealt d) && t) (test_same d dealt)
    where
      drop_true : (a b : Bool) → ((a && true) && b) ≡ (a && b)
      drop_true true b = refl
      drop_true false b = refl

  -- a flow of the same hash has the same queues
  own_passes : (d : Dealt) → IsDealt sizes d → nat_eq (hash_of_dealt flow) (hash_of_dealt d) ≡ true → bytes_eq d.queues.items flow.queues.items ≡ true
  own_passes d dealt is =
      let same : flow.hand.items ≡ d.hand.items = of.hand ∙ ap (hand_by sizes) (equal (hash_of_dealt flow) (hash_of_dealt d) is) ∙ sym dealt.hand in
      sym (test_same d dealt) ∙ ap (shares_all flow.hand.items) (sym same) ∙ all_own flow.hand.items

each_dealt : (sizes : Option Sizes) (flows : List Dealt) (Q : Dealt → Type 0) → AllByRecursion (IsDealt sizes) flows → ((d : Dealt) → IsDealt sizes d → Q d) → AllByRecursion Q flows
each_dealt sizes [] Q all f = tt
each_dealt sizes (d ∷ flows) Q all f = (f d all.0, each_dealt sizes flows Q all.1 f)

module _ (flows : List Dealt) (hashes : List ℕ → List ℕ) (are : AreAlike flows hashes) (h : HaveHands flows) (flow : Dealt) (i : ℕ) (low : i < length flows) (is : flow ≡ get_or flows i flow) where
  dealt : IsDealt h.sizes flow
  dealt = subst (IsDealt h.sizes) (sym is) (h.each i flow low)

  all_dealt : AllByRecursion (IsDealt h.sizes) flows
  all_dealt = recursion_from_All (IsDealt h.sizes) flows h.each

  once_with : length (others_of (hash_of_dealt flow) (map hash_of_dealt (with_queues flow.queues.items flows))) + 1 ≡ length (map hash_of_dealt (with_queues flow.queues.items flows))
  once_with =
      one_less (hash_of_dealt flow) (λ d. bytes_eq d.queues.items flow.queues.items) flows h.distinct
      (has_at (λ d. nat_eq (hash_of_dealt flow) (hash_of_dealt d)) flows i flow low (ap (λ (d : Dealt). nat_eq (hash_of_dealt flow) (hash_of_dealt d)) (sym is) ∙ own (hash_of_dealt flow)))
      (each_dealt h.sizes flows (λ d. nat_eq (hash_of_dealt flow) (hash_of_dealt d) ≡ true → bytes_eq d.queues.items flow.queues.items ≡ true) all_dealt (own_passes h.sizes flow dealt))

  -- its hash stands once among those of the flows with its queues
  pub own_once : IsOnce (hash_of_dealt flow) (hashes_for hashes flow.queues.items)
  own_once = by flow.queues.items refl
    where
      by : (queues : List ℕ) → flow.queues.items ≡ queues → IsOnce (hash_of_dealt flow) (hashes_for hashes queues)
      by [] e = record { others = refl }
      by (q ∷ queues) e = record {
        others =
            let at : hashes (q ∷ queues) ≡ map hash_of_dealt (with_queues flow.queues.items flows) = are.each (q ∷ queues) ∙ ap (λ (qs : List ℕ). map hash_of_dealt (with_queues qs flows)) (sym e) in
            let less = once_with in
            ap (λ (hs : List ℕ). length (others_of (hash_of_dealt flow) hs)) at ∙ let few : length (others_of (hash_of_dealt flow) (map hash_of_dealt (with_queues flow.queues.items flows))) ≡ length (map hash_of_dealt (with_queues flow.queues.items flows)) - 1 = omega (arith, less) in few
            ∙ ap (λ (hs : List ℕ). length hs - 1) (sym at);
      }

  -- the others with its queues are those that cover its hand
  covering_same : others_of (hash_of_dealt flow) (hashes_for hashes flow.queues.items) ≡ covering (flow_of flow) (flows_of flows)
  covering_same = by flow.queues.items refl
    where
      long : length flow.queues.items ≡ length flow.hand.items
      long = length_permutation flow.hand.items flow.queues.items dealt.queues.same

      fails : (a b c : Bool) → b ≡ false → ((a && b) && c) ≡ false
      fails true b c e = ap (λ t. t && c) e
      fails false b c e = refl

      none : (n : ℕ) → n ≡ 0 → nat_lt 0 n ≡ false
      none n e = grind (arith, nat_tests)

      some : (n : ℕ) → 0 < n → nat_lt 0 n ≡ true
      some n e = grind (arith, nat_tests)

      by : (queues : List ℕ) → flow.queues.items ≡ queues → others_of (hash_of_dealt flow) (hashes_for hashes queues) ≡ covering (flow_of flow) (flows_of flows)
      by [] e =
          let many : length flow.hand.items ≡ 0 = sym long ∙ ap (λ (qs : List ℕ). length qs) e in
          sym (covering_dealt (flow_of flow) flows
          ∙ ap (map hash_of_dealt) (nothing_passes (λ d. covers (flow_of flow) (flow_of d)) (λ d. fails (not (hash_of_dealt flow == hash_of_dealt d)) (nat_lt 0 (length flow.hand.items)) (shares_all flow.hand.items d.hand.items) (none (length flow.hand.items) many)) flows))
      by (q ∷ queues) e =
          let at : hashes (q ∷ queues) ≡ map hash_of_dealt (with_queues flow.queues.items flows) = are.each (q ∷ queues) ∙ ap (λ (qs : List ℕ). map hash_of_dealt (with_queues qs flows)) (sym e) in
          let count = ap (λ (qs : List ℕ). length qs) e in
          let many : 0 < length flow.hand.items = omega (arith, long, count) in
          ap (others_of (hash_of_dealt flow)) at
          ∙ others_passed (hash_of_dealt flow) (λ d. bytes_eq d.queues.items flow.queues.items) flows
          ∙ ap (map hash_of_dealt) (sym (filter_same (λ d. covers (flow_of flow) (flow_of d)) (λ d. not (hash_of_dealt flow == hash_of_dealt d) && bytes_eq d.queues.items flow.queues.items) flows
          (each_dealt h.sizes flows (λ d. covers (flow_of flow) (flow_of d) ≡ (not (hash_of_dealt flow == hash_of_dealt d) && bytes_eq d.queues.items flow.queues.items)) all_dealt
          (covers_same h.sizes flow dealt (some (length flow.hand.items) many)))))
          ∙ sym (covering_dealt (flow_of flow) flows)

  -- what is written of the flow is what is to be written
  pub held_same : (places : ℕ → List ℕ) → AreHolders (flows_of flows) places → held_text places (hashes_for hashes flow.queues.items) (flow_of flow) ≡ flow_text (flows_of flows) (flow_of flow)
  held_same places holders =
      ap₂ (λ (a b : List ℕ). hand_text (flow_of flow) ++ a ++ b) (sharers_same (flows_of flows) places holders flow.hand.items)
      (ap (λ (hs : List ℕ). covering_text hs) covering_same)

  -- and with each other flow that shares a queue
  pub whole_same : held_whole_text (hashes_for hashes flow.queues.items) (flows_of flows) (flow_of flow) ≡ whole_text (flows_of flows) (flow_of flow)
  whole_same = ap (λ (hs : List ℕ). hand_text (flow_of flow) ++ shares_text (flow_of flow) (flows_of flows) ++ covers_text hs) covering_same
