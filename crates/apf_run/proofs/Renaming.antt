-- A history by the slots of its requests, where each slot has one request: it is legal as before.
use Rattle.std.proofs.Common.{◌≡◌, ℕ, zero, suc, ◌==◌, ◌||◌, inl, inr, not, Bool, true, false, cond, List, [], ◌∷◌, ◌++◌, length, get_or, Option, Some, None, refl, sym, ap, ◌∙◌, subst, arith}
use Rattle.std.specs.Prelude.{map, filter, slice_get, slice_index, All, Contains}
use Rattle.std.proofs.lemmas.Bool.{cases_eq, eq-eqb, ne_eqb}
use Rattle.std.proofs.lemmas.List.{map-append, length-map, get_or-map}
use Rattle.std.proofs.lemmas.List.Elements.{All-nil, All-cons, All-append, All-contains, All-filter}
use Rattle.apf_history.specs.declared.events.Event.{Event}
use Rattle.apf_history.specs.declared.events.Event.TheVariants.{Enter, Full, Dispatch, Strike}
use Rattle.apf_model.specs.History.{entered, has_left, has_arrived, waiting, IsShortest, MayFollow, IsLegal}
use Rattle.apf_gate.specs.Slots.{slot_of}
use Rattle.apf_book.specs.Servings.{AreServings}
use Rattle.apf_run.specs.Batches.{slotted, AreOfSlots}

some_is : {A : Type 0} (a b : A) → ◌≡◌ {A = Option A} (Some a) (Some b) → a ≡ b
some_is a b is = cc

map_cond : {A B : Type 0} (f : A → B) (b : Bool) (xs ys : List A) → map f (cond b xs ys) ≡ cond b (map f xs) (map f ys)
map_cond f true xs ys = refl
map_cond f false xs ys = refl

-- a test of the names of what was renamed
filter_map : (f : ℕ → ℕ) (p q : ℕ → Bool) (P : ℕ → Type 0) → ((r : ℕ) → P r → q (f r) ≡ p r) → (rs : List ℕ) → All P rs → filter q (map f rs) ≡ map f (filter p rs)
filter_map f p q P same [] all = refl
filter_map f p q P same (r ∷ rs) all =
    ap (λ (b : Bool). cond b (f r ∷ filter q (map f rs)) (filter q (map f rs))) (same r (all 0 r (omega arith)))
    ∙ (ap (λ (xs : List ℕ). cond (p r) (f r ∷ xs) xs) (filter_map f p q P same rs (λ i d low. all (suc i) d (omega (arith, low))))
    ∙ sym (map_cond f (p r) (r ∷ filter p rs) (filter p rs)))

first_map : (f : ℕ → ℕ) (rs : List ℕ) (r : ℕ) → slice_get rs 0 ≡ Some r → slice_get (map f rs) 0 ≡ Some (f r)
first_map f [] r is = absurd (let z : ◌≡◌ {A = Option ℕ} None (Some r) = is in cc)
first_map f (x ∷ rs) r is = ap (λ (y : ℕ). Some (f y)) (some_is x r is)

first_of : (P : ℕ → Type 0) (rs : List ℕ) (r : ℕ) → All P rs → slice_get rs 0 ≡ Some r → P r
first_of P [] r all is = absurd (let z : ◌≡◌ {A = Option ℕ} None (Some r) = is in cc)
first_of P (x ∷ rs) r all is = subst P (some_is x r is) (all 0 x (omega arith))

contains_map : (f : ℕ → ℕ) (rs : List ℕ) (r : ℕ) → Contains rs r → Contains (map f rs) (f r)
contains_map f rs r c = (c.0, (let l = length-map rs f in let low = c.1 in omega arith), get_or-map f rs c.0 r (f r) c.1 ∙ ap f c.2)

module _ (numbers : List ℕ) where
  -- it is the request of its slot
  abbrev pub IsNamed : ℕ → Type 0
  IsNamed r = slice_get numbers (slot_of r) ≡ Some r

  same_test : (j r : ℕ) → IsNamed j → IsNamed r → (slot_of j == slot_of r) ≡ (j == r)
  same_test j r of_j of_r = elim (cases_eq j r) [
    | inl e ↦ eq-eqb (slot_of j) (slot_of r) (ap slot_of e) ∙ sym (eq-eqb j r e)
    | inr ne ↦ ne_eqb (slot_of j) (slot_of r) (λ same. ne (some_is j r (sym of_j ∙ (ap (slice_get numbers) same ∙ of_r)))) ∙ sym (ne_eqb j r ne)
  ]

  left_same : (h : List Event) → AreOfSlots numbers h → (r : ℕ) → IsNamed r → has_left (map slotted h) (slot_of r) ≡ has_left h r
  left_same [] all r of_r = refl
  left_same (Enter j q ∷ h) all r of_r = left_same h all.1 r of_r
  left_same (Full j q ∷ h) all r of_r = left_same h all.1 r of_r
  left_same (Dispatch j q ∷ h) all r of_r = ap (λ (b : Bool). b || has_left (map slotted h) (slot_of r)) (same_test j r all.0 of_r) ∙ ap (λ (b : Bool). (j == r) || b) (left_same h all.1 r of_r)
  left_same (Strike j q ∷ h) all r of_r = ap (λ (b : Bool). b || has_left (map slotted h) (slot_of r)) (same_test j r all.0 of_r) ∙ ap (λ (b : Bool). (j == r) || b) (left_same h all.1 r of_r)

  arrived_same : (h : List Event) → AreOfSlots numbers h → (r : ℕ) → IsNamed r → has_arrived (map slotted h) (slot_of r) ≡ has_arrived h r
  arrived_same [] all r of_r = refl
  arrived_same (Enter j q ∷ h) all r of_r = ap (λ (b : Bool). b || has_arrived (map slotted h) (slot_of r)) (same_test j r all.0 of_r) ∙ ap (λ (b : Bool). (j == r) || b) (arrived_same h all.1 r of_r)
  arrived_same (Full j q ∷ h) all r of_r = ap (λ (b : Bool). b || has_arrived (map slotted h) (slot_of r)) (same_test j r all.0 of_r) ∙ ap (λ (b : Bool). (j == r) || b) (arrived_same h all.1 r of_r)
  arrived_same (Dispatch j q ∷ h) all r of_r = arrived_same h all.1 r of_r
  arrived_same (Strike j q ∷ h) all r of_r = arrived_same h all.1 r of_r

  entered_same : (h : List Event) (q : ℕ) → entered (map slotted h) q ≡ map slot_of (entered h q)
  entered_same [] q = refl
  entered_same (Enter j p ∷ h) q =
      ap (λ (xs : List ℕ). cond (p == q) (xs ++ slot_of j ∷ []) xs) (entered_same h q)
      ∙ (ap (λ (xs : List ℕ). cond (p == q) xs (map slot_of (entered h q))) (sym (map-append slot_of (entered h q) (j ∷ [])))
      ∙ sym (map_cond slot_of (p == q) (entered h q ++ j ∷ []) (entered h q)))
  entered_same (Full j p ∷ h) q = entered_same h q
  entered_same (Dispatch j p ∷ h) q = entered_same h q
  entered_same (Strike j p ∷ h) q = entered_same h q

  one_more : (b : Bool) (j : ℕ) (rs : List ℕ) → IsNamed j → All IsNamed rs → All IsNamed (cond b (rs ++ j ∷ []) rs)
  one_more true j rs of_j all = All-append IsNamed rs (j ∷ []) all (All-cons IsNamed j [] of_j (All-nil IsNamed))
  one_more false j rs of_j all = all

  entered_named : (h : List Event) → AreOfSlots numbers h → (q : ℕ) → All IsNamed (entered h q)
  entered_named [] all q = All-nil IsNamed
  entered_named (Enter j p ∷ h) all q = one_more (p == q) j (entered h q) all.0 (entered_named h all.1 q)
  entered_named (Full j p ∷ h) all q = entered_named h all.1 q
  entered_named (Dispatch j p ∷ h) all q = entered_named h all.1 q
  entered_named (Strike j p ∷ h) all q = entered_named h all.1 q

  waiting_named : (h : List Event) → AreOfSlots numbers h → (q : ℕ) → All IsNamed (waiting h q)
  waiting_named h all q = All-filter (λ r. not (has_left h r)) IsNamed (entered h q) (entered_named h all q)

  waiting_same : (h : List Event) → AreOfSlots numbers h → (q : ℕ) → waiting (map slotted h) q ≡ map slot_of (waiting h q)
  waiting_same h all q =
      ap (filter (λ r. not (has_left (map slotted h) r))) (entered_same h q)
      ∙ filter_map slot_of (λ r. not (has_left h r)) (λ r. not (has_left (map slotted h) r)) IsNamed (λ r of_r. ap not (left_same h all r of_r)) (entered h q) (entered_named h all q)

  waiting_long : (h : List Event) → AreOfSlots numbers h → (q : ℕ) → length (waiting (map slotted h) q) ≡ length (waiting h q)
  waiting_long h all q = ap (λ (xs : List ℕ). length xs) (waiting_same h all q) ∙ length-map (waiting h q) slot_of

  -- the hands by the slots
  abbrev pub hands_by : (ℕ → List ℕ) → ℕ → List ℕ
  hands_by hands slot = hands (get_or numbers slot 0)

  read : (xs : List ℕ) (i r : ℕ) → slice_get xs i ≡ Some r → get_or xs i 0 ≡ r
  read [] i r is = absurd (let z : ◌≡◌ {A = Option ℕ} None (Some r) = is in cc)
  read (x ∷ xs) zero r is = some_is x r is
  read (x ∷ xs) (suc i) r is = read xs i r is

  module _ (hands : ℕ → List ℕ) (limit : ℕ) where
    shortest : (h : List Event) → AreOfSlots numbers h → (r q : ℕ) → IsNamed r → IsShortest (waiting h) (hands r) q → IsShortest (waiting (map slotted h)) (hands_by hands (slot_of r)) q
    shortest h all r q of_r is =
        subst (λ (hand : List ℕ). IsShortest (waiting (map slotted h)) hand q) (ap hands (sym (read numbers (slot_of r) r of_r))) (record {
          place = is.place;
          is_dealt = is.is_dealt;
          has_fewest = λ j low. let a = waiting_long h all q in let b = waiting_long h all (slice_index (hands r) j) in let f = is.has_fewest j low in omega arith;
          is_first = λ j low. let a = waiting_long h all q in let b = waiting_long h all (slice_index (hands r) j) in let f = is.is_first j low in omega arith;
        })

    follows : (h : List Event) → AreOfSlots numbers h → (e : Event) → AreOfSlots numbers (e ∷ []) → MayFollow hands limit h e → MayFollow (hands_by hands) limit (map slotted h) (slotted e)
    follows h all (Enter r q) one may = (arrived_same h all r one.0 ∙ may.0, shortest h all r q one.0 may.1, (let a = waiting_long h all q in let b = may.2 in omega arith))
    follows h all (Full r q) one may = (arrived_same h all r one.0 ∙ may.0, shortest h all r q one.0 may.1, waiting_long h all q ∙ may.2)
    follows h all (Dispatch r q) one may = ap (λ (xs : List ℕ). slice_get xs 0) (waiting_same h all q) ∙ first_map slot_of (waiting h q) r may
    follows h all (Strike r q) one may = subst (λ (xs : List ℕ). Contains xs (slot_of r)) (sym (waiting_same h all q)) (contains_map slot_of (waiting h q) r may)

    pub legal_by_slots : (h : List Event) → AreOfSlots numbers h → IsLegal hands limit h → IsLegal (hands_by hands) limit (map slotted h)
    legal_by_slots [] all legal = tt
    legal_by_slots (e ∷ h) all legal = (follows h all.1 e (all.0, tt) legal.0, legal_by_slots h all.1 legal.1)

    -- who is dispatched or struck was named as it entered
    pub served_named : (es h : List Event) → AreServings es → IsLegal hands limit (es ++ h) → AreOfSlots numbers h → AreOfSlots numbers (es ++ h)
    served_named [] h servings legal all = all
    served_named (Enter r q ∷ es) h servings legal all = absurd servings
    served_named (Full r q ∷ es) h servings legal all = absurd servings
    served_named (Dispatch r q ∷ es) h servings legal all =
        let before = served_named es h servings legal.1 all in
        (first_of IsNamed (waiting (es ++ h) q) r (waiting_named (es ++ h) before q) legal.0, before)
    served_named (Strike r q ∷ es) h servings legal all =
        let before = served_named es h servings legal.1 all in
        (All-contains IsNamed (waiting (es ++ h) q) r (waiting_named (es ++ h) before q) legal.0, before)
