-- What an event does to the seats that wait in a queue, and to a request that waits there.
use Rattle.std.proofs.Common.{◌≡◌, ◌≢◌, ℕ, ◌+◌, ◌-◌, ◌<◌, ◌≤◌, ◌⊎◌, inl, inr, Bool, true, false, cond, eqb, List, [], ◌∷◌, length, take, drop, get_or, reverse, Some, refl, sym, ap, ◌∙◌, subst, arith}
use Rattle.std.specs.Prelude.{Contains, slice_get}
use Rattle.std.proofs.lemmas.Bool.{cases_eq, eq-eqb, ne_eqb, eqb-true, false≢true}
use Rattle.std.proofs.lemmas.List.Elements.{Contains-append_left, Contains-push}
use Rattle.std.proofs.lemmas.Option.{get_or_from_slice_get, slice_get-get_or, slice_get_within}
use Rattle.apf_history.specs.declared.events.Event.{Event}
use Rattle.apf_history.specs.declared.events.Event.TheVariants.{Enter, Full, Dispatch, Strike}
use Rattle.apf_history.specs.Numbered.{width}
use Rattle.apf_model.specs.History.{queue_of, waiting, MayFollow, IsLegal}
use Rattle.apf_model.specs.Order.{changed, AreInOrder, Follows}
use Rattle.apf_model.specs.Waits.{total_width}
use Rattle.apf_book.specs.Stretch.{history_at}
use Rattle.apf_book.specs.Histories.{Laws}
use Rattle.apf_book.specs.Seats.{seats_coming, seats_leaving, is_leaving_of}
use Rattle.apf_book.proofs.Stretches.{history_whole, history_more}
use Rattle.apf_book.proofs.Widths.{first_stands, drop_keeps, without_keeps, total_push, total_drop, total_without}

module _ (h : List Event) (e : Event) (q : ℕ) (f : Follows h e) where
  moved_here : queue_of e ≡ q → waiting (e ∷ h) q ≡ changed e (waiting h q)
  moved_here s = f.queues q
      ∙ (ap (λ (b : Bool). cond b (changed e (waiting h (queue_of e))) (waiting h q)) (eq-eqb q (queue_of e) (sym s))
      ∙ ap (λ (p : ℕ). changed e (waiting h p)) s)

  moved_else : queue_of e ≢ q → waiting (e ∷ h) q ≡ waiting h q
  moved_else ne = f.queues q ∙ ap (λ (b : Bool). cond b (changed e (waiting h (queue_of e))) (waiting h q)) (ne_eqb q (queue_of e) (λ s. ne (sym s)))

chosen : (p q n : ℕ) → p ≡ q → cond (eqb p q) n 0 ≡ n
chosen p q n s = ap (λ (b : Bool). cond b n 0) (eq-eqb p q s)

passed : (p q n : ℕ) → p ≢ q → cond (eqb p q) n 0 ≡ 0
passed p q n ne = ap (λ (b : Bool). cond b n 0) (ne_eqb p q ne)

module _ (widths : List ℕ) (hands : ℕ → List ℕ) (limit : ℕ) (h : List Event) (q : ℕ) (order : AreInOrder limit h) where
  -- the seats that wait after an event, and those that left by it
  seats_moved : (e : Event) → MayFollow hands limit h e → Follows h e
      → total_width widths (waiting (e ∷ h) q) + seats_leaving widths e q ≡ total_width widths (waiting h q) + seats_coming widths e q
  seats_moved (Enter r p) m f = elim (cases_eq p q) [
    | inl s ↦
        (let is = ap (total_width widths) (moved_here h (Enter r p) q f s) in
        let push = total_push widths (waiting h q) r in
        let c = chosen p q (width widths r) s in omega arith)
    | inr ne ↦ (let is = ap (total_width widths) (moved_else h (Enter r p) q f ne) in let c = passed p q (width widths r) ne in omega arith)
  ]
  seats_moved (Full r p) m f = elim (cases_eq p q) [
    | inl s ↦ (let is = ap (total_width widths) (moved_here h (Full r p) q f s) in omega arith)
    | inr ne ↦ (let is = ap (total_width widths) (moved_else h (Full r p) q f ne) in omega arith)
  ]
  seats_moved (Dispatch r p) m f = elim (cases_eq p q) [
    | inl s ↦
        (let is = ap (total_width widths) (moved_here h (Dispatch r p) q f s) in
        let fewer = total_drop widths (waiting h q) r (subst (λ (i : ℕ). slice_get (waiting h i) 0 ≡ Some r) s m) in
        let c = chosen p q (width widths r) s in omega arith)
    | inr ne ↦ (let is = ap (total_width widths) (moved_else h (Dispatch r p) q f ne) in let c = passed p q (width widths r) ne in omega arith)
  ]
  seats_moved (Strike r p) m f = elim (cases_eq p q) [
    | inl s ↦
        (let is = ap (total_width widths) (moved_here h (Strike r p) q f s) in
        let fewer = total_without widths r (waiting h q) (order.stands_once q) (subst (λ (i : ℕ). Contains (waiting h i) r) s m) in
        let c = chosen p q (width widths r) s in omega arith)
    | inr ne ↦ (let is = ap (total_width widths) (moved_else h (Strike r p) q f ne) in let c = passed p q (width widths r) ne in omega arith)
  ]

  -- who leaves waited
  seats_waited : (e : Event) → MayFollow hands limit h e → Follows h e → seats_leaving widths e q ≤ total_width widths (waiting h q)
  seats_waited (Enter r p) m f = omega arith
  seats_waited (Full r p) m f = omega arith
  seats_waited (Dispatch r p) m f = let moved = seats_moved (Dispatch r p) m f in omega arith
  seats_waited (Strike r p) m f = let moved = seats_moved (Strike r p) m f in omega arith

other_number : (j r : ℕ) → eqb j r ≡ false → j ≢ r
other_number j r e same = false≢true (sym e ∙ eq-eqb j r same)

module _ (hands : ℕ → List ℕ) (limit : ℕ) (h : List Event) (q r : ℕ) (waits : Contains (waiting h q) r) where
  kept : (e : Event) → MayFollow hands limit h e → queue_of e ≡ q → is_leaving_of r e ≡ false → Contains (changed e (waiting h q)) r
  kept (Enter j p) m s stays = Contains-append_left (waiting h q) (j ∷ []) r waits
  kept (Full j p) m s stays = waits
  kept (Dispatch j p) m s stays = drop_keeps (waiting h q) j r (subst (λ (i : ℕ). slice_get (waiting h i) 0 ≡ Some j) s m) (other_number j r stays) waits
  kept (Strike j p) m s stays = without_keeps j (waiting h q) r (other_number j r stays) waits

  -- who does not leave waits still
  still : (e : Event) → MayFollow hands limit h e → Follows h e → is_leaving_of r e ≡ false → Contains (waiting (e ∷ h) q) r
  still e m f stays = elim (cases_eq (queue_of e) q) [
    | inl s ↦ subst (λ (xs : List ℕ). Contains xs r) (sym (moved_here h e q f s)) (kept e m s stays)
    | inr ne ↦ subst (λ (xs : List ℕ). Contains xs r) (sym (moved_else h e q f ne)) waits
  ]

  -- who leaves leaves its own queue
  left : (e : Event) → MayFollow hands limit h e → AreInOrder limit h → is_leaving_of r e ≡ true → (e ≡ Dispatch r q) ⊎ (e ≡ Strike r q)
  left (Enter j p) m order leaves = absurd (false≢true leaves)
  left (Full j p) m order leaves = absurd (false≢true leaves)
  left (Dispatch j p) m order leaves =
      let same : j ≡ r = eqb-true j r leaves in
      let here = order.stands_in_one p q r (subst (λ (i : ℕ). Contains (waiting h p) i) same (first_stands (waiting h p) j m)) waits in
      inl (ap (λ (i : ℕ). Dispatch i p) same ∙ ap (λ (i : ℕ). Dispatch r i) here)
  left (Strike j p) m order leaves =
      let same : j ≡ r = eqb-true j r leaves in
      let here = order.stands_in_one p q r (subst (λ (i : ℕ). Contains (waiting h p) i) same m) waits in
      inr (ap (λ (i : ℕ). Strike i p) same ∙ ap (λ (i : ℕ). Strike r i) here)

-- along a legal log
module _ (laws : Laws) (hands : ℕ → List ℕ) (limit : ℕ) (log : List Event) (legal : IsLegal hands limit (reverse log)) where
  legal_at : (k : ℕ) → k ≤ length log → IsLegal hands limit (history_at log k)
  legal_at k l = laws.beginnings hands limit (reverse (take (length log - k) (drop k log))) (history_at log k) (subst (IsLegal hands limit) (history_whole log k l) legal)

  may_follow : (k : ℕ) (d : Event) → k < length log → MayFollow hands limit (history_at log k) (get_or log k d)
  may_follow k d l = let next : IsLegal hands limit (get_or log k d ∷ history_at log k) = subst (IsLegal hands limit) (history_more log k d l) (legal_at (k + 1) (omega arith)) in next.0

  follows : (k : ℕ) (d : Event) → k < length log → Follows (history_at log k) (get_or log k d)
  follows k d l = laws.follows hands limit (history_at log k) (get_or log k d) (legal_at k (omega arith)) (may_follow k d l)

  order_at : (k : ℕ) → k ≤ length log → AreInOrder limit (history_at log k)
  order_at k l = laws.order hands limit (history_at log k) (legal_at k l)

  pub seats_leave_at : (widths : List ℕ) (q k : ℕ) (d : Event) → k < length log → seats_leaving widths (get_or log k d) q ≤ total_width widths (waiting (history_at log k) q)
  seats_leave_at widths q k d l = seats_waited widths hands limit (history_at log k) q (order_at k (omega arith)) (get_or log k d) (may_follow k d l) (follows k d l)

  pub seats_move_at : (widths : List ℕ) (q k : ℕ) (d : Event) (now after : ℕ) → k < length log → now ≡ total_width widths (waiting (history_at log k) q)
      → after + seats_leaving widths (get_or log k d) q ≡ now + seats_coming widths (get_or log k d) q → after ≡ total_width widths (waiting (history_at log (k + 1)) q)
  seats_move_at widths q k d now after l is moved =
      let m = seats_moved widths hands limit (history_at log k) q (order_at k (omega arith)) (get_or log k d) (may_follow k d l) (follows k d l) in
      let e = ap (λ (h : List Event). total_width widths (waiting h q)) (history_more log k d l) in omega arith

  -- who entered waits
  pub waits_entered : (r q k : ℕ) → slice_get log k ≡ Some (Enter r q) → Contains (waiting (history_at log (k + 1)) q) r
  waits_entered r q k at =
      let l = slice_get_within log k (Enter r q) at in
      let is = get_or_from_slice_get log k (Enter r q) (Enter r q) at in
      let after = history_more log k (Enter r q) l ∙ ap (λ (e : Event). e ∷ history_at log k) is in
      let f = subst (Follows (history_at log k)) is (follows k (Enter r q) l) in
      subst (λ (h : List Event). Contains (waiting h q) r) (sym after)
      (subst (λ (xs : List ℕ). Contains xs r) (sym (moved_here (history_at log k) (Enter r q) q f refl)) (Contains-push (waiting (history_at log k) q) r))

  pub waits_still : (r q k : ℕ) (d : Event) → k < length log → is_leaving_of r (get_or log k d) ≡ false → Contains (waiting (history_at log k) q) r → Contains (waiting (history_at log (k + 1)) q) r
  waits_still r q k d l stays waits = subst (λ (h : List Event). Contains (waiting h q) r) (sym (history_more log k d l))
      (still hands limit (history_at log k) q r waits (get_or log k d) (may_follow k d l) (follows k d l) stays)

  pub leaves_at : (r q k : ℕ) (d : Event) → k < length log → is_leaving_of r (get_or log k d) ≡ true → Contains (waiting (history_at log k) q) r
      → (slice_get log k ≡ Some (Dispatch r q)) ⊎ (slice_get log k ≡ Some (Strike r q))
  leaves_at r q k d l leaves waits = elim (left hands limit (history_at log k) q r waits (get_or log k d) (may_follow k d l) (order_at k (omega arith)) leaves) [
    | inl e ↦ inl (slice_get-get_or log k d l ∙ ap Some e)
    | inr e ↦ inr (slice_get-get_or log k d l ∙ ap Some e)
  ]
