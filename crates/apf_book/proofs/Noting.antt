-- What one event more leaves of the notes, and what is copied of them.
use Rattle.std.proofs.Common.{◌≡◌, ℕ, ◌+◌, ◌-◌, ◌%◌, ◌<◌, ◌≤◌, List, [], ◌∷◌, ◌++◌, length, map, take, drop, reverse, max, min, inl, inr, refl, sym, ap, ◌∙◌, subst, arith}
use Rattle.std.proofs.lemmas.Bool.{cases_lt}
use Rattle.std.proofs.lemmas.List.{reverse-append, length-reverse, length-map, length-drop, length-take, length-append, length_push, map_push, take-map, take_at, drop_at, drop-map, drop-drop, drop-append-le}
use Rattle.circular_buffer.specs.Buffer.{Buffer, buffer, keep_last}
use Rattle.apf_history.specs.declared.events.Event.{Event}
use Rattle.apf_history.specs.declared.events.Event.TheVariants as events
use Rattle.apf_gate.specs.declared.ticket.Ticket.{Ticket}
use Rattle.apf_model.specs.Outcome.{is_enter, is_full, is_dispatch, is_strike}
use Rattle.std.specs.Prelude.{count_by}
use Rattle.apf_book.specs.declared.life_event.LifeEvent.{LifeEvent}
use Rattle.apf_book.specs.declared.life_event.LifeEvent.TheVariants as life
use Rattle.apf_book.specs.LedgerKept.{AreRunning}
use Rattle.apf_book.specs.declared.recent_events.Copied.{Copied}
use Rattle.apf_book.specs.RecentEvents.{event_of, RecentEventsView, AreRecentEventsOf, CopiesLate}
use Rattle.apf_book.proofs.Running.{count, running_after, count_within}

-- the newest events after one more
pub newest_more : (h : List Event) (x : LifeEvent) (items : List LifeEvent) (n : ℕ) → map event_of items ≡ keep_last n (reverse h)
    → map event_of (keep_last n (items ++ x ∷ [])) ≡ keep_last n (reverse (event_of x ∷ h))
newest_more h x items n newest =
    let past : List Event = reverse h in
    let k : ℕ = length past - n in
    let j : ℕ = length (items ++ x ∷ []) - n in
    let more = length_push items x in
    let kept = sym (length-map items event_of) ∙ (ap (λ (es : List Event). length es) newest ∙ length-drop k past) in
    let longer = length_push past (event_of x) in
    let place : k + j ≡ length (past ++ event_of x ∷ []) - n = omega arith in
    sym (drop-map event_of j (items ++ x ∷ []))
    ∙ (ap (drop j) (map_push event_of items x ∙ (ap (λ (es : List Event). es ++ event_of x ∷ []) newest ∙ sym (drop-append-le k past (event_of x ∷ []) (omega arith))))
    ∙ (drop-drop j k (past ++ event_of x ∷ []) ∙ (ap (λ (i : ℕ). drop i (past ++ event_of x ∷ [])) place ∙ ap (keep_last n) (sym (reverse-append (event_of x ∷ []) h)))))

-- the notes after one more, by the numbers after it
module _ (h : List Event) (x : LifeEvent) (n : RecentEventsView) (b : Buffer LifeEvent) (is : AreRecentEventsOf h n) (pushed : b ≡ buffer (keep_last n.capacity (n.newest ++ x ∷ [])) n.capacity) where
  noted : (e d s f : ℕ) → (length (event_of x ∷ h) < 18446744073709551616 → AreRunning (event_of x ∷ h) e d s f)
      → AreRecentEventsOf (event_of x ∷ h) (record { newest = b.items; capacity = b.capacity; entered = e; dispatched = d; struck = s; full = f })
  noted e d s f counted = record {
    newest_are = ap (λ (c : Buffer LifeEvent). map event_of c.items) pushed
        ∙ (newest_more h x n.newest n.capacity is.newest_are ∙ ap (λ (c : Buffer LifeEvent). keep_last c.capacity (reverse (event_of x ∷ h))) (sym pushed));
    counted = counted;
  }

  -- a number that goes on by one does not wrap
  goes_on : (a k : ℕ) → k ≤ length h → a ≡ k → length (event_of x ∷ h) < 18446744073709551616 → 1 + a ≡ (a + 1) % 18446744073709551616
  goes_on a k within same few = omega arith

  module _ (t : Ticket) (q : ℕ) where
    pub noted_enter : x ≡ life.Enter t q → AreRecentEventsOf (event_of x ∷ h) (record { newest = b.items; capacity = b.capacity; entered = (n.entered + 1) % 18446744073709551616; dispatched = n.dispatched; struck = n.struck; full = n.full })
    noted_enter e = noted _ _ _ _ (λ few. let was = is.counted (omega (arith, few)) in
        subst (λ (y : LifeEvent). AreRunning (event_of y ∷ h) ((n.entered + 1) % 18446744073709551616) n.dispatched n.struck n.full) (sym e)
        (running_after h (events.Enter t.number q) n.entered n.dispatched n.struck n.full ((n.entered + 1) % 18446744073709551616) n.dispatched n.struck n.full was (goes_on n.entered (count_by is_enter h) (count_within is_enter h) was.entered_is few) (omega arith) (omega arith) (omega arith)))

    pub noted_dispatch : x ≡ life.Dispatch t q → AreRecentEventsOf (event_of x ∷ h) (record { newest = b.items; capacity = b.capacity; entered = n.entered; dispatched = (n.dispatched + 1) % 18446744073709551616; struck = n.struck; full = n.full })
    noted_dispatch e = noted _ _ _ _ (λ few. let was = is.counted (omega (arith, few)) in
        subst (λ (y : LifeEvent). AreRunning (event_of y ∷ h) n.entered ((n.dispatched + 1) % 18446744073709551616) n.struck n.full) (sym e)
        (running_after h (events.Dispatch t.number q) n.entered n.dispatched n.struck n.full n.entered ((n.dispatched + 1) % 18446744073709551616) n.struck n.full was (omega arith) (goes_on n.dispatched (count_by is_dispatch h) (count_within is_dispatch h) was.dispatched_is few) (omega arith) (omega arith)))

    pub noted_strike : x ≡ life.Strike t q → AreRecentEventsOf (event_of x ∷ h) (record { newest = b.items; capacity = b.capacity; entered = n.entered; dispatched = n.dispatched; struck = (n.struck + 1) % 18446744073709551616; full = n.full })
    noted_strike e = noted _ _ _ _ (λ few. let was = is.counted (omega (arith, few)) in
        subst (λ (y : LifeEvent). AreRunning (event_of y ∷ h) n.entered n.dispatched ((n.struck + 1) % 18446744073709551616) n.full) (sym e)
        (running_after h (events.Strike t.number q) n.entered n.dispatched n.struck n.full n.entered n.dispatched ((n.struck + 1) % 18446744073709551616) n.full was (omega arith) (omega arith) (goes_on n.struck (count_by is_strike h) (count_within is_strike h) was.struck_is few) (omega arith)))

    pub noted_full : x ≡ life.Full t q → AreRecentEventsOf (event_of x ∷ h) (record { newest = b.items; capacity = b.capacity; entered = n.entered; dispatched = n.dispatched; struck = n.struck; full = (n.full + 1) % 18446744073709551616 })
    noted_full e = noted _ _ _ _ (λ few. let was = is.counted (omega (arith, few)) in
        subst (λ (y : LifeEvent). AreRunning (event_of y ∷ h) n.entered n.dispatched n.struck ((n.full + 1) % 18446744073709551616)) (sym e)
        (running_after h (events.Full t.number q) n.entered n.dispatched n.struck n.full n.entered n.dispatched n.struck ((n.full + 1) % 18446744073709551616) was (omega arith) (omega arith) (omega arith) (goes_on n.full (count_by is_full h) (count_within is_full h) was.full_is few)))

-- each event is of one kind
pub kinds : (h : List Event) → count_by is_enter h + count_by is_dispatch h + count_by is_strike h + count_by is_full h ≡ length h
kinds [] = refl
kinds (events.Enter r q ∷ h) = let a = count is_enter (events.Enter r q) h in let b = count is_dispatch (events.Enter r q) h in let c = count is_strike (events.Enter r q) h in let d = count is_full (events.Enter r q) h in let e = kinds h in omega arith
kinds (events.Full r q ∷ h) = let a = count is_enter (events.Full r q) h in let b = count is_dispatch (events.Full r q) h in let c = count is_strike (events.Full r q) h in let d = count is_full (events.Full r q) h in let e = kinds h in omega arith
kinds (events.Dispatch r q ∷ h) = let a = count is_enter (events.Dispatch r q) h in let b = count is_dispatch (events.Dispatch r q) h in let c = count is_strike (events.Dispatch r q) h in let d = count is_full (events.Dispatch r q) h in let e = kinds h in omega arith
kinds (events.Strike r q ∷ h) = let a = count is_enter (events.Strike r q) h in let b = count is_dispatch (events.Strike r q) h in let c = count is_strike (events.Strike r q) h in let d = count is_full (events.Strike r q) h in let e = kinds h in omega arith

-- the numbers sum up to how many events there were
pub summed : (h : List Event) (n : RecentEventsView) → AreRecentEventsOf h n → length h < 18446744073709551616
    → (((n.entered + n.dispatched) % 18446744073709551616 + n.struck) % 18446744073709551616 + n.full) % 18446744073709551616 ≡ length h
summed h n is few =
    let was = is.counted few in
    let all = kinds h in
    let a = was.entered_is in let b = was.dispatched_is in let c = was.struck_is in let d = was.full_is in omega (arith, few)

-- how many are kept
pub kept_count : (h : List Event) (n : RecentEventsView) → AreRecentEventsOf h n → length n.newest ≡ length h - (length h - n.capacity)
kept_count h n is =
    let long = length-reverse h in
    sym (length-map n.newest event_of) ∙ (ap (λ (es : List Event). length es) is.newest_are ∙ (length-drop (length (reverse h) - n.capacity) (reverse h) ∙ (omega arith)))

-- what is copied, by where it begins
module _ (h : List Event) (n : RecentEventsView) (is : AreRecentEventsOf h n) (kept first start skipped many : ℕ) (into part : List LifeEvent)
    (kept_is : kept ≡ length n.newest) (first_is : first ≡ length h - kept) (skipped_is : skipped ≡ min (start - first) kept) (many_is : many ≡ min (kept - skipped) (length into))
    (late : first ≤ start) (copied : part ≡ take many (drop skipped n.newest)) where
  first_kept : first ≡ length (reverse h) - n.capacity
  first_kept = let a = kept_count h n is in let b = length-reverse h in omega (arith, kept_is, first_is)

  left : many ≡ min (length h - start) (length into)
  left = let a = kept_count h n is in omega (arith, kept_is, first_is, skipped_is, many_is, late)

  length_part : length part ≡ many
  length_part =
      let a = length-take many (drop skipped n.newest) in let b = length-drop skipped n.newest in
      ap (λ (xs : List LifeEvent). length xs) copied ∙ (omega (arith, kept_is, many_is))

  pub copied_from : map event_of part ≡ take many (drop start (reverse h))
  copied_from = elim (cases_lt (length h) start) [
    | inl beyond ↦ (let none : many ≡ 0 = (let a = left in omega (arith, beyond)) in
        ap (map event_of) copied ∙ (ap (λ (i : ℕ). map event_of (take i (drop skipped n.newest))) none ∙ ap (λ (i : ℕ). take i (drop start (reverse h))) (sym none)))
    | inr within ↦ (let place : first + skipped ≡ start = (let a = kept_count h n is in omega (arith, kept_is, first_is, skipped_is, late, within)) in
        ap (map event_of) copied ∙ (sym (take-map event_of many (drop skipped n.newest)) ∙ ap (take many)
        (sym (drop-map event_of skipped n.newest) ∙ (ap (drop skipped) (is.newest_are ∙ ap (λ (i : ℕ). drop i (reverse h)) (sym first_kept)) ∙ (drop-drop skipped first (reverse h) ∙ ap (λ (i : ℕ). drop i (reverse h)) place)))))
  ]

  pub copies_late : (from : ℕ) (answer : Copied) → start ≡ max from first → answer.from ≡ start → answer.count ≡ many → CopiesLate n.capacity h from into answer (part ++ drop many into)
  copies_late from answer start_is from_is count_is = record {
    start = let a = first_kept in let b = length-reverse h in omega (arith, start_is, from_is, a, b);
    count_is = let a = left in omega (arith, from_is, count_is);
    copied = ap (λ (i : ℕ). map event_of (take i (part ++ drop many into))) count_is
        ∙ (ap (map event_of) (take_at part (drop many into) many length_part)
        ∙ (copied_from ∙ subst (λ (i : ℕ). take many (drop start (reverse h)) ≡ take i (drop start (reverse h))) (sym count_is) refl ∙ ap (λ (i : ℕ). take answer.count (drop i (reverse h))) (sym from_is)));
    rest = ap (λ (i : ℕ). drop i (part ++ drop many into)) count_is ∙ (drop_at part (drop many into) many length_part ∙ ap (λ (i : ℕ). drop i into) (sym count_is));
    room = let a = length-append part (drop many into) in let b = length-drop many into in let c = length_part in omega (arith, many_is);
  }
