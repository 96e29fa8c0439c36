-- The steps of a Station keep the rule.
use Rattle.std.proofs.Common.{◌≡◌, ◌≢◌, ℕ, ◌⊎◌, ◌+◌, ◌/◌, ◌<◌, ◌≤◌, Bool, true, false, List, [], ◌∷◌, length, set, Option, Some, None, sym, refl, ap, ◌∙◌, subst, inl, inr, ⊎_elim, arith}
use Rattle.std.specs.Prelude.{slice_index, bit_or, ◌==◌, MatchBool}
use mathlib.Core.Logic.{dite}
use mathlib.Core.Option.{some}
use lib.ListN.{get_elem?}
use native.Mathlib.Decide.{ℕ_discrete}
use prog.Atomic.{either}
use Rattle.atomic_table.specs.Table.{keeps, Allows}
use Rattle.apf_words.specs.Codes.{marked}
use Rattle.apf_words.specs.Level.{Level, packed, AllBelow20Bits}
use Rattle.apf_words.specs.Limits.{max_limit}
use Rattle.apf_words.specs.declared.decision.Decision.TheVariants.{Cancelled}
use Rattle.apf_model.specs.declared.moves.Move.{Move}
use Rattle.apf_model.specs.declared.moves.Move.TheVariants.{Decide, Close, SetLimit}
use Rattle.apf_model.specs.World.{World, put}
use Rattle.apf_gate.specs.declared.record.Shape.{Shape}
use Rattle.apf_gate.specs.declared.record.Actor.TheVariants.{OfStation}
use Rattle.apf_gate.specs.declared.record.Knowledge.{Knowledge}
use Rattle.apf_gate.specs.declared.record.State.TheVariants.{Fresh}
use Rattle.apf_gate.specs.declared.record.Service.{Service}
use Rattle.apf_gate.specs.declared.record.PassRecord.{PassRecord}
use Rattle.apf_gate.specs.declared.record.StationRecord.{StationRecord}
use Rattle.apf_gate.specs.declared.record.Record.{Record}
use Rattle.apf_gate.specs.declared.record.Record.TheVariants.{Station}
use Rattle.apf_gate.specs.Records.{level_of, service, saw_level, saw_decision}
use Rattle.apf_gate.specs.Traces.{entry, world_of}
use Rattle.apf_gate.specs.Requests.{IsRequest, MayHold, written}
use Rattle.apf_gate.specs.Account.{HoldsSlot, IsKnown}
use Rattle.apf_gate.specs.Rule.{IsRuled}
use Rattle.apf_gate.specs.Gauges.{IsShape, AreLaws}
use Rattle.apf_gate.specs.Steps.{IsInRange, SawLevel, ByStation, OfLevel, OfDecision, OnLevel, OnLevelIf, OnTicket, OnTicketIf, Setting, IsOver, FindsOther}
use Rattle.apf_gate.specs.StationSteps.{StationLoadsLevel, StationExchangesLevel, StationClosesLevel, StationLoadsDecision, StationExchangesDecision, StationFindsOther}
use Rattle.apf_gate.proofs.Puts.{put_here, put_else}
use Rattle.apf_gate.specs.Slots.{slot_of, mark_of}
use Rattle.apf_gate.proofs.WordNumbers.{packed_same}
use Rattle.apf_gate.proofs.Slots.{decision_same, mark_is, mark_apart, apart_from, other_fresh}
use Rattle.apf_gate.proofs.Later.{IsNext, next_load, next_move}
use Rattle.apf_gate.proofs.Requests.{IsSame, is_fresh, none_written, request_elsewhere}
use Rattle.apf_gate.proofs.Views.{Table}
use Rattle.apf_gate.proofs.Sound.{by_found, Exchanged, station_step}
use Rattle.apf_gate.proofs.Packing.{own_word, packs_same, packs_level, packs_decided, level_in_range, no_queues, is_small}
use Rattle.apf_gate.proofs.Knowing.{follows, other_found, level_known, level_told, decision_known, decision_told}

module _ (s : Shape) where
  -- what the rule says of the Station at a seat
  record IsAt (t : Table) (h : IsRuled s t) (c : StationRecord) : Type 0 where
    inside : c.number < s.stations
    known : IsKnown s (OfStation c.number) c.knows h.account.trace

  is_at : (t : Table) (h : IsRuled s t) (id : ℕ) (c : StationRecord) → get_elem? t.views id ≡ some (Station c ∷ []) → IsAt t h c
  is_at t h id c at = let f = (h.views id (Station c ∷ []) at).0.0.1 in record {
    inside = f.0;
    known = subst (λ (o : StationRecord). IsKnown s (OfStation c.number) o.knows h.account.trace) f.1 (h.sound.station_knows c.number);
  }

  module _ (shape : IsShape s) (laws : AreLaws s) where
    -- what a step on the level word tells, which said l
    tells : (t : Table) (h : IsRuled s t) (id : ℕ) (c : StationRecord) (k : IsAt t h c) (m : Option Move) (l : Level) → level_of s.widths (world_of s h.account.trace) ≡ l → IsNext s (OfStation c.number) m h.account.trace
        → SawLevel (OfStation c.number) c.knows l m (saw_level c.knows l (entry (OfStation c.number) m ∷ h.account.trace))
    tells t h id c k m l is next = level_told s (OfStation c.number) c.knows h.account.trace m k.known next l is (subst IsInRange is (level_in_range s shape laws t h)) (λ e. ap (λ (x : Level). x.waiters) (sym is) ∙ no_queues s laws t h e)

    -- a move that changes neither where a request stands nor a decision
    untouched : (t : Table) (h : IsRuled s t) (w' : World) → ((r : ℕ) → IsSame (world_of s h.account.trace) w' r) → ((world_of s h.account.trace).is_open ≡ false → w'.is_open ≡ false)
        → (r : ℕ) → r < length s.widths → IsRequest s r (h.account.pass r) (service h.account.desk r) w'
    untouched t h w' same closes r l = request_elsewhere s r (h.account.pass r) (service h.account.desk r) (world_of s h.account.trace) w' (same r) closes (h.sound.request r l)

    -- a load of the level word
    pub station_loads_level : (id slots : ℕ) (c : StationRecord) → Allows (IsRuled s) slots id (Station c ∷ [], []) 0 (λ n. n) (ByStation (OnLevel StationLoadsLevel) (Station c ∷ [], []))
    station_loads_level id slots c t h deep at small =
        let w = world_of s h.account.trace in
        let k = is_at t h id c at in
        let l : Level = level_of s.widths w in
        let next = next_load s (OfStation c.number) h.account.trace h.sound.schedule in
        let u : Knowledge = saw_level c.knows l (entry (OfStation c.number) None ∷ h.account.trace) in
        let c' : StationRecord = record c { knows = u } in (
          Station c' ∷ [],
          keeps,
          tt,
          station_step s t h id 0 (slice_index t.words 0) None c c' at next (λ j l no. record { stage = refl; decision = refl; saw = refl }) h.sound.request (packs_same s h.account.current t.words w w 0 refl (λ _. refl) h.packs) refl
              (level_known s (OfStation c.number) (OfStation c.number) c.knows h.account.trace None k.known next l refl),
          (refl, (c', refl, (l, h.packs.level, (u, tells t h id c k None l refl next, refl)))),
        )

    -- the level is closed
    pub station_closes_level : (id slots : ℕ) (c : StationRecord) (bits : ℕ) → ((l : Level) → AllBelow20Bits l.waiters l.seats l.limit → bit_or (packed l) bits ≡ packed (record l { closed = true }))
        → Allows (IsRuled s) slots id (Station c ∷ [], []) 0 (λ n. bit_or n bits) (ByStation (OnLevel StationClosesLevel) (Station c ∷ [], []))
    station_closes_level id slots c bits closes t h deep at small =
        let w = world_of s h.account.trace in
        let k = is_at t h id c at in
        let l : Level = level_of s.widths w in
        let m : Option Move = Some Close in
        let next = next_move s (OfStation c.number) Close h.account.trace h.sound.schedule tt tt in
        let w' = world_of s (entry (OfStation c.number) m ∷ h.account.trace) in
        let u : Knowledge = saw_level c.knows l (entry (OfStation c.number) m ∷ h.account.trace) in
        let known = level_known s (OfStation c.number) (OfStation c.number) c.knows h.account.trace m k.known next l refl in
        let c' : StationRecord = record c { knows = record u { saw_closed = true } } in
        let new : ℕ = bit_or (slice_index t.words 0) bits in
        let level : new ≡ packed (level_of s.widths w') = ap (λ x. bit_or x bits) h.packs.level ∙ closes l (is_small l (level_in_range s shape laws t h)) in (
          Station c' ∷ [],
          keeps,
          tt,
          station_step s t h id 0 new m c c' at next (λ j l no. record { stage = refl; decision = refl; saw = refl }) (untouched t h w' (λ r. record { stage = refl; decision = refl; saw = refl }) (λ _. refl)) (packs_level s h.account.current t.words w w' new level (λ _. refl) h.packs) refl
              (record { shape_is = known.shape_is; closed = λ _. refl; told = known.told; newer = known.newer }),
          (refl, (c', refl, (l, h.packs.level, (u, tells t h id c k m l refl next, refl)))),
        )

    -- what the exchange tells, by whether it was made
    abbrev SetsOr : StationRecord → ℕ → ℕ → Bool → List Record → Type 0
    SetsOr c new n made v = (c' : StationRecord) × (v ≡ Station c' ∷ []) × ((j : Level) → new ≡ packed j → IsInRange j → OfLevel (λ k. MatchBool made (StationExchangesLevel j.limit c k c') (StationLoadsLevel c k c')) n)

    -- an exchange that sets the limit
    pub station_exchanges_level : (id slots : ℕ) (c : StationRecord) (expected new limit : ℕ) (l : Level) → expected ≡ packed l → IsInRange l → 1 ≤ limit → limit ≤ max_limit → new ≡ packed (record l { limit = limit })
        → Allows (IsRuled s) slots id (Station c ∷ [], []) 0 (λ n. either (n == expected) new n) (ByStation (Setting new (λ n. OnLevelIf expected (StationExchangesLevel n) StationLoadsLevel)) (Station c ∷ [], []))
    station_exchanges_level id slots c expected new limit l said in_range some_limit small_limit is_new t h deep at small = by_found (Exchanged s t 0 new id (SetsOr c new (slice_index t.words 0))) (slice_index t.words 0) expected hit miss
      where
        n : ℕ
        n = slice_index t.words 0

        w : World
        w = world_of s h.account.trace

        in_range_now : IsInRange (record l { limit = limit })
        in_range_now = record { waiters = in_range.waiters; seats = in_range.seats; some_limit = some_limit; limit = small_limit }

        miss : n ≢ expected → Exchanged s t 0 new id (SetsOr c new n) false
        miss ne = let x = station_loads_level id slots c t h deep at small in (x.0, x.1, x.2, x.3, (x.4.0, (x.4.1.0, x.4.1.1, λ j is range. x.4.1.2)))

        hit : n ≡ expected → Exchanged s t 0 new id (SetsOr c new n) true
        hit e =
            let k = is_at t h id c at in
            let now : level_of s.widths w ≡ l = packed_same _ _ (is_small _ (level_in_range s shape laws t h)) (is_small l in_range) (sym h.packs.level ∙ (e ∙ said)) in
            let m : Option Move = Some (SetLimit limit) in
            let next = next_move s (OfStation c.number) (SetLimit limit) h.account.trace h.sound.schedule tt (some_limit, small_limit) in
            let w' = world_of s (entry (OfStation c.number) m ∷ h.account.trace) in
            let u : Knowledge = saw_level c.knows l (entry (OfStation c.number) m ∷ h.account.trace) in
            let c' : StationRecord = record c { knows = u } in
            let level : new ≡ packed (level_of s.widths w') = is_new ∙ (λ i. packed (record { closed = (sym now i).closed; waiters = (sym now i).waiters; seats = (sym now i).seats; limit = limit })) in (
              Station c' ∷ [],
              keeps,
              tt,
              station_step s t h id 0 new m c c' at next (λ j l no. record { stage = refl; decision = refl; saw = refl }) (untouched t h w' (λ r. record { stage = refl; decision = refl; saw = refl }) (λ x. x)) (packs_level s h.account.current t.words w w' new level (λ _. refl) h.packs) refl
                  (level_known s (OfStation c.number) (OfStation c.number) c.knows h.account.trace m k.known next l now),
              (
                refl,
                (
                  c',
                  refl,
                  λ j is range. (
                    l,
                    e ∙ said,
                    subst (λ x. StationExchangesLevel x c l c') (ap (λ (x : Level). x.limit) (packed_same (record l { limit = limit }) j (is_small _ in_range_now) (is_small j range) (sym is_new ∙ is)))
                        (u, tells t h id c k m l now next, refl),
                  ),
                ),
              ),
            )

  -- a load of the word of the slot of r, after which the Station knows u
  loads : (t : Table) (h : IsRuled s t) (id r : ℕ) (c : StationRecord) (u : Knowledge) → get_elem? t.views id ≡ some (Station c ∷ []) → IsKnown s (OfStation c.number) u (entry (OfStation c.number) None ∷ h.account.trace)
      → IsRuled s record { words = set t.words (slot_of r + 1) (slice_index t.words (slot_of r + 1)); homes = t.homes; views = set t.views id (Station (record c { knows = u }) ∷ []) }
  loads t h id r c u at known =
      let w = world_of s h.account.trace in
      station_step s t h id (slot_of r + 1) (slice_index t.words (slot_of r + 1)) None c (record c { knows = u }) at (next_load s (OfStation c.number) h.account.trace h.sound.schedule)
      (λ j l no. record { stage = refl; decision = refl; saw = refl }) h.sound.request (packs_same s h.account.current t.words w w (slot_of r + 1) refl (λ _. refl) h.packs) refl known

  -- what it knows where another request holds the slot, and what that tells
  other_known : (t : Table) (h : IsRuled s t) (c : StationRecord) → IsAt t h c → IsKnown s (OfStation c.number) (record c.knows { trace = entry (OfStation c.number) None ∷ h.account.trace }) (entry (OfStation c.number) None ∷ h.account.trace)
  other_known t h c k = follows s (OfStation c.number) (OfStation c.number) c.knows h.account.trace None k.known (next_load s (OfStation c.number) h.account.trace h.sound.schedule)

  -- who does not hold its slot is over
  other_over : (t : Table) (h : IsRuled s t) (r : ℕ) → r < length s.widths → ¬ HoldsSlot h.account r → IsOver (world_of s h.account.trace) r
  other_over t h r inside not = ⊎_elim
      (λ (e : (world_of s h.account.trace).decision r ≢ None). inl e)
      (λ (e : (h.account.pass r).state ≡ Fresh). inr (is_fresh s r (h.account.pass r) (service h.account.desk r) (world_of s h.account.trace) (h.sound.request r inside) e).away)
      (other_fresh s h.account h.slots r inside not)

  other_told : (t : Table) (h : IsRuled s t) (c : StationRecord) → IsAt t h c → (r : ℕ) → r < length s.widths → ¬ HoldsSlot h.account r → length s.widths ≢ s.slots → FindsOther (OfStation c.number) c.knows r (record c.knows { trace = entry (OfStation c.number) None ∷ h.account.trace })
  other_told t h c k r inside not no_batch = other_found s (OfStation c.number) c.knows h.account.trace None k.known (next_load s (OfStation c.number) h.account.trace h.sound.schedule) refl r (h.slots.idle r inside not) (other_over t h r inside not) no_batch

  -- where another request holds the slot of r, its word has another mark
  other_mark : (t : Table) (h : IsRuled s t) (r : ℕ) → slot_of r < s.slots → ¬ HoldsSlot h.account r → slice_index t.words (slot_of r + 1) / 8 ≢ mark_of r
  other_mark t h r inside not e =
      let c = h.account.current (slot_of r) in
      let same = (h.slots.current (slot_of r) inside).1 in
      mark_apart r c same not (sym (ap (λ n. n / 8) (h.packs.decisions (slot_of r) inside) ∙ mark_is (mark_of c) ((world_of s h.account.trace).decision c)) ∙ e)

  -- in a batch each request holds its slot
  all_hold : (t : Table) (h : IsRuled s t) → IsShape s → (r : ℕ) → r < length s.widths → slot_of r < s.slots → ¬ HoldsSlot h.account r → length s.widths ≢ s.slots
  all_hold t h shape r inside in_slot not batch =
      let few = shape.few_slots in
      let own = h.slots.current (slot_of r) in_slot in
      let below = own.0 in
      let same = own.1 in not (omega arith)

  -- a load of the word of the slot of r
  pub station_loads_decision : (id slots : ℕ) (c : StationRecord) (r : ℕ) → IsShape s → r < length s.widths → slot_of r < s.slots → Allows (IsRuled s) slots id (Station c ∷ [], []) (slot_of r + 1) (λ n. n) (ByStation (OnTicket r (StationLoadsDecision r) (StationFindsOther r)) (Station c ∷ [], []))
  station_loads_decision id slots c r shape inside in_slot t h deep at small =
      let w = world_of s h.account.trace in
      let k = is_at t h id c at in
      let next = next_load s (OfStation c.number) h.account.trace h.sound.schedule in dite (ℕ_discrete (h.account.current (slot_of r)) r)
      (λ holds.
      let x = w.decision r in
      let u : Knowledge = saw_decision c.knows r x (entry (OfStation c.number) None ∷ h.account.trace) in
      let c' : StationRecord = record c { knows = u } in (
        Station c' ∷ [],
        keeps,
        tt,
        loads t h id r c u at (decision_known s (OfStation c.number) (OfStation c.number) c.knows h.account.trace None k.known next r x (λ _. refl)),
        (refl, (c', refl, inl (x, own_word s t h r inside holds, (u, decision_told s (OfStation c.number) c.knows h.account.trace None k.known next r x x refl (λ _. refl), refl)))),
      ))
      (λ not.
      let u : Knowledge = record c.knows { trace = entry (OfStation c.number) None ∷ h.account.trace } in
      let c' : StationRecord = record c { knows = u } in (
        Station c' ∷ [],
        keeps,
        tt,
        loads t h id r c u at (other_known t h c k),
        (refl, (c', refl, inr (other_mark t h r in_slot not, (u, other_told t h c k r inside not (all_hold t h shape r inside in_slot not), refl)))),
      ))

  -- the lines on a request that is cancelled now
  request_cancelled : (r : ℕ) (p : PassRecord) (a : Service) (w : World) → w.decision r ≡ None → IsRequest s r p a w → IsRequest s r p a (record w { decision = put w.decision r (Some Cancelled) })
  request_cancelled r p a w none k = record {
    own = k.own;
    tied = k.tied;
    stage = k.stage;
    saw = k.saw;
    word = subst (λ x. MayHold x (put w.decision r (Some Cancelled) r)) (sym (none_written (written p a) (w.decision r) k.word none)) (inr (put_here w.decision r (Some Cancelled)));
    closed = k.closed;
  }

  -- what the exchange tells, by whether it was made
  abbrev CancelsOr : StationRecord → ℕ → ℕ → Bool → List Record → Type 0
  CancelsOr c r n made v = (c' : StationRecord) × (v ≡ Station c' ∷ []) × (OfDecision (mark_of r) (λ found. MatchBool made (StationExchangesDecision r c c') (StationLoadsDecision r c found c')) n ⊎ ((n / 8 ≢ mark_of r) × StationFindsOther r c c'))

  -- cancelled is written where r holds its slot and nothing was written
  pub station_exchanges_decision : (id slots : ℕ) (c : StationRecord) (r : ℕ) → IsShape s → r < length s.widths → slot_of r < s.slots
      → Allows (IsRuled s) slots id (Station c ∷ [], []) (slot_of r + 1) (λ n. either (n == marked (mark_of r) None) (marked (mark_of r) (Some Cancelled)) n)
      (ByStation (OnTicketIf r (StationExchangesDecision r) (StationLoadsDecision r) (StationFindsOther r)) (Station c ∷ [], []))
  station_exchanges_decision id slots c r shape inside in_slot t h deep at small = by_found (Exchanged s t (slot_of r + 1) (marked (mark_of r) (Some Cancelled)) id (CancelsOr c r (slice_index t.words (slot_of r + 1)))) (slice_index t.words (slot_of r + 1)) (marked (mark_of r) None) hit miss
    where
      n : ℕ
      n = slice_index t.words (slot_of r + 1)

      w : World
      w = world_of s h.account.trace

      miss : n ≢ marked (mark_of r) None → Exchanged s t (slot_of r + 1) (marked (mark_of r) (Some Cancelled)) id (CancelsOr c r n) false
      miss ne = station_loads_decision id slots c r shape inside in_slot t h deep at small

      -- the mark is that of r alone
      holds_it : n ≡ marked (mark_of r) None → HoldsSlot h.account r
      holds_it e = dite (ℕ_discrete (h.account.current (slot_of r)) r) (λ y. y) (λ not. absurd (other_mark t h r in_slot not (ap (λ x. x / 8) e ∙ mark_is (mark_of r) None)))

      hit : n ≡ marked (mark_of r) None → Exchanged s t (slot_of r + 1) (marked (mark_of r) (Some Cancelled)) id (CancelsOr c r n) true
      hit e =
          let g = h.account in
          let k = is_at t h id c at in
          let holds = holds_it e in
          let none : w.decision r ≡ None = decision_same (mark_of r) (w.decision r) None (sym (own_word s t h r inside holds) ∙ e) in
          let m : Option Move = Some (Decide r Cancelled) in
          let next = next_move s (OfStation c.number) (Decide r Cancelled) h.account.trace h.sound.schedule (record { is_request = inside; is_undecided = none; may_be = tt }) refl in
          let w' = world_of s (entry (OfStation c.number) m ∷ h.account.trace) in
          let u : Knowledge = saw_decision c.knows r (Some Cancelled) (entry (OfStation c.number) m ∷ h.account.trace) in
          let c' : StationRecord = record c { knows = u } in (
            Station c' ∷ [],
            keeps,
            tt,
            station_step s t h id (slot_of r + 1) (marked (mark_of r) (Some Cancelled)) m c c' at next
                (λ j l no. record { stage = refl; decision = put_else w.decision r (Some Cancelled) j (apart_from g r j holds no); saw = refl })
                (λ j l. dite (ℕ_discrete j r)
                (λ y. subst (λ z. IsRequest s z (g.pass z) (service g.desk z) w') (sym y) (request_cancelled r (g.pass r) (service g.desk r) w none (h.sound.request r inside)))
                (λ ne. request_elsewhere s j (g.pass j) (service g.desk j) w w' (record { stage = refl; decision = put_else w.decision r (Some Cancelled) j ne; saw = refl }) (λ x. x) (h.sound.request j l)))
                (packs_decided s g t.words w r Cancelled h.slots holds in_slot h.packs) refl
                (decision_known s (OfStation c.number) (OfStation c.number) c.knows h.account.trace m k.known next r (Some Cancelled) (λ _. put_here w.decision r (Some Cancelled))),
            (refl, (c', refl, inl (None, e, (u, decision_told s (OfStation c.number) c.knows h.account.trace m k.known next r None (Some Cancelled) none (λ _. put_here w.decision r (Some Cancelled)), refl)))),
          )
