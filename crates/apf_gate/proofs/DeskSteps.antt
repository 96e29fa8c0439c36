-- The steps of the Desk keep the rule.
use Rattle.std.proofs.Common.{◌≡◌, ◌≢◌, ◌⊎◌, ℕ, ◌+◌, ◌-◌, ◌%◌, ◌^◌, ◌<◌, ◌≤◌, Bool, true, false, List, [], ◌∷◌, length, set, Option, Some, None, sym, refl, ap, ◌∙◌, subst, ⊎_elim, arith}
use Rattle.std.specs.Prelude.{slice_index, ◌==◌, MatchBool}
use mathlib.Core.Option.{some}
use lib.ListN.{get_elem?}
use prog.Atomic.{either}
use Rattle.atomic_table.specs.Table.{keeps, Allows}
use Rattle.apf_words.specs.Codes.{marked}
use Rattle.apf_words.specs.Fits.{Fits}
use Rattle.apf_words.specs.Level.{Level, packed, AllBelow20Bits}
use Rattle.apf_words.specs.declared.decision.Decision.TheVariants.{Execute, Cancelled}
use Rattle.apf_model.specs.declared.moves.Move.{Move}
use Rattle.apf_model.specs.declared.moves.Move.TheVariants.{Grant, Leave, Decide, Release}
use Rattle.apf_model.specs.declared.moves.Stage.{Stage}
use Rattle.apf_model.specs.declared.moves.Stage.TheVariants.{Away, Waits, Stands, Gone}
use Rattle.apf_model.specs.World.{World, put, width, seats, waiters}
use Rattle.apf_gate.specs.declared.record.Shape.{Shape}
use Rattle.apf_gate.specs.declared.record.State.{State}
use Rattle.apf_gate.specs.declared.record.State.TheVariants.{Fresh, Took, InLine, Over}
use Rattle.apf_gate.specs.declared.record.Actor.TheVariants.{OfDesk}
use Rattle.apf_gate.specs.declared.record.Knowledge.{Knowledge}
use Rattle.apf_gate.specs.declared.record.Service.{Service}
use Rattle.apf_gate.specs.declared.record.Service.TheVariants.{Waiting, Held, Settled, Left}
use Rattle.apf_gate.specs.declared.record.PassRecord.{PassRecord}
use Rattle.apf_gate.specs.declared.record.DeskRecord.{DeskRecord}
use Rattle.apf_gate.specs.declared.record.Record.{Record}
use Rattle.apf_gate.specs.declared.record.Record.TheVariants.{Desk}
use Rattle.apf_gate.specs.Records.{level_of, told_of, told_own, service_of, service, saw_level, saw_decision}
use Rattle.apf_gate.specs.Traces.{entry, world_of}
use Rattle.apf_gate.specs.Requests.{IsRequest, stage_of, stage_of_settled, was_handed, has_entered, written}
use Rattle.apf_gate.specs.Account.{HoldsSlot, IsKnown}
use Rattle.apf_gate.specs.Rule.{Packs, IsRuled}
use Rattle.apf_gate.specs.Gauges.{IsShape, AreLaws}
use Rattle.apf_gate.specs.Steps.{IsInRange, SawLevel, ByDesk, OfLevel, OfDecision, OnLevel, OnLevelIf, OnDecision, OnDecisionIf}
use Rattle.apf_gate.specs.DeskSteps.{served, DeskMayFind, DeskLoadsLevel, DeskExchangesLevel, DeskSubtractsSeats, DeskSubtractsWaiter, DeskLoadsDecision, DeskExchangesDecision, DeskMissesDecision}
use Rattle.apf_gate.proofs.Puts.{put_here, put_else}
use Rattle.apf_gate.specs.Slots.{slot_of, mark_of}
use Rattle.apf_gate.proofs.WordNumbers.{packed_same}
use Rattle.apf_gate.proofs.Slots.{decision_same, apart_from, busy_holds}
use Rattle.apf_gate.proofs.Later.{IsNext, next_load, next_move}
use Rattle.apf_gate.proofs.Requests.{IsSame, is_handed, desk_may_find, request_served}
use Rattle.apf_gate.proofs.Views.{Table}
use Rattle.apf_gate.proofs.Sound.{by_found, Exchanged, left, desk_step}
use Rattle.apf_gate.proofs.Packing.{own_word, batch_holds, packs_same, packs_level, packs_decided, level_in_range, no_queues, is_small}
use Rattle.apf_gate.proofs.Knowing.{level_known, level_told, decision_known, decision_told}
use Rattle.apf_gate.proofs.DeskLines.{HoldsOne, holds_still, holds_now, holds_none, IsAt, is_at, requests_but, counts_waiting}

module _ (s : Shape) where
  -- a load of the word of r: the rule afterwards, and what the step tells
  reads : (t : Table) (h : IsRuled s t) (id r : ℕ) (d : DeskRecord) → r < length s.widths → get_elem? t.views id ≡ some (Desk d ∷ []) → (d' : DeskRecord) × IsRuled s (left t (slot_of r + 1) (slice_index t.words (slot_of r + 1)) id (Desk d' ∷ [])) × DeskLoadsDecision r d ((world_of s h.account.trace).decision r) d'
  reads t h id r d inside at =
      let w = world_of s h.account.trace in
      let k = is_at s t h id d at in
      let x = w.decision r in
      let next = next_load s OfDesk h.account.trace h.sound.schedule in
      let u : Knowledge = saw_decision d.knows r x (entry OfDesk None ∷ h.account.trace) in
      let d' : DeskRecord = record d { knows = u } in (
        d',
        desk_step s t h id (slot_of r + 1) (slice_index t.words (slot_of r + 1)) None d d' at next (λ j l no. record { stage = refl; decision = refl; saw = refl }) k.request (packs_same s h.account.current t.words w w (slot_of r + 1) refl (λ _. refl) h.packs)
            (decision_known s OfDesk OfDesk d.knows h.account.trace None k.known next r x (λ _. refl)) k.holds.held_is k.holds.is_held,
        (u, decision_told s OfDesk d.knows h.account.trace None k.known next r x x refl (λ _. refl), desk_may_find s r (h.account.pass r) (service d r) w (k.request r inside), refl),
      )

  -- a request that the Desk has waiting or holds has its slot
  busy_is : (t : Table) (h : IsRuled s t) (d : DeskRecord) → IsAt s t h d → (r : ℕ) (a : Service) (b : Stage) → r < length s.widths → service d r ≡ a → stage_of (h.account.pass r) a ≡ b → b ≢ Away → b ≢ Gone → HoldsSlot h.account r
  busy_is t h d k r a b l is stage away gone = busy_holds s h.account h.slots r b l ((k.request r l).stage ∙ (ap (stage_of (h.account.pass r)) is ∙ stage)) away gone

  pub desk_loads_decision : (id slots : ℕ) (d : DeskRecord) (r : ℕ) → IsShape s → r < length s.widths → (service d r ≡ Waiting) ⊎ (length s.widths ≡ s.slots) → Allows (IsRuled s) slots id (Desk d ∷ [], []) (slot_of r + 1) (λ n. n) (ByDesk (OnDecision (λ _. mark_of r) (DeskLoadsDecision r)) (Desk d ∷ [], []))
  desk_loads_decision id slots d r shape inside has_slot t h deep at small =
      let x = reads t h id r d inside at in
      let holds = ⊎_elim (λ (waits : service d r ≡ Waiting). busy_is t h d (is_at s t h id d at) r Waiting Waits inside waits refl (λ e. cc) (λ e. cc)) (λ (batch : length s.widths ≡ s.slots). batch_holds s shape t h batch r inside) has_slot in
      (Desk x.0 ∷ [], keeps, tt, x.1, (refl, (x.0, refl, ((world_of s h.account.trace).decision r, own_word s t h r inside holds, x.2))))

  -- a Pass that asked stands until it is over
  settled_stands : (f : State) → (f ≡ Over → ⊥) → stage_of_settled f ≡ Stands
  settled_stands Fresh not_over = refl
  settled_stands Took not_over = refl
  settled_stands InLine not_over = refl
  settled_stands Over not_over = absurd (not_over refl)

  -- the Pass of a request that is undecided was told nothing
  nothing_told : (t : Table) (h : IsRuled s t) (r : ℕ) → r < length s.widths → (world_of s h.account.trace).decision r ≡ None → told_own (h.account.pass r) ≡ Some Execute → ⊥
  nothing_told t h r inside none e =
      let p = h.account.pass r in
      let y : told_of p.knows.told r ≡ Some Execute = subst (λ j. told_of p.knows.told j ≡ Some Execute) (h.sound.request r inside).tied.number e in
      let z = (h.sound.pass_knows r inside).told r (λ q. let v = sym y ∙ q in cc) in
      let v = sym none ∙ (z ∙ y) in cc

  -- what the exchange tells, by whether it was made
  abbrev SettlesOr : DeskRecord → ℕ → ℕ → Bool → List Record → Type 0
  SettlesOr d r n made v = (d' : DeskRecord) × (v ≡ Desk d' ∷ []) × OfDecision (mark_of r) (λ found. MatchBool made (DeskExchangesDecision r d d') (DeskMissesDecision r d found d')) n

  -- execute is written of the request that is held, where nothing was
  pub desk_exchanges_decision : (id slots : ℕ) (d : DeskRecord) (r : ℕ) → r < length s.widths → d.held ≡ Some r
      → Allows (IsRuled s) slots id (Desk d ∷ [], []) (slot_of r + 1) (λ n. either (n == marked (mark_of r) None) (marked (mark_of r) (Some Execute)) n) (ByDesk (OnDecisionIf (λ _. mark_of r) (DeskExchangesDecision r) (DeskMissesDecision r)) (Desk d ∷ [], []))
  desk_exchanges_decision id slots d r inside held t h deep at small = by_found (Exchanged s t (slot_of r + 1) (marked (mark_of r) (Some Execute)) id (SettlesOr d r (slice_index t.words (slot_of r + 1)))) (slice_index t.words (slot_of r + 1)) (marked (mark_of r) None) hit miss
    where
      n : ℕ
      n = slice_index t.words (slot_of r + 1)

      w : World
      w = world_of s h.account.trace

      k : IsAt s t h d
      k = is_at s t h id d at

      is : service d r ≡ Held
      is = k.holds.held_is r held

      in_place : HoldsSlot h.account r
      in_place = busy_is t h d k r Held Stands inside is refl (λ e. cc) (λ e. cc)

      word : n ≡ marked (mark_of r) (w.decision r)
      word = own_word s t h r inside in_place

      -- another decision of a request that is held is cancelled
      miss : n ≢ marked (mark_of r) None → Exchanged s t (slot_of r + 1) (marked (mark_of r) (Some Execute)) id (SettlesOr d r n) false
      miss ne =
          let finds = subst (λ a. DeskMayFind a (w.decision r)) is (desk_may_find s r (h.account.pass r) (service d r) w (k.request r inside)) in
          let cancelled : w.decision r ≡ Some Cancelled = ⊎_elim (λ (e : w.decision r ≡ None). absurd (ne (word ∙ ap (marked (mark_of r)) e))) (λ (e : w.decision r ≡ Some Cancelled). e) finds in
          let x = reads t h id r d inside at in
          (Desk x.0 ∷ [], keeps, tt, x.1, (refl, (x.0, refl, (w.decision r, word, (cancelled, x.2)))))

      hit : n ≡ marked (mark_of r) None → Exchanged s t (slot_of r + 1) (marked (mark_of r) (Some Execute)) id (SettlesOr d r n) true
      hit e =
          let p : PassRecord = h.account.pass r in
          let line = k.request r inside in
          let none : w.decision r ≡ None = decision_same (mark_of r) (w.decision r) None (sym word ∙ e) in
          let stage : w.stage r ≡ Stands = line.stage ∙ ap (stage_of p) is in
          let m : Option Move = Some (Decide r Execute) in
          let next = next_move s OfDesk (Decide r Execute) h.account.trace h.sound.schedule (record { is_request = inside; is_undecided = none; may_be = stage }) (λ x. cc) in
          let w' = world_of s (entry OfDesk m ∷ h.account.trace) in
          let here : put w.decision r (Some Execute) r ≡ Some Execute = put_here w.decision r (Some Execute) in
          let u : Knowledge = saw_decision d.knows r (Some Execute) (entry OfDesk m ∷ h.account.trace) in
          let d' : DeskRecord = record d { services = (r, Settled) ∷ d.services; held = None; knows = u } in
          let holds = holds_none d.services r Settled (λ x. cc) (subst (HoldsOne d.services) held k.holds) in
          let over = (is_handed s r p (service d r) w line (ap was_handed is)).over in (
            Desk d' ∷ [],
            keeps,
            tt,
            desk_step s t h id (slot_of r + 1) (marked (mark_of r) (Some Execute)) m d d' at next
                (λ j l no. record { stage = refl; decision = put_else w.decision r (Some Execute) j (apart_from h.account r j in_place no); saw = refl })
                (requests_but s h.account.pass d.services w w' r Settled (λ j ne. record { stage = refl; decision = put_else w.decision r (Some Execute) j ne; saw = refl }) (λ x. x) k.request
                (record {
                  own = line.own;
                  tied = record { number = line.tied.number; handed = line.tied.handed ∙ ap was_handed is; entered = line.tied.entered ∙ ap has_entered is; left = λ x. absurd (let z = sym is ∙ line.tied.left x in cc) };
                  stage = stage ∙ sym (settled_stands p.state (λ o. nothing_told t h r inside none (over o)));
                  saw = line.saw;
                  word = here;
                  closed = λ x. absurd (cc);
                }))
                (packs_decided s h.account t.words w r Execute h.slots in_place (h.slots.inside r inside in_place) h.packs)
                (decision_known s OfDesk OfDesk d.knows h.account.trace m k.known next r (Some Execute) (λ _. here))
                holds.held_is holds.is_held,
            (refl, (d', refl, (None, e, (u, decision_told s OfDesk d.knows h.account.trace m k.known next r None (Some Execute) none (λ _. here), refl)))),
          )

  module _ (shape : IsShape s) (laws : AreLaws s) where
    -- what a step on the level word tells, which said l
    tells : (t : Table) (h : IsRuled s t) (d : DeskRecord) → IsAt s t h d → (m : Option Move) (l : Level) → level_of s.widths (world_of s h.account.trace) ≡ l → IsNext s OfDesk m h.account.trace → SawLevel OfDesk d.knows l m (saw_level d.knows l (entry OfDesk m ∷ h.account.trace))
    tells t h d k m l is next = level_told s OfDesk d.knows h.account.trace m k.known next l is (subst IsInRange is (level_in_range s shape laws t h)) (λ e. ap (λ (x : Level). x.waiters) (sym is) ∙ no_queues s laws t h e)

    -- a load of the level word
    pub desk_loads_level : (id slots : ℕ) (d : DeskRecord) → Allows (IsRuled s) slots id (Desk d ∷ [], []) 0 (λ n. n) (ByDesk (OnLevel DeskLoadsLevel) (Desk d ∷ [], []))
    desk_loads_level id slots d t h deep at small =
        let w = world_of s h.account.trace in
        let k = is_at s t h id d at in
        let l : Level = level_of s.widths w in
        let next = next_load s OfDesk h.account.trace h.sound.schedule in
        let u : Knowledge = saw_level d.knows l (entry OfDesk None ∷ h.account.trace) in
        let d' : DeskRecord = record d { knows = u } in (
          Desk d' ∷ [],
          keeps,
          tt,
          desk_step s t h id 0 (slice_index t.words 0) None d d' at next (λ j l no. record { stage = refl; decision = refl; saw = refl }) k.request (packs_same s h.account.current t.words w w 0 refl (λ _. refl) h.packs)
              (level_known s OfDesk OfDesk d.knows h.account.trace None k.known next l refl) k.holds.held_is k.holds.is_held,
          (refl, (d', refl, (l, h.packs.level, (u, tells t h d k None l refl next, counts_waiting s laws t h d k, refl)))),
        )

    -- a move of r that takes it from one stage to another, as the Desk did this with it
    moves_one : (t : Table) (h : IsRuled s t) (id new : ℕ) (d d' : DeskRecord) (r : ℕ) (a b : Service) (to : Stage) (m : Move) (at : get_elem? t.views id ≡ some (Desk d ∷ [])) (l : Level) → level_of s.widths (world_of s h.account.trace) ≡ l
        → r < length s.widths → HoldsSlot h.account r → service d r ≡ a → was_handed b ≡ was_handed a → has_entered b ≡ has_entered a → written (h.account.pass r) b ≡ written (h.account.pass r) a → (a ≡ Left → b ≡ Left) → stage_of (h.account.pass r) b ≡ to
        → IsNext s OfDesk (Some m) h.account.trace
        → world_of s (entry OfDesk (Some m) ∷ h.account.trace) ≡ record (world_of s h.account.trace) { stage = put (world_of s h.account.trace).stage r to }
        → new ≡ packed (level_of s.widths (record (world_of s h.account.trace) { stage = put (world_of s h.account.trace).stage r to }))
        → d'.services ≡ (r, b) ∷ d.services → d'.knows ≡ saw_level d.knows l (entry OfDesk (Some m) ∷ h.account.trace) → HoldsOne d'.services d'.held
        → IsRuled s (left t 0 new id (Desk d' ∷ []))
    moves_one t h id new d d' r a b to m at l is inside in_place was handed entered wrote still stage next moved level services knows holds =
        let w = world_of s h.account.trace in
        let w' : World = record w { stage = put w.stage r to } in
        let k = is_at s t h id d at in
        let line = subst (λ x. IsRequest s r (h.account.pass r) x w) was (k.request r inside) in
        desk_step s t h id 0 new (Some m) d d' at next
        (λ j l no. subst (λ x. IsSame w x j) (sym moved) (record { stage = put_else w.stage r to j (apart_from h.account r j in_place no); decision = refl; saw = refl }))
        (subst (λ (x : World × Rattle.apf_gate.proofs.DeskLines.Services). (j : ℕ) → j < length s.widths → IsRequest s j (h.account.pass j) (service_of x.1 j) x.0) (λ i. (sym moved i, sym services i))
        (requests_but s h.account.pass d.services w w' r b (λ j ne. record { stage = put_else w.stage r to j ne; decision = refl; saw = refl }) (λ x. x) k.request
        (request_served s r (h.account.pass r) a b w w' handed entered wrote still (put_here w.stage r to ∙ sym stage) refl refl (λ x. x) line)))
        (subst (λ x. Packs s h.account.current (set t.words 0 new) x) (sym moved) (packs_level s h.account.current t.words w w' new level (λ _. refl) h.packs))
        (subst (λ x. IsKnown s OfDesk x (entry OfDesk (Some m) ∷ h.account.trace)) (sym knows) (level_known s OfDesk OfDesk d.knows h.account.trace (Some m) k.known next l is))
        holds.held_is holds.is_held

    -- what the exchange tells, by whether it was made
    abbrev GrantsOr : DeskRecord → ℕ → ℕ → Bool → List Record → Type 0
    GrantsOr d r n made v = (d' : DeskRecord) × (v ≡ Desk d' ∷ []) × OfLevel (λ l. MatchBool made (DeskExchangesLevel r d l d') (DeskLoadsLevel d l d')) n

    -- an exchange of a word that shows room for a request that waits
    pub desk_exchanges_level : (id slots : ℕ) (d : DeskRecord) (r expected new : ℕ) (l : Level) → r < length s.widths → service d r ≡ Waiting → d.held ≡ None → expected ≡ packed l → IsInRange l → 1 ≤ l.waiters → Fits l.seats l.limit (width s.widths r)
        → new ≡ packed (record l { waiters = l.waiters - 1; seats = l.seats + width s.widths r })
        → Allows (IsRuled s) slots id (Desk d ∷ [], []) 0 (λ n. either (n == expected) new n) (ByDesk (OnLevelIf expected (DeskExchangesLevel r) DeskLoadsLevel) (Desk d ∷ [], []))
    desk_exchanges_level id slots d r expected new l inside waits free said in_range some_wait room is_new t h deep at small = by_found (Exchanged s t 0 new id (GrantsOr d r (slice_index t.words 0))) (slice_index t.words 0) expected hit miss
      where
        n : ℕ
        n = slice_index t.words 0

        miss : n ≢ expected → Exchanged s t 0 new id (GrantsOr d r n) false
        miss ne = desk_loads_level id slots d t h deep at small

        hit : n ≡ expected → Exchanged s t 0 new id (GrantsOr d r n) true
        hit e =
            let w = world_of s h.account.trace in
            let k = is_at s t h id d at in
            let p : PassRecord = h.account.pass r in
            let now : level_of s.widths w ≡ l = packed_same _ _ (is_small _ (level_in_range s shape laws t h)) (is_small l in_range) (sym h.packs.level ∙ (e ∙ said)) in
            let stage : w.stage r ≡ Waits = (k.request r inside).stage ∙ ap (stage_of p) waits in
            let fits = subst (λ (y : Level). Fits y.seats y.limit (width s.widths r)) (sym now) room in
            let next = next_move s OfDesk (Grant r) h.account.trace h.sound.schedule (record { is_request = inside; is_waiting = stage; fits = fits }) tt in
            let w' : World = record w { stage = put w.stage r Stands } in
            let sums = laws.sums w r Waits Stands inside stage in
            let more : seats s.widths w' ≡ seats s.widths w + width s.widths r = (let x = sums.0 in omega arith) in
            let fewer : waiters s.widths w' ≡ waiters s.widths w - 1 = (let x = sums.1 in omega arith) in
            let level : new ≡ packed (level_of s.widths w') = is_new ∙ (λ i. packed (record {
              closed = (sym now i).closed;
              waiters = (ap (λ (y : Level). y.waiters - 1) (sym now) ∙ sym fewer) i;
              seats = (ap (λ (y : Level). y.seats + width s.widths r) (sym now) ∙ sym more) i;
              limit = (sym now i).limit;
            })) in
            let u : Knowledge = saw_level d.knows l (entry OfDesk (Some (Grant r)) ∷ h.account.trace) in
            let d' : DeskRecord = record d { services = (r, Held) ∷ d.services; held = Some r; knows = u } in (
              Desk d' ∷ [],
              keeps,
              tt,
              moves_one t h id new d d' r Waiting Held Stands (Grant r) at l now inside (busy_is t h d k r Waiting Waits inside waits refl (λ y. cc) (λ y. cc)) waits refl refl refl (λ y. cc) refl next refl level refl refl (holds_now d.services r (subst (HoldsOne d.services) free k.holds)),
              (refl, (d', refl, (l, e ∙ said, (u, tells t h d k (Some (Grant r)) l now next, refl)))),
            )

    -- the seats of the request that is held are given back
    pub desk_subtracts_seats : (id slots : ℕ) (d : DeskRecord) (r back : ℕ) → r < length s.widths → d.held ≡ Some r → told_of d.knows.told r ≢ None
        → ((l : Level) → AllBelow20Bits l.waiters (l.seats + width s.widths r) l.limit → (packed (record l { seats = l.seats + width s.widths r }) + (2 ^ 64 - back)) % 2 ^ 64 ≡ packed l)
        → Allows (IsRuled s) slots id (Desk d ∷ [], []) 0 (λ n. (n + (2 ^ 64 - back)) % 2 ^ 64) (ByDesk (OnLevel (DeskSubtractsSeats r)) (Desk d ∷ [], []))
    desk_subtracts_seats id slots d r back inside held told leaves t h deep at small =
        let w = world_of s h.account.trace in
        let n : ℕ = slice_index t.words 0 in
        let k = is_at s t h id d at in
        let p : PassRecord = h.account.pass r in
        let is : service d r ≡ Held = k.holds.held_is r held in
        let stage : w.stage r ≡ Stands = (k.request r inside).stage ∙ ap (stage_of p) is in
        let decided : w.decision r ≢ None = (λ x. told (sym (k.known.told r told) ∙ x)) in
        let next = next_move s OfDesk (Release r) h.account.trace h.sound.schedule (record { is_request = inside; is_standing = stage; is_decided = decided }) tt in
        let w' : World = record w { stage = put w.stage r Gone } in
        let sums = laws.sums w r Stands Gone inside stage in
        let less : seats s.widths w ≡ seats s.widths w' + width s.widths r = (let x = sums.0 in omega arith) in
        let as_many : waiters s.widths w' ≡ waiters s.widths w = (let x = sums.1 in omega arith) in
        let l : Level = level_of s.widths w in
        let l' : Level = level_of s.widths w' in
        let fits = is_small l (level_in_range s shape laws t h) in
        let shown : n ≡ packed (record l' { seats = l'.seats + width s.widths r }) = h.packs.level ∙ (λ j. packed (record { closed = l.closed; waiters = sym as_many j; seats = less j; limit = w.limit })) in
        let new : ℕ = (n + (2 ^ 64 - back)) % 2 ^ 64 in
        let level : new ≡ packed l' = ap (λ y. (y + (2 ^ 64 - back)) % 2 ^ 64) shown ∙ leaves l' (subst (λ y. y < 2 ^ 20) (sym as_many) fits.0, subst (λ y. y < 2 ^ 20) less fits.1, fits.2) in
        let u : Knowledge = saw_level d.knows l (entry OfDesk (Some (Release r)) ∷ h.account.trace) in
        let d' : DeskRecord = record d { services = (r, Left) ∷ d.services; held = None; knows = u } in (
          Desk d' ∷ [],
          keeps,
          tt,
          moves_one t h id new d d' r Held Left Gone (Release r) at l refl inside (busy_is t h d k r Held Stands inside is refl (λ y. cc) (λ y. cc)) is refl refl refl (λ y. refl) refl next refl level refl refl (holds_none d.services r Left (λ x. cc) (subst (HoldsOne d.services) held k.holds)),
          (refl, (d', refl, (l, h.packs.level, (u, tells t h d k (Some (Release r)) l refl next, refl)))),
        )

    -- a request that waits and was seen cancelled leaves the line
    pub desk_subtracts_waiter : (id slots : ℕ) (d : DeskRecord) (r one : ℕ) → r < length s.widths → service d r ≡ Waiting → told_of d.knows.told r ≡ Some Cancelled
        → ((l : Level) → AllBelow20Bits (l.waiters + 1) l.seats l.limit → (packed (record l { waiters = l.waiters + 1 }) + (2 ^ 64 - one)) % 2 ^ 64 ≡ packed l)
        → Allows (IsRuled s) slots id (Desk d ∷ [], []) 0 (λ n. (n + (2 ^ 64 - one)) % 2 ^ 64) (ByDesk (OnLevel (DeskSubtractsWaiter r)) (Desk d ∷ [], []))
    desk_subtracts_waiter id slots d r one inside waits told leaves t h deep at small =
        let w = world_of s h.account.trace in
        let n : ℕ = slice_index t.words 0 in
        let k = is_at s t h id d at in
        let p : PassRecord = h.account.pass r in
        let stage : w.stage r ≡ Waits = (k.request r inside).stage ∙ ap (stage_of p) waits in
        let cancelled : w.decision r ≡ Some Cancelled = k.known.told r (λ x. let z = sym told ∙ x in cc) ∙ told in
        let next = next_move s OfDesk (Leave r) h.account.trace h.sound.schedule (record { is_request = inside; is_waiting = stage; is_cancelled = cancelled }) tt in
        let w' : World = record w { stage = put w.stage r Gone } in
        let sums = laws.sums w r Waits Gone inside stage in
        let as_many : seats s.widths w' ≡ seats s.widths w = (let x = sums.0 in omega arith) in
        let fewer : waiters s.widths w ≡ waiters s.widths w' + 1 = (let x = sums.1 in omega arith) in
        let l : Level = level_of s.widths w in
        let l' : Level = level_of s.widths w' in
        let fits = is_small l (level_in_range s shape laws t h) in
        let shown : n ≡ packed (record l' { waiters = l'.waiters + 1 }) = h.packs.level ∙ (λ j. packed (record { closed = l.closed; waiters = fewer j; seats = sym as_many j; limit = w.limit })) in
        let new : ℕ = (n + (2 ^ 64 - one)) % 2 ^ 64 in
        let level : new ≡ packed l' = ap (λ y. (y + (2 ^ 64 - one)) % 2 ^ 64) shown ∙ leaves l' (subst (λ y. y < 2 ^ 20) fewer fits.0, subst (λ y. y < 2 ^ 20) (sym as_many) fits.1, fits.2) in
        let u : Knowledge = saw_level d.knows l (entry OfDesk (Some (Leave r)) ∷ h.account.trace) in
        let d' : DeskRecord = served d r Left u in (
          Desk d' ∷ [],
          keeps,
          tt,
          moves_one t h id new d d' r Waiting Left Gone (Leave r) at l refl inside (busy_is t h d k r Waiting Waits inside waits refl (λ y. cc) (λ y. cc)) waits refl refl refl (λ y. refl) refl next refl level refl refl (holds_still d.services d.held r Left (λ x. let z = sym waits ∙ x in cc) (λ x. cc) k.holds),
          (refl, (d', refl, (l, h.packs.level, (u, tells t h d k (Some (Leave r)) l refl next, refl)))),
        )
