-- The steps on the level word of the Desk with a Pass joined to it keep the rule.
use Rattle.std.proofs.Common.{◌≡◌, ◌≢◌, ℕ, ◌+◌, Bool, true, false, List, [], ◌∷◌, Option, Some, None, sym, refl, ap, ◌∙◌, subst, arith}
use Rattle.std.specs.Prelude.{slice_index, ◌==◌, MatchBool}
use Rattle.std.proofs.lemmas.Bool.{not-false}
use prog.Atomic.{either}
use Rattle.atomic_table.specs.Table.{keeps, Allows}
use Rattle.apf_words.specs.Level.{Level, packed}
use Rattle.apf_model.specs.declared.moves.Move.{Move}
use Rattle.apf_model.specs.declared.moves.Move.TheVariants.{Enter}
use Rattle.apf_model.specs.declared.moves.Stage.TheVariants.{Away, Waits}
use Rattle.apf_model.specs.declared.response.Response.TheVariants.{Queue}
use Rattle.apf_model.specs.World.{seats, waiters}
use Rattle.apf_gate.specs.declared.record.Shape.{Shape}
use Rattle.apf_gate.specs.declared.record.Actor.TheVariants.{OfPass, OfDesk}
use Rattle.apf_gate.specs.declared.record.Knowledge.{Knowledge}
use Rattle.apf_gate.specs.declared.record.Service.{Service}
use Rattle.apf_gate.specs.declared.record.Service.TheVariants.{Waiting}
use Rattle.apf_gate.specs.declared.record.PassRecord.{PassRecord}
use Rattle.apf_gate.specs.declared.record.DeskRecord.{DeskRecord}
use Rattle.apf_gate.specs.declared.record.Record.{Record}
use Rattle.apf_gate.specs.declared.record.Record.TheVariants.{Pass, Desk}
use Rattle.apf_gate.specs.Records.{level_of, service_of, service, saw_level}
use Rattle.apf_gate.specs.Traces.{entry, world_of}
use Rattle.apf_gate.specs.Requests.{IsRequest, MayHold}
use Rattle.apf_gate.specs.Rule.{IsRuled}
use Rattle.apf_gate.specs.Gauges.{IsShape, AreLaws}
use Rattle.apf_gate.specs.Steps.{Both, IsInRange, SawLevel, ByBoth, OfLevel, OnLevel, OnLevelIf}
use Rattle.apf_gate.specs.DeskSteps.{served}
use Rattle.apf_gate.specs.JoinedSteps.{along, handed_over, handed_by, JoinedLoadsLevel, JoinedExchangesLevel}
use Rattle.apf_gate.specs.DeskCalls.{MayHand}
use Rattle.apf_gate.proofs.Puts.{put_here, put_else}
use Rattle.apf_gate.proofs.WordNumbers.{packed_same}
use Rattle.apf_gate.proofs.Later.{IsNext, next_load, next_move, same_response}
use Rattle.apf_gate.proofs.Requests.{state_same}
use Rattle.apf_gate.proofs.Views.{Table}
use Rattle.apf_gate.proofs.Sound.{by_found, Exchanged, both_step}
use Rattle.apf_gate.proofs.Packing.{packs_same, packs_level, level_in_range, no_queues, is_small}
use Rattle.apf_gate.proofs.Knowing.{follows, level_known, level_told}
use Rattle.apf_gate.proofs.DeskLines.{holds_still}
use Rattle.apf_gate.proofs.JoinedLines.{AreAt, are_at, is_early, is_handed_by, request_handed, agree, elsewhere}

module _ (s : Shape) (shape : IsShape s) (laws : AreLaws s) where
  -- what a step on the level word tells, which said l
  tells : (t : Table) (h : IsRuled s t) (p : PassRecord) (d : DeskRecord) → AreAt s t h p d → (m : Option Move) (l : Level) → level_of s.widths (world_of s h.account.trace) ≡ l → IsNext s OfDesk m h.account.trace → SawLevel OfDesk d.knows l m (saw_level d.knows l (entry OfDesk m ∷ h.account.trace))
  tells t h p d k m l is next = level_told s OfDesk d.knows h.account.trace m k.desk.known next l is (subst IsInRange is (level_in_range s shape laws t h)) (λ e. ap (λ (x : Level). x.waiters) (sym is) ∙ no_queues s laws t h e)

  -- a load of the level word, with which the request is handed over
  pub joined_loads_level : (id slots : ℕ) (p : PassRecord) (d : DeskRecord) → MayHand (record { pass = p; desk = d }) → Allows (IsRuled s) slots id (Pass p ∷ Desk d ∷ [], []) 0 (λ n. n) (ByBoth (OnLevel JoinedLoadsLevel) (Pass p ∷ Desk d ∷ [], []))
  joined_loads_level id slots p d may t h deep at small =
      let w = world_of s h.account.trace in
      let r = p.number in
      let k = are_at s t h id p d at in
      let a : Service = service d r in
      let i = is_early s p d w k.request may in
      let l : Level = level_of s.widths w in
      let next = next_load s OfDesk h.account.trace h.sound.schedule in
      let u : Knowledge = saw_level d.knows l (entry OfDesk None ∷ h.account.trace) in
      let d' : DeskRecord = served d r (handed_over a) u in
      let q : PassRecord = handed_by p (along p u) in
      let holds = holds_still d.services d.held r (handed_over a) i.not_held i.not_held_then k.desk.holds in (
        Pass q ∷ Desk d' ∷ [],
        keeps,
        tt,
        both_step s t h id 0 (slice_index t.words 0) None p q d d' at next
            (λ j ne. (record { stage = refl; decision = refl; saw = refl }, elsewhere s t h p d k (handed_over a) j ne))
            (packs_same s h.account.current t.words w w 0 refl (λ _. refl) h.packs)
            (subst (λ b. IsRequest s r q b w) (sym (put_here (service_of d.services) r (handed_over a))) (request_handed s p a w (along p u) k.request i))
            (follows s (OfPass r) OfDesk p.knows h.account.trace None k.known next)
            (level_known s OfDesk OfDesk d.knows h.account.trace None k.desk.known next l refl)
            holds.held_is holds.is_held refl refl,
        (refl, (record { pass = q; desk = d' }, refl, (l, h.packs.level, (u, tells t h p d k None l refl next, agree s t h p d k None u next refl, refl)))),
      )

  -- what the exchange tells, by whether it was made
  abbrev EntersOr : PassRecord → DeskRecord → ℕ → Bool → List Record → Type 0
  EntersOr p d n made v = (both' : Both) × (v ≡ Pass both'.pass ∷ Desk both'.desk ∷ []) × OfLevel (λ l. MatchBool made (JoinedExchangesLevel (record { pass = p; desk = d }) l both') (JoinedLoadsLevel (record { pass = p; desk = d }) l both')) n

  -- an exchange of a word that shows an open level
  pub joined_exchanges_level : (id slots : ℕ) (p : PassRecord) (d : DeskRecord) (expected new : ℕ) (l : Level) → MayHand (record { pass = p; desk = d }) → p.knows.shape.response ≡ Queue → expected ≡ packed l → IsInRange l → l.closed ≡ false
      → new ≡ packed (record l { waiters = l.waiters + 1 })
      → Allows (IsRuled s) slots id (Pass p ∷ Desk d ∷ [], []) 0 (λ n. either (n == expected) new n) (ByBoth (OnLevelIf expected JoinedExchangesLevel JoinedLoadsLevel) (Pass p ∷ Desk d ∷ [], []))
  joined_exchanges_level id slots p d expected new l may queue said in_range opened is_new t h deep at small = by_found (Exchanged s t 0 new id (EntersOr p d (slice_index t.words 0))) (slice_index t.words 0) expected hit miss
    where
      n : ℕ
      n = slice_index t.words 0

      miss : n ≢ expected → Exchanged s t 0 new id (EntersOr p d n) false
      miss ne = joined_loads_level id slots p d may t h deep at small

      hit : n ≡ expected → Exchanged s t 0 new id (EntersOr p d n) true
      hit e =
          let w = world_of s h.account.trace in
          let r = p.number in
          let k = are_at s t h id p d at in
          let a : Service = service d r in
          let i = is_early s p d w k.request may in
          let now : level_of s.widths w ≡ l = packed_same _ _ (is_small _ (level_in_range s shape laws t h)) (is_small l in_range) (sym h.packs.level ∙ (e ∙ said)) in
          let is_open : w.is_open ≡ true = not-false w.is_open (ap (λ (x : Level). x.closed) now ∙ opened) in
          let has_queues : s.response ≡ Queue = ap (λ (y : Shape). y.response) (sym k.known.shape_is) ∙ queue in
          let unwritten = i.unwritten (λ c. let x = sym is_open ∙ k.request.closed c in cc) in
          let m : Option Move = Some (Enter r) in
          let next = next_move s OfDesk (Enter r) h.account.trace h.sound.schedule (record { is_request = k.inside; has_queues = same_response s h.account.trace ∙ has_queues; is_open = is_open; has_not_come = i.away; is_not_full = i.not_full }) tt in
          let w' = world_of s (entry OfDesk m ∷ h.account.trace) in
          let sums = laws.sums w r Away Waits k.inside i.away in
          let as_many : seats s.widths w' ≡ seats s.widths w = (let x = sums.0 in omega arith) in
          let more : waiters s.widths w' ≡ waiters s.widths w + 1 = (let x = sums.1 in omega arith) in
          let u : Knowledge = saw_level d.knows l (entry OfDesk m ∷ h.account.trace) in
          let d' : DeskRecord = served d r Waiting u in
          let q : PassRecord = record p { handed = true; entered = true; no_room = false; knows = along p u } in
          let holds = holds_still d.services d.held r Waiting i.not_held (λ y. cc) k.desk.holds in
          let level : new ≡ packed (level_of s.widths w') = is_new ∙ (λ j. packed (record {
            closed = (sym now j).closed;
            waiters = (ap (λ (y : Level). y.waiters + 1) (sym now) ∙ sym more) j;
            seats = (ap (λ (y : Level). y.seats) (sym now) ∙ sym as_many) j;
            limit = (sym now j).limit;
          })) in
          let mine : IsRequest s r q Waiting w' = record {
            own = record {
              state = state_same p.state p q refl refl refl k.request.own.state;
              wrote = k.request.own.wrote;
              handed = λ _. is_handed_by s p a w q i refl refl refl refl;
              queues = λ _. has_queues;
              no_room = λ y. absurd (cc);
            };
            tied = record { number = refl; handed = refl; entered = refl; left = λ y. absurd (i.not_left (k.request.tied.left y)) };
            stage = put_here w.stage r Waits;
            saw = k.request.saw;
            word = subst (λ y. MayHold y (w.decision r)) unwritten k.request.word;
            closed = λ y. absurd (cc);
          } in (
            Pass q ∷ Desk d' ∷ [],
            keeps,
            tt,
            both_step s t h id 0 new m p q d d' at next
                (λ j ne. (record { stage = put_else w.stage r Waits j ne; decision = refl; saw = refl }, elsewhere s t h p d k Waiting j ne))
                (packs_level s h.account.current t.words w w' new level (λ _. refl) h.packs)
                (subst (λ b. IsRequest s r q b w') (sym (put_here (service_of d.services) r Waiting)) mine)
                (follows s (OfPass r) OfDesk p.knows h.account.trace m k.known next)
                (level_known s OfDesk OfDesk d.knows h.account.trace m k.desk.known next l now)
                holds.held_is holds.is_held refl refl,
            (refl, (record { pass = q; desk = d' }, refl, (l, e ∙ said, (u, tells t h p d k m l now next, agree s t h p d k m u next refl, refl)))),
          )
