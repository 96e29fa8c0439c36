-- The steps of a Pass on the level word keep the rule.
use Rattle.std.proofs.Common.{◌≡◌, ◌≢◌, ℕ, ◌+◌, Bool, true, false, List, [], ◌∷◌, set, Option, Some, None, sym, refl, ap, ◌∙◌, subst, arith}
use Rattle.std.specs.Prelude.{slice_index, ◌==◌, ◌||◌, if◌then◌else◌, MatchBool}
use Rattle.std.proofs.lemmas.Bool.{or_right, not-false}
use mathlib.Core.Option.{some}
use lib.ListN.{get_elem?}
use prog.Atomic.{either}
use Rattle.atomic_table.specs.Table.{keeps, Allows}
use Rattle.apf_words.specs.Fits.{Fits}
use Rattle.apf_words.specs.Level.{Level, packed}
use Rattle.apf_model.specs.declared.moves.Move.{Move}
use Rattle.apf_model.specs.declared.moves.Move.TheVariants.{Take, See}
use Rattle.apf_model.specs.declared.moves.Stage.TheVariants.{Away, Stands}
use Rattle.apf_model.specs.World.{World, width, seats, waiters, MaySee, MayTake}
use Rattle.apf_gate.specs.declared.record.Shape.{Shape}
use Rattle.apf_gate.specs.declared.record.Actor.TheVariants.{OfPass}
use Rattle.apf_gate.specs.declared.record.Entry.{Entry}
use Rattle.apf_gate.specs.declared.record.Knowledge.{Knowledge}
use Rattle.apf_gate.specs.declared.record.State.TheVariants.{Fresh, Took}
use Rattle.apf_gate.specs.declared.record.Service.{Service}
use Rattle.apf_gate.specs.declared.record.PassRecord.{PassRecord}
use Rattle.apf_gate.specs.declared.record.Record.{Record}
use Rattle.apf_gate.specs.declared.record.Record.TheVariants.{Pass}
use Rattle.apf_gate.specs.Records.{level_of, own_width, service, saw_level}
use Rattle.apf_gate.specs.Traces.{entry, world_of}
use Rattle.apf_gate.specs.Requests.{IsRequest, IsPassRecord, MayHaveWritten, stage_of}
use Rattle.apf_gate.specs.Account.{IsKnown}
use Rattle.apf_gate.specs.Rule.{Packs, IsRuled}
use Rattle.apf_gate.specs.Gauges.{IsShape, AreLaws}
use Rattle.apf_gate.specs.Steps.{IsInRange, SawLevel, ByPass, OnLevel, OnLevelIf, OfLevel}
use Rattle.apf_gate.specs.PassSteps.{is_no_room, read_by, PassLoadsLevel, PassMissesLevel, PassExchangesLevel}
use Rattle.apf_gate.proofs.Puts.{put_here, put_else}
use Rattle.apf_gate.proofs.WordNumbers.{packed_same}
use Rattle.apf_gate.proofs.Later.{IsNext, next_load, next_move}
use Rattle.apf_gate.proofs.Requests.{IsSame, state_same, is_fresh}
use Rattle.apf_gate.proofs.Views.{Table}
use Rattle.apf_gate.proofs.Sound.{by_found, Exchanged, left, pass_step}
use Rattle.apf_gate.proofs.Packing.{packs_same, packs_level, level_in_range, no_queues, is_small}
use Rattle.apf_gate.proofs.Rooms.{no_room_true}
use Rattle.apf_gate.proofs.Knowing.{level_known, level_told}
use Rattle.apf_gate.proofs.PassLines.{IsAt, is_at, own_read}

module _ (s : Shape) (shape : IsShape s) (laws : AreLaws s) where
  -- a step on the level word, which said l: the rule afterwards, and what the step tells
  pub on_level : (t : Table) (h : IsRuled s t) (id n : ℕ) (m : Option Move) (p q : PassRecord) (at : get_elem? t.views id ≡ some (Pass p ∷ [])) (l : Level) → level_of s.widths (world_of s h.account.trace) ≡ l
      → IsNext s (OfPass p.number) m h.account.trace
      → q.knows ≡ saw_level p.knows l (entry (OfPass p.number) m ∷ h.account.trace)
      → q.past ≡ p.past
      → ((j : ℕ) → j ≢ p.number → IsSame (world_of s h.account.trace) (world_of s (entry (OfPass p.number) m ∷ h.account.trace)) j)
      → Packs s h.account.current (set t.words 0 n) (world_of s (entry (OfPass p.number) m ∷ h.account.trace))
      → IsRequest s p.number q (service h.account.desk p.number) (world_of s (entry (OfPass p.number) m ∷ h.account.trace))
      → IsRuled s (left t 0 n id (Pass q ∷ [])) × SawLevel (OfPass p.number) p.knows l m (saw_level p.knows l (entry (OfPass p.number) m ∷ h.account.trace))
  on_level t h id n m p q at l is next knows past elsewhere packs mine =
      let k = is_at s t h id p at in
      let es : List Entry = entry (OfPass p.number) m ∷ h.account.trace in (
        pass_step s t h id 0 n m p q at next elsewhere packs mine (subst (λ u. IsKnown s (OfPass p.number) u es) (sym knows) (level_known s (OfPass p.number) (OfPass p.number) p.knows h.account.trace m k.known next l is)) past,
        level_told s (OfPass p.number) p.knows h.account.trace m k.known next l is (subst IsInRange is (level_in_range s shape laws t h)) (λ e. ap (λ (x : Level). x.waiters) (sym is) ∙ no_queues s laws t h e),
      )

  -- a Pass's own width is its request's
  pub same_width : (t : Table) (h : IsRuled s t) (id : ℕ) (p : PassRecord) → IsAt s t h id p → own_width p ≡ width s.widths p.number
  same_width t h id p k = ap (λ (x : Shape). width x.widths p.number) k.known.shape_is

  -- what a load of the level word finds, and the move that it makes
  abbrev no_room : (t : Table) (h : IsRuled s t) → PassRecord → Bool
  no_room t h p = is_no_room (level_of s.widths (world_of s h.account.trace)) (own_width p)

  -- a fresh Pass that finds no room in the level word may see that
  may_see : (t : Table) (h : IsRuled s t) (id : ℕ) (p : PassRecord) → IsAt s t h id p → (world_of s h.account.trace).stage p.number ≡ Away → no_room t h p ≡ true → MaySee s.widths (world_of s h.account.trace) p.number
  may_see t h id p k away e =
      let w = world_of s h.account.trace in
      let none = no_room_true (level_of s.widths w) (own_width p) e in record {
        is_request = k.inside;
        is_open = not-false w.is_open none.is_open;
        has_not_come = away;
        has_no_room = subst (λ x. ¬ Fits (seats s.widths w) w.limit x) (same_width t h id p k) none.does_not_fit;
      }

  or_false : (x : Bool) → x ≡ (x || false)
  or_false true = refl
  or_false false = refl

  or_true : (x : Bool) → true ≡ (x || true)
  or_true true = refl
  or_true false = refl

  -- the lines on a fresh Pass that looked
  own_looked : (r : ℕ) (p : PassRecord) (a : Service) (w : World) (b : Bool) (u : Knowledge) → IsRequest s r p a w → p.state ≡ Fresh → IsPassRecord s (record p { saw_no_room = p.saw_no_room || b; no_room = b; knows = u })
  own_looked r p a w b u k fresh =
      let f = is_fresh s r p a w k fresh in
      let q : PassRecord = record p { saw_no_room = p.saw_no_room || b; no_room = b; knows = u } in record {
        state = state_same p.state p q refl refl refl k.own.state;
        wrote = subst (MayHaveWritten s q) (sym f.wrote_none) tt;
        handed = λ e. absurd (let z = sym f.not_handed_over ∙ e in cc);
        queues = k.own.queues;
        no_room = λ e. or_right p.saw_no_room b e;
      }

  -- a load, which sees no room or nothing
  looks_by : (b : Bool) (t : Table) (h : IsRuled s t) (id : ℕ) (p : PassRecord) (at : get_elem? t.views id ≡ some (Pass p ∷ [])) → p.state ≡ Fresh → no_room t h p ≡ b
      → let l : Level = level_of s.widths (world_of s h.account.trace) in
      let m : Option Move = if b then Some (See p.number) else None in
      let u : Knowledge = saw_level p.knows l (entry (OfPass p.number) m ∷ h.account.trace) in
      IsRuled s (left t 0 (slice_index t.words 0) id (Pass (record p { saw_no_room = p.saw_no_room || b; no_room = b; knows = u }) ∷ [])) × SawLevel (OfPass p.number) p.knows l m u
  looks_by true t h id p at fresh is =
      let w = world_of s h.account.trace in
      let k = is_at s t h id p at in
      let f = is_fresh s p.number p (service h.account.desk p.number) w k.request fresh in
      let l : Level = level_of s.widths w in
      let m : Option Move = Some (See p.number) in
      let u : Knowledge = saw_level p.knows l (entry (OfPass p.number) m ∷ h.account.trace) in
      let q : PassRecord = record p { saw_no_room = p.saw_no_room || true; no_room = true; knows = u } in
      on_level t h id (slice_index t.words 0) m p q at l refl (next_move s (OfPass p.number) (See p.number) h.account.trace h.sound.schedule (may_see t h id p k f.away is) refl) refl refl
      (λ j ne. record { stage = refl; decision = refl; saw = put_else w.saw_no_room p.number true j ne })
      (packs_same s h.account.current t.words w (world_of s (entry (OfPass p.number) m ∷ h.account.trace)) 0 refl (λ _. refl) h.packs)
      (record {
        own = own_looked p.number p (service h.account.desk p.number) w true u k.request fresh;
        tied = record { number = refl; handed = k.request.tied.handed; entered = k.request.tied.entered; left = k.request.tied.left };
        stage = k.request.stage;
        saw = put_here w.saw_no_room p.number true ∙ or_true p.saw_no_room;
        word = k.request.word;
        closed = k.request.closed;
      })
  looks_by false t h id p at fresh is =
      let w = world_of s h.account.trace in
      let k = is_at s t h id p at in
      let f = is_fresh s p.number p (service h.account.desk p.number) w k.request fresh in
      let l : Level = level_of s.widths w in
      let u : Knowledge = saw_level p.knows l (entry (OfPass p.number) None ∷ h.account.trace) in
      let q : PassRecord = record p { saw_no_room = p.saw_no_room || false; no_room = false; knows = u } in
      on_level t h id (slice_index t.words 0) None p q at l refl (next_load s (OfPass p.number) h.account.trace h.sound.schedule) refl refl
      (λ j ne. record { stage = refl; decision = refl; saw = refl })
      (packs_same s h.account.current t.words w w 0 refl (λ _. refl) h.packs)
      (record {
        own = own_looked p.number p (service h.account.desk p.number) w false u k.request fresh;
        tied = record { number = refl; handed = k.request.tied.handed; entered = k.request.tied.entered; left = k.request.tied.left };
        stage = k.request.stage;
        saw = k.request.saw ∙ or_false p.saw_no_room;
        word = k.request.word;
        closed = k.request.closed;
      })

  -- a load of the level word
  pub pass_loads_level : (id slots : ℕ) (p : PassRecord) → p.state ≡ Fresh → Allows (IsRuled s) slots id (Pass p ∷ [], []) 0 (λ n. n) (ByPass (OnLevel PassLoadsLevel) (Pass p ∷ [], []))
  pass_loads_level id slots p fresh t h deep at small =
      let l : Level = level_of s.widths (world_of s h.account.trace) in
      let x = looks_by (no_room t h p) t h id p at fresh refl in
      (_, keeps, tt, x.0, (refl, (_, refl, (l, h.packs.level, (_, x.1, refl)))))

  -- an exchange that found another word
  pub pass_misses_level : (t : Table) (h : IsRuled s t) (id : ℕ) (p : PassRecord) (at : get_elem? t.views id ≡ some (Pass p ∷ [])) → (q : PassRecord) × IsRuled s (left t 0 (slice_index t.words 0) id (Pass q ∷ [])) × PassMissesLevel p (level_of s.widths (world_of s h.account.trace)) q
  pass_misses_level t h id p at =
      let w = world_of s h.account.trace in
      let k = is_at s t h id p at in
      let l : Level = level_of s.widths w in
      let u : Knowledge = saw_level p.knows l (entry (OfPass p.number) None ∷ h.account.trace) in
      let q : PassRecord = read_by p u in
      let x = on_level t h id (slice_index t.words 0) None p q at l refl (next_load s (OfPass p.number) h.account.trace h.sound.schedule) refl refl
      (λ j ne. record { stage = refl; decision = refl; saw = refl })
      (packs_same s h.account.current t.words w w 0 refl (λ _. refl) h.packs)
      (record {
        own = own_read s p u (λ e. e) k.request.own;
        tied = record { number = refl; handed = k.request.tied.handed; entered = k.request.tied.entered; left = k.request.tied.left };
        stage = k.request.stage;
        saw = k.request.saw;
        word = k.request.word;
        closed = k.request.closed;
      }) in
      (q, x.0, (u, x.1, refl))

  -- what the exchange tells, by whether it was made
  abbrev TakesOr : PassRecord → ℕ → Bool → List Record → Type 0
  TakesOr p n made v = (q : PassRecord) × (v ≡ Pass q ∷ []) × OfLevel (λ k. MatchBool made (PassExchangesLevel p k q) (PassMissesLevel p k q)) n

  -- an exchange of a word that shows room
  pub pass_exchanges_level : (id slots : ℕ) (p : PassRecord) (expected new : ℕ) (l : Level) → p.state ≡ Fresh → expected ≡ packed l → IsInRange l → l.closed ≡ false → l.waiters ≡ 0 → Fits l.seats l.limit (own_width p)
      → new ≡ packed (record l { seats = l.seats + own_width p })
      → Allows (IsRuled s) slots id (Pass p ∷ [], []) 0 (λ n. either (n == expected) new n) (ByPass (OnLevelIf expected PassExchangesLevel PassMissesLevel) (Pass p ∷ [], []))
  pass_exchanges_level id slots p expected new l fresh said in_range opened none room is_new t h deep at small_word =
      by_found (Exchanged s t 0 new id (TakesOr p (slice_index t.words 0))) (slice_index t.words 0) expected hit miss
    where
      n : ℕ
      n = slice_index t.words 0

      r : ℕ
      r = p.number

      w : World
      w = world_of s h.account.trace

      miss : n ≢ expected → Exchanged s t 0 new id (TakesOr p n) false
      miss ne = let x = pass_misses_level t h id p at in (Pass x.0 ∷ [], keeps, tt, x.1, (refl, (x.0, refl, (level_of s.widths w, h.packs.level, x.2))))

      hit : n ≡ expected → Exchanged s t 0 new id (TakesOr p n) true
      hit e =
          let k = is_at s t h id p at in
          let now : level_of s.widths w ≡ l = packed_same _ _ (is_small _ (level_in_range s shape laws t h)) (is_small l in_range) (sym h.packs.level ∙ (e ∙ said)) in
          let own = same_width t h id p k in
          let f = is_fresh s r p (service h.account.desk r) w k.request fresh in
          let may : MayTake s.widths w r = record {
            is_request = k.inside;
            is_open = not-false w.is_open (ap (λ (x : Level). x.closed) now ∙ opened);
            has_not_come = f.away;
            nobody_waits = ap (λ (x : Level). x.waiters) now ∙ none;
            fits = subst (λ (y : Level × ℕ). Fits y.0.seats y.0.limit y.1) (λ i. (sym now i, own i)) room;
          } in
          let m : Option Move = Some (Take r) in
          let sums = laws.sums w r Away Stands k.inside f.away in
          let w' = world_of s (entry (OfPass r) m ∷ h.account.trace) in
          let more : seats s.widths w' ≡ seats s.widths w + width s.widths r = (let x = sums.0 in omega arith) in
          let as_many : waiters s.widths w' ≡ waiters s.widths w = (let x = sums.1 in omega arith) in
          let u : Knowledge = saw_level p.knows l (entry (OfPass r) m ∷ h.account.trace) in
          let q : PassRecord = record p { state = Took; took = true; no_room = false; knows = u } in
          let level : new ≡ packed (level_of s.widths w') = is_new ∙ (λ i. packed (record { closed = (sym now i).closed; waiters = ((ap (λ (x : Level). x.waiters) (sym now)) ∙ sym as_many) i; seats = (ap (λ (x : Level). x.seats + own_width p) (sym now) ∙ (ap (λ y. seats s.widths w + y) own ∙ sym more)) i; limit = (sym now i).limit })) in
          let x = on_level t h id new m p q at l now (next_move s (OfPass r) (Take r) h.account.trace h.sound.schedule may refl) refl refl
          (λ j ne. record { stage = put_else w.stage r Stands j ne; decision = refl; saw = refl })
          (packs_level s h.account.current t.words w w' new level (λ _. refl) h.packs)
          (record {
            own = record {
              state = (refl, f.not_asked);
              wrote = subst (MayHaveWritten s q) (sym f.wrote_none) tt;
              handed = λ y. absurd (let z = sym f.not_handed_over ∙ y in cc);
              queues = k.request.own.queues;
              no_room = λ y. absurd (cc);
            };
            tied = record { number = refl; handed = k.request.tied.handed; entered = k.request.tied.entered; left = k.request.tied.left };
            stage = put_here w.stage r Stands ∙ sym (ap (stage_of q) f.free);
            saw = k.request.saw;
            word = k.request.word;
            closed = k.request.closed;
          }) in
          (Pass q ∷ [], keeps, tt, x.0, (refl, (q, refl, (l, e ∙ said, (u, x.1, f.wrote_none, refl)))))
