-- The steps of a Pass on its decision word keep the rule.
use Rattle.std.proofs.Common.{◌≡◌, ◌≢◌, ◌⊎◌, ℕ, ◌+◌, Bool, true, false, List, [], ◌∷◌, Option, Some, None, sym, refl, ap, ◌∙◌, subst, inl, inr, ⊎_elim}
use Rattle.std.specs.Prelude.{slice_index, ◌==◌, MatchBool}
use mathlib.Core.Option.{some}
use lib.ListN.{get_elem?}
use prog.Atomic.{either}
use Rattle.atomic_table.specs.Table.{keeps, Allows}
use Rattle.apf_words.specs.Codes.{marked}
use Rattle.apf_words.specs.declared.decision.Decision.{Decision}
use Rattle.apf_words.specs.declared.decision.Decision.TheVariants.{Execute, QueueFull, Closed, Cancelled, ConcurrencyLimit}
use Rattle.apf_model.specs.declared.moves.Move.{Move}
use Rattle.apf_model.specs.declared.moves.Move.TheVariants.{Decide}
use Rattle.apf_model.specs.declared.moves.Stage.TheVariants.{Stands}
use Rattle.apf_model.specs.declared.response.Response.TheVariants.{Reject}
use Rattle.apf_model.specs.World.{World, put, MayDecide}
use Rattle.apf_gate.specs.declared.record.Shape.{Shape}
use Rattle.apf_gate.specs.declared.record.Actor.TheVariants.{OfPass}
use Rattle.apf_gate.specs.declared.record.Entry.{Entry}
use Rattle.apf_gate.specs.declared.record.Knowledge.{Knowledge}
use Rattle.apf_gate.specs.declared.record.State.{State}
use Rattle.apf_gate.specs.declared.record.State.TheVariants.{Fresh, Took, InLine, Over}
use Rattle.apf_gate.specs.declared.record.Service.{Service}
use Rattle.apf_gate.specs.declared.record.PassRecord.{PassRecord}
use Rattle.apf_gate.specs.declared.record.Record.{Record}
use Rattle.apf_gate.specs.declared.record.Record.TheVariants.{Pass}
use Rattle.apf_gate.specs.Records.{told_of, told_own, service, saw_decision}
use Rattle.apf_gate.specs.Traces.{entry, world_of}
use Rattle.apf_gate.specs.Requests.{IsRequest, IsPassRecord, IsState, MayHold, MayHaveWritten, stage_of, stage_of_pass, was_handed, written}
use Rattle.apf_gate.specs.Account.{IsKnown}
use Rattle.apf_gate.specs.Rule.{IsRuled}
use Rattle.apf_gate.specs.Steps.{SawDecision, ByPass, OfDecision, OnDecision, OnDecisionIf, Writing}
use Rattle.apf_gate.specs.PassSteps.{own_mark, read_by, GrantStands, FreshIsNotHanded, asking_state, asking, deciding_state, PassLoadsDecision, PassAsksDecision, PassExchangesDecision, PassMissesDecision}
use Rattle.apf_gate.specs.PassCalls.{MayWrite}
use Rattle.apf_gate.proofs.Puts.{put_here, put_else}
use Rattle.apf_gate.specs.Slots.{slot_of, mark_of}
use Rattle.apf_gate.proofs.WordNumbers.{some_same}
use Rattle.apf_gate.proofs.Slots.{decision_same}
use Rattle.apf_gate.proofs.Later.{next_load, next_move, same_response}
use Rattle.apf_gate.proofs.Requests.{in_state, not_handed, is_fresh, may_find, stands}
use Rattle.apf_gate.proofs.Views.{Table}
use Rattle.apf_gate.proofs.Sound.{by_found, Exchanged, left, pass_step}
use Rattle.apf_gate.proofs.Packing.{packs_same, packs_decided}
use Rattle.apf_gate.proofs.Knowing.{decision_known, decision_told}
use Rattle.apf_gate.proofs.PassLines.{execute_told, IsAt, is_at, own_read}

module _ (s : Shape) where
  -- what a Pass knows after a load of its decision word
  abbrev told_by : (t : Table) (h : IsRuled s t) → PassRecord → Knowledge
  told_by t h p = saw_decision p.knows p.number ((world_of s h.account.trace).decision p.number) (entry (OfPass p.number) None ∷ h.account.trace)

  abbrev word_of : (t : Table) (h : IsRuled s t) → PassRecord → Option Decision
  word_of t h p = (world_of s h.account.trace).decision p.number

  -- a load of the decision word, after which the record is q
  loads : (t : Table) (h : IsRuled s t) (id : ℕ) (p q : PassRecord) (at : get_elem? t.views id ≡ some (Pass p ∷ [])) → q.knows ≡ told_by t h p → q.past ≡ p.past
      → IsRequest s p.number q (service h.account.desk p.number) (world_of s h.account.trace)
      → IsRuled s (left t (slot_of p.number + 1) (slice_index t.words (slot_of p.number + 1)) id (Pass q ∷ [])) × SawDecision (OfPass p.number) p.knows p.number (word_of t h p) (word_of t h p) None (told_by t h p)
  loads t h id p q at knows past mine =
      let w = world_of s h.account.trace in
      let r = p.number in
      let k = is_at s t h id p at in
      let es : List Entry = entry (OfPass r) None ∷ h.account.trace in
      let next = next_load s (OfPass r) h.account.trace h.sound.schedule in (
        pass_step s t h id (slot_of r + 1) (slice_index t.words (slot_of r + 1)) None p q at next (λ j ne. record { stage = refl; decision = refl; saw = refl }) (packs_same s h.account.current t.words w w (slot_of r + 1) refl (λ _. refl) h.packs) mine
            (subst (λ u. IsKnown s (OfPass r) u es) (sym knows) (decision_known s (OfPass r) (OfPass r) p.knows h.account.trace None k.known next r (w.decision r) (λ _. refl)))
            past,
        decision_told s (OfPass r) p.knows h.account.trace None k.known next r (w.decision r) (w.decision r) refl (λ _. refl),
      )

  -- execute stays told after a load
  still_executes : (t : Table) (h : IsRuled s t) (id : ℕ) (p : PassRecord) → IsAt s t h id p → told_own p ≡ Some Execute → told_of (told_by t h p).told p.number ≡ Some Execute
  still_executes t h id p k e = execute_told p.knows.told p.number (word_of t h p) e (k.known.told p.number (λ none. cc) ∙ e)

  -- the lines on a Pass that only read
  request_read : (t : Table) (h : IsRuled s t) (id : ℕ) (p : PassRecord) → IsAt s t h id p → IsRequest s p.number (read_by p (told_by t h p)) (service h.account.desk p.number) (world_of s h.account.trace)
  request_read t h id p k = record {
    own = own_read s p (told_by t h p) (still_executes t h id p k) k.request.own;
    tied = record { number = refl; handed = k.request.tied.handed; entered = k.request.tied.entered; left = k.request.tied.left };
    stage = k.request.stage;
    saw = k.request.saw;
    word = k.request.word;
    closed = k.request.closed;
  }

  -- where it is told execute, its seats stand
  grant_stands : (t : Table) (h : IsRuled s t) (id : ℕ) (p : PassRecord) → IsAt s t h id p → GrantStands p (word_of t h p) (told_by t h p)
  grant_stands t h id p k not_over is = subst (λ z. (world_of z h.account.trace).stage p.number ≡ Stands) (sym k.known.shape_is) (stands s p.number p (service h.account.desk p.number) (world_of s h.account.trace) k.request not_over is)

  -- a fresh Pass was never handed over
  never_handed : (t : Table) (h : IsRuled s t) (id : ℕ) (p : PassRecord) → IsAt s t h id p → FreshIsNotHanded p
  never_handed t h id p k fresh = let f = is_fresh s p.number p (service h.account.desk p.number) (world_of s h.account.trace) k.request fresh in (f.not_handed_over, f.not_entered)

  -- a load of the decision word
  pub pass_loads_decision : (id slots : ℕ) (p : PassRecord) → Allows (IsRuled s) slots id (Pass p ∷ [], []) (slot_of p.number + 1) (λ n. n) (ByPass (OnDecision own_mark PassLoadsDecision) (Pass p ∷ [], []))
  pass_loads_decision id slots p t h deep at small =
      let k = is_at s t h id p at in
      let u : Knowledge = told_by t h p in
      let q : PassRecord = read_by p u in
      let x = loads t h id p q at refl refl (request_read t h id p k) in
      (Pass q ∷ [], keeps, tt, x.0, (refl, (q, refl, (word_of t h p, k.word, (u, x.1, may_find s p.number p (service h.account.desk p.number) (world_of s h.account.trace) k.request, grant_stands t h id p k, never_handed t h id p k, refl)))))

  fresh_or_not : (f : State) → (f ≡ Fresh) ⊎ ((asking_state f ≡ f) × ((b : Bool) → asking f b ≡ b))
  fresh_or_not Fresh = inl refl
  fresh_or_not Took = inr (refl, λ _. refl)
  fresh_or_not InLine = inr (refl, λ _. refl)
  fresh_or_not Over = inr (refl, λ _. refl)

  -- the lines on a fresh Pass that is in line now
  request_asked : (p : PassRecord) (a : Service) (w : World) (u : Knowledge) → p.state ≡ Fresh → IsRequest s p.number p a w → IsRequest s p.number (record p { state = InLine; asked = true; no_room = false; knows = u }) a w
  request_asked p a w u fresh k =
      let f = is_fresh s p.number p a w k fresh in
      let q : PassRecord = record p { state = InLine; asked = true; no_room = false; knows = u } in record {
        own = record {
          state = (f.took_none, refl, f.wrote_none);
          wrote = subst (MayHaveWritten s q) (sym f.wrote_none) tt;
          handed = λ e. absurd (let z = sym f.not_handed_over ∙ e in cc);
          queues = k.own.queues;
          no_room = λ e. absurd (cc);
        };
        tied = record { number = refl; handed = k.tied.handed; entered = k.tied.entered; left = k.tied.left };
        stage = f.away ∙ sym (ap (stage_of q) f.free);
        saw = k.saw;
        word = k.word;
        closed = k.closed;
      }

  -- a load of the decision word, with which a fresh Pass is in line
  pub pass_asks_decision : (id slots : ℕ) (p : PassRecord) → Allows (IsRuled s) slots id (Pass p ∷ [], []) (slot_of p.number + 1) (λ n. n) (ByPass (OnDecision own_mark PassAsksDecision) (Pass p ∷ [], []))
  pass_asks_decision id slots p t h deep at small =
      let k = is_at s t h id p at in
      let u : Knowledge = told_by t h p in
      let q : PassRecord = record p { state = asking_state p.state; asked = asking p.state p.asked; no_room = false; knows = u } in
      let P = λ (o : PassRecord). IsRequest s p.number o (service h.account.desk p.number) (world_of s h.account.trace) in
      let mine : P q = ⊎_elim
      (λ (e : p.state ≡ Fresh). subst P (λ i. record p { state = asking_state (sym e i); asked = asking (sym e i) p.asked; no_room = false; knows = u }) (request_asked p (service h.account.desk p.number) (world_of s h.account.trace) u e k.request))
      (λ (e : (asking_state p.state ≡ p.state) × ((b : Bool) → asking p.state b ≡ b)). subst P (λ i. record p { state = sym e.0 i; asked = sym (e.1 p.asked) i; no_room = false; knows = u }) (request_read t h id p k))
      (fresh_or_not p.state) in
      let x = loads t h id p q at refl refl mine in
      (Pass q ∷ [], keeps, tt, x.0, (refl, (q, refl, (word_of t h p, k.word, (u, x.1, may_find s p.number p (service h.account.desk p.number) (world_of s h.account.trace) k.request, grant_stands t h id p k, never_handed t h id p k, refl)))))

  -- the record of a Pass that wrote this decision
  abbrev decided : PassRecord → Decision → Knowledge → PassRecord
  decided p d u = record p { state = deciding_state d p.state; no_room = false; wrote = Some d; knows = u }

  -- what is so where a Pass may write a decision of an undecided request
  record MayNow (t : Table) (h : IsRuled s t) (p : PassRecord) (d : Decision) : Type 0 where
    allowed : MayDecide s.widths (world_of s h.account.trace) p.number d
    other : d ≢ Cancelled
    own : (u : Knowledge) → IsPassRecord s (decided p d u)
    stage : (u : Knowledge) → (world_of s h.account.trace).stage p.number ≡ stage_of (decided p d u) (service h.account.desk p.number)
    written_now : (u : Knowledge) → written (decided p d u) (service h.account.desk p.number) ≡ Some d
    shut : d ≡ Closed → (world_of s h.account.trace).is_open ≡ false

  -- of a fresh Pass that refuses itself
  refuses_itself : (t : Table) (h : IsRuled s t) (id : ℕ) (p : PassRecord) → IsAt s t h id p → (d : Decision) → p.state ≡ Fresh → ((e : State) → deciding_state d e ≡ Over) → d ≢ Cancelled
      → ((u : Knowledge) → MayHaveWritten s (decided p d u) (Some d)) → MayDecide s.widths (world_of s h.account.trace) p.number d → (d ≡ Closed → (world_of s h.account.trace).is_open ≡ false) → MayNow t h p d
  refuses_itself t h id p k d fresh over other wrote allowed shut =
      let f = is_fresh s p.number p (service h.account.desk p.number) (world_of s h.account.trace) k.request fresh in record {
        allowed = allowed;
        other = other;
        own = λ u. record {
          state = subst (λ e. IsState e (decided p d u)) (sym (over p.state)) (λ e. absurd (let x = sym f.took_none ∙ e in cc));
          wrote = wrote u;
          handed = λ e. absurd (let x = sym f.not_handed_over ∙ e in cc);
          queues = k.request.own.queues;
          no_room = λ e. absurd (cc);
        };
        stage = λ u. f.away ∙ sym (ap (stage_of (decided p d u)) f.free ∙ (λ i. stage_of_pass (over p.state i) (f.took_none i)));
        written_now = λ u. ap (written (decided p d u)) f.free;
        shut = shut;
      }

  may_now : (t : Table) (h : IsRuled s t) (id : ℕ) (p : PassRecord) → IsAt s t h id p → (d : Decision) → MayWrite p d → word_of t h p ≡ None → MayNow t h p d
  may_now t h id p k Execute may none =
      let w = world_of s h.account.trace in
      let r = p.number in
      let a : Service = service h.account.desk r in
      let f = in_state s r p a w k.request Took may.0 in
      let free = not_handed s r p a w k.request f.1 in record {
        allowed = record { is_request = k.inside; is_undecided = none; may_be = k.request.stage ∙ (ap (stage_of p) free ∙ ap (λ x. stage_of_pass x p.took) may.0) };
        other = λ e. cc;
        own = λ u. record {
          state = subst (λ x. IsState x (decided p Execute u)) (sym may.0) (f.0, f.1);
          wrote = f.0;
          handed = λ e. absurd (let x = sym (k.request.tied.handed ∙ ap was_handed free) ∙ e in cc);
          queues = k.request.own.queues;
          no_room = λ e. absurd (cc);
        };
        stage = λ u. k.request.stage;
        written_now = λ u. ap (written (decided p Execute u)) free;
        shut = λ e. absurd (cc);
      }
  may_now t h id p k Closed may none =
      let w = world_of s h.account.trace in
      let f = is_fresh s p.number p (service h.account.desk p.number) w k.request may.0 in
      let shut : w.is_open ≡ false = k.known.closed may.1 in
      refuses_itself t h id p k Closed may.0 (λ _. refl) (λ e. cc) (λ u. (f.took_none, refl)) (record { is_request = k.inside; is_undecided = none; may_be = (f.away, shut) }) (λ _. shut)
  may_now t h id p k ConcurrencyLimit may none =
      let w = world_of s h.account.trace in
      let f = is_fresh s p.number p (service h.account.desk p.number) w k.request may.0 in
      let reject : s.response ≡ Reject = ap (λ (y : Shape). y.response) (sym k.known.shape_is) ∙ may.1 in
      let saw : p.saw_no_room ≡ true = k.request.own.no_room may.2 in
      refuses_itself t h id p k ConcurrencyLimit may.0 (λ _. refl) (λ e. cc) (λ u. (f.took_none, refl, reject, saw)) (record { is_request = k.inside; is_undecided = none; may_be = (same_response s h.account.trace ∙ reject, f.away, k.request.saw ∙ saw) }) (λ e. absurd (cc))
  may_now t h id p k QueueFull may none = absurd may
  may_now t h id p k Cancelled may none = absurd may

  -- the lines on a Pass that lost its decision
  request_over : (p : PassRecord) (a : Service) (w : World) (u : Knowledge) → p.state ≡ Fresh → IsRequest s p.number p a w → IsRequest s p.number (record p { state = Over; no_room = false; knows = u }) a w
  request_over p a w u fresh k =
      let f = is_fresh s p.number p a w k fresh in
      let q : PassRecord = record p { state = Over; no_room = false; knows = u } in record {
        own = record {
          state = λ e. absurd (let x = sym f.took_none ∙ e in cc);
          wrote = subst (MayHaveWritten s q) (sym f.wrote_none) tt;
          handed = λ e. absurd (let x = sym f.not_handed_over ∙ e in cc);
          queues = k.own.queues;
          no_room = λ e. absurd (cc);
        };
        tied = record { number = refl; handed = k.tied.handed; entered = k.tied.entered; left = k.tied.left };
        stage = f.away ∙ sym (ap (stage_of q) f.free ∙ ap (stage_of_pass Over) f.took_none);
        saw = k.saw;
        word = k.word;
        closed = k.closed;
      }

  request_lost : (t : Table) (h : IsRuled s t) (id : ℕ) (p : PassRecord) → IsAt s t h id p → (d : Decision) → MayWrite p d
      → IsRequest s p.number (record p { state = deciding_state d p.state; no_room = false; knows = told_by t h p }) (service h.account.desk p.number) (world_of s h.account.trace)
  request_lost t h id p k Execute may = request_read t h id p k
  request_lost t h id p k Closed may = request_over p (service h.account.desk p.number) (world_of s h.account.trace) (told_by t h p) may.0 k.request
  request_lost t h id p k ConcurrencyLimit may = request_over p (service h.account.desk p.number) (world_of s h.account.trace) (told_by t h p) may.0 k.request
  request_lost t h id p k QueueFull may = absurd may
  request_lost t h id p k Cancelled may = absurd may

  -- what the exchange tells, by whether it was made
  abbrev Says : PassRecord → Decision → ℕ → Bool → List Record → Type 0
  Says p d n made v = (q : PassRecord) × (v ≡ Pass q ∷ []) × ((c : Decision) → marked (mark_of p.number) (Some d) ≡ marked (mark_of p.number) (Some c) → OfDecision (mark_of p.number) (λ found. MatchBool made (PassExchangesDecision c p q) (PassMissesDecision c p found q)) n)

  -- a decision is written where nothing was
  pub pass_exchanges_decision : (id slots : ℕ) (p : PassRecord) (d : Decision) → MayWrite p d
      → Allows (IsRuled s) slots id (Pass p ∷ [], []) (slot_of p.number + 1) (λ n. either (n == marked (mark_of p.number) None) (marked (mark_of p.number) (Some d)) n)
      (ByPass (Writing own_mark (marked (mark_of p.number) (Some d)) (λ decision. OnDecisionIf own_mark (PassExchangesDecision decision) (PassMissesDecision decision))) (Pass p ∷ [], []))
  pass_exchanges_decision id slots p d may t h deep at small = by_found (Exchanged s t (slot_of p.number + 1) (marked (mark_of p.number) (Some d)) id (Says p d (slice_index t.words (slot_of p.number + 1)))) (slice_index t.words (slot_of p.number + 1)) (marked (mark_of p.number) None) hit miss
    where
      n : ℕ
      n = slice_index t.words (slot_of p.number + 1)

      r : ℕ
      r = p.number

      w : World
      w = world_of s h.account.trace

      k : IsAt s t h id p
      k = is_at s t h id p at

      same_decision : (P : Decision → Type 0) → P d → (c : Decision) → marked (mark_of p.number) (Some d) ≡ marked (mark_of p.number) (Some c) → P c
      same_decision P x c e = subst P (some_same d c (decision_same (mark_of p.number) (Some d) (Some c) e)) x

      miss : n ≢ marked (mark_of p.number) None → Exchanged s t (slot_of p.number + 1) (marked (mark_of p.number) (Some d)) id (Says p d n) false
      miss ne =
          let u : Knowledge = told_by t h p in
          let q : PassRecord = record p { state = deciding_state d p.state; no_room = false; knows = u } in
          let x = loads t h id p q at refl refl (request_lost t h id p k d may) in
          (Pass q ∷ [], keeps, tt, x.0, (refl, (q, refl, same_decision (λ c. OfDecision (mark_of p.number) (λ found. PassMissesDecision c p found q) n) (w.decision r, k.word, (u, x.1, may_find s r p (service h.account.desk r) w k.request, refl)))))

      hit : n ≡ marked (mark_of p.number) None → Exchanged s t (slot_of p.number + 1) (marked (mark_of p.number) (Some d)) id (Says p d n) true
      hit e =
          let none : w.decision r ≡ None = decision_same (mark_of r) (w.decision r) None (sym k.word ∙ e) in
          let x = may_now t h id p k d may none in
          let m : Option Move = Some (Decide r d) in
          let next = next_move s (OfPass r) (Decide r d) h.account.trace h.sound.schedule x.allowed (refl, x.other) in
          let here : put w.decision r (Some d) r ≡ Some d = put_here w.decision r (Some d) in
          let u : Knowledge = saw_decision p.knows r (Some d) (entry (OfPass r) m ∷ h.account.trace) in
          let q : PassRecord = decided p d u in
          let ruled = pass_step s t h id (slot_of r + 1) (marked (mark_of r) (Some d)) m p q at next (λ j ne. record { stage = refl; decision = put_else w.decision r (Some d) j ne; saw = refl }) (packs_decided s h.account t.words w r d h.slots k.holds k.in_slot h.packs)
          (record {
            own = x.own u;
            tied = record { number = refl; handed = k.request.tied.handed; entered = k.request.tied.entered; left = k.request.tied.left };
            stage = x.stage u;
            saw = k.request.saw;
            word = subst (λ y. MayHold y (put w.decision r (Some d) r)) (sym (x.written_now u)) here;
            closed = λ y. x.shut (some_same d Closed (sym (x.written_now u) ∙ y));
          })
          (decision_known s (OfPass r) (OfPass r) p.knows h.account.trace m k.known next r (Some d) (λ _. here)) refl in (
            Pass q ∷ [],
            keeps,
            tt,
            ruled,
            (refl, (q, refl, same_decision (λ c. OfDecision (mark_of p.number) (λ found. PassExchangesDecision c p q) n) (None, e, (u, decision_told s (OfPass r) p.knows h.account.trace m k.known next r None (Some d) none (λ _. here), refl)))),
          )
