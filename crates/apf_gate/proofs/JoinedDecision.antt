-- The steps on a decision word of the Desk with a Pass joined to it keep the rule.
use Rattle.std.proofs.Common.{◌≡◌, ◌≢◌, ℕ, ◌+◌, Bool, true, false, List, [], ◌∷◌, Option, Some, None, sym, refl, ap, ◌∙◌, subst}
use Rattle.std.specs.Prelude.{slice_index, ◌==◌, ◌||◌, MatchBool}
use mathlib.Core.Option.{some}
use lib.ListN.{get_elem?}
use prog.Atomic.{either}
use Rattle.atomic_table.specs.Table.{keeps, Allows}
use Rattle.apf_words.specs.Codes.{marked}
use Rattle.apf_words.specs.declared.decision.Decision.{Decision}
use Rattle.apf_words.specs.declared.decision.Decision.TheVariants.{Execute, QueueFull, Closed, Cancelled, ConcurrencyLimit}
use Rattle.apf_model.specs.declared.moves.Move.{Move}
use Rattle.apf_model.specs.declared.moves.Move.TheVariants.{Decide}
use Rattle.apf_model.specs.declared.moves.Stage.TheVariants.{Stands}
use Rattle.apf_model.specs.World.{World, put, MayDecide}
use Rattle.apf_gate.specs.declared.record.Shape.{Shape}
use Rattle.apf_gate.specs.declared.record.Actor.TheVariants.{OfPass, OfDesk}
use Rattle.apf_gate.specs.declared.record.Knowledge.{Knowledge}
use Rattle.apf_gate.specs.declared.record.Service.{Service}
use Rattle.apf_gate.specs.declared.record.Service.TheVariants.{NotHanded, Handed, RefusedFull, RefusedClosed, Waiting, Held, Settled, Left}
use Rattle.apf_gate.specs.declared.record.PassRecord.{PassRecord}
use Rattle.apf_gate.specs.declared.record.DeskRecord.{DeskRecord}
use Rattle.apf_gate.specs.declared.record.Record.{Record}
use Rattle.apf_gate.specs.declared.record.Record.TheVariants.{Pass, Desk}
use Rattle.apf_gate.specs.Records.{told_of, told_own, service_of, service, saw_decision}
use Rattle.apf_gate.specs.Traces.{entry, world_of}
use Rattle.apf_gate.specs.Requests.{IsRequest, IsHanded, stage_of_pass}
use Rattle.apf_gate.specs.Rule.{IsRuled}
use Rattle.apf_gate.specs.Steps.{Both, ByBoth, OfDecision, OnDecision, OnDecisionIf, Writing}
use Rattle.apf_gate.specs.DeskSteps.{served}
use Rattle.apf_gate.specs.JoinedSteps.{both_mark, along_told, has_left, handed_over, handed_by, refusing, JoinedLoadsDecision, JoinedExchangesDecision, JoinedMissesDecision}
use Rattle.apf_gate.specs.DeskCalls.{MayHand, MayRefuse}
use Rattle.apf_gate.proofs.Puts.{put_here, put_else}
use Rattle.apf_gate.specs.Slots.{slot_of, mark_of}
use Rattle.apf_gate.proofs.WordNumbers.{some_same}
use Rattle.apf_gate.proofs.Slots.{decision_same}
use Rattle.apf_gate.proofs.Later.{next_load, next_move}
use Rattle.apf_gate.proofs.Requests.{state_same, desk_may_find, stands}
use Rattle.apf_gate.proofs.Views.{Table}
use Rattle.apf_gate.proofs.Sound.{by_found, Exchanged, left, both_step}
use Rattle.apf_gate.proofs.Packing.{packs_same, packs_decided}
use Rattle.apf_gate.proofs.Knowing.{decision_known, decision_told}
use Rattle.apf_gate.proofs.PassLines.{execute_told}
use Rattle.apf_gate.proofs.DeskLines.{holds_still}
use Rattle.apf_gate.proofs.JoinedLines.{AreAt, are_at, is_early, own_handed, request_handed, agree, elsewhere}

-- a Pass that has that its request left had it before, or hears it now
heard_left : (left : Bool) (a : Service) → (left ≡ true → a ≡ Left) → (left || has_left a) ≡ true → a ≡ Left
heard_left true a was e = was refl
heard_left false Left was e = refl
heard_left false NotHanded was e = absurd (cc)
heard_left false Handed was e = absurd (cc)
heard_left false RefusedFull was e = absurd (cc)
heard_left false RefusedClosed was e = absurd (cc)
heard_left false Waiting was e = absurd (cc)
heard_left false Held was e = absurd (cc)
heard_left false Settled was e = absurd (cc)

-- a Pass that was handed over is still so after a hearing
handed_heard : (p q : PassRecord) → q.asked ≡ p.asked → q.took ≡ p.took → q.wrote ≡ p.wrote → q.state ≡ p.state → (told_own p ≡ Some Execute → told_own q ≡ Some Execute) → IsHanded p → IsHanded q
handed_heard p q asked took wrote state stays h = record { asked = asked ∙ h.asked; took_none = took ∙ h.took_none; wrote_none = wrote ∙ h.wrote_none; over = λ e. stays (h.over (sym state ∙ e)) }

module _ (s : Shape) where
  -- what a Pass knows after a step on its word
  told_along : (t : Table) (h : IsRuled s t) (p : PassRecord) (d : DeskRecord) → AreAt s t h p d → (x : Option Decision) (u : Knowledge) → ((world_of s h.account.trace).decision p.number ≢ None → (world_of s h.account.trace).decision p.number ≡ x) → told_own p ≡ Some Execute → told_of (along_told p x u).told p.number ≡ Some Execute
  told_along t h p d k x u same e =
      let is = k.known.told p.number (λ none. let z = sym e ∙ none in cc) ∙ e in
      execute_told p.knows.told p.number x e (sym (same (λ none. let z = sym is ∙ none in cc)) ∙ is)

  -- a load, or a failed exchange, of the decision word, with which the request is handed over
  pub joined_misses_decision : (t : Table) (h : IsRuled s t) (id : ℕ) (p : PassRecord) (d : DeskRecord) → get_elem? t.views id ≡ some (Pass p ∷ Desk d ∷ []) → MayHand (record { pass = p; desk = d })
      → (q : PassRecord) × (d' : DeskRecord) × IsRuled s (left t (slot_of p.number + 1) (slice_index t.words (slot_of p.number + 1)) id (Pass q ∷ Desk d' ∷ [])) × JoinedMissesDecision (record { pass = p; desk = d }) ((world_of s h.account.trace).decision p.number) (record { pass = q; desk = d' })
  joined_misses_decision t h id p d at may =
      let w = world_of s h.account.trace in
      let r = p.number in
      let k = are_at s t h id p d at in
      let a : Service = service d r in
      let i = is_early s p d w k.request may in
      let x = w.decision r in
      let next = next_load s OfDesk h.account.trace h.sound.schedule in
      let u : Knowledge = saw_decision d.knows r x (entry OfDesk None ∷ h.account.trace) in
      let d' : DeskRecord = served d r (handed_over a) u in
      let q : PassRecord = handed_by p (along_told p x u) in
      let holds = holds_still d.services d.held r (handed_over a) i.not_held i.not_held_then k.desk.holds in
      let mine = request_handed s p a w (along_told p x u) k.request i in (
        q,
        d',
        both_step s t h id (slot_of r + 1) (slice_index t.words (slot_of r + 1)) None p q d d' at next
            (λ j ne. (record { stage = refl; decision = refl; saw = refl }, elsewhere s t h p d k (handed_over a) j ne))
            (packs_same s h.account.current t.words w w (slot_of r + 1) refl (λ _. refl) h.packs)
            (subst (λ b. IsRequest s r q b w) (sym (put_here (service_of d.services) r (handed_over a))) mine)
            (decision_known s (OfPass r) OfDesk p.knows h.account.trace None k.known next r x (λ _. refl))
            (decision_known s OfDesk OfDesk d.knows h.account.trace None k.desk.known next r x (λ _. refl))
            holds.held_is holds.is_held refl refl,
        (u, decision_told s OfDesk d.knows h.account.trace None k.desk.known next r x x refl (λ _. refl), desk_may_find s r q (handed_over a) w mine, agree s t h p d k None u next refl, refl),
      )

  -- what is so where the Desk may refuse an undecided request
  record Refusing (t : Table) (h : IsRuled s t) (p : PassRecord) (x : Decision) : Type 0 where
    allowed : MayDecide s.widths (world_of s h.account.trace) p.number x
    other : x ≢ Cancelled
    not_held : refusing x ≢ Held
    request : (u : Knowledge) → IsRequest s p.number (handed_by p u) (refusing x) (world_of s (entry OfDesk (Some (Decide p.number x)) ∷ h.account.trace))

  refusal : (t : Table) (h : IsRuled s t) (p : PassRecord) (d : DeskRecord) → AreAt s t h p d → MayHand (record { pass = p; desk = d }) → (x : Decision) → MayRefuse d x → (world_of s h.account.trace).decision p.number ≡ None → Refusing t h p x
  refusal t h p d k hand QueueFull may none =
      let w = world_of s h.account.trace in
      let i = is_early s p d w k.request hand in record {
        allowed = record { is_request = k.inside; is_undecided = none; may_be = i.away };
        other = λ e. cc;
        not_held = λ e. cc;
        request = λ u. record {
          own = own_handed s p (service d p.number) w u k.request i;
          tied = record { number = refl; handed = refl; entered = i.not_entered; left = λ e. absurd (i.not_left (k.request.tied.left e)) };
          stage = i.away ∙ sym (ap (λ x. stage_of_pass x p.took) i.in_line);
          saw = k.request.saw;
          word = put_here w.decision p.number (Some QueueFull);
          closed = λ e. absurd (cc);
        };
      }
  refusal t h p d k hand Closed may none =
      let w = world_of s h.account.trace in
      let i = is_early s p d w k.request hand in
      let shut : w.is_open ≡ false = k.desk.known.closed may in record {
        allowed = record { is_request = k.inside; is_undecided = none; may_be = (i.away, shut) };
        other = λ e. cc;
        not_held = λ e. cc;
        request = λ u. record {
          own = own_handed s p (service d p.number) w u k.request i;
          tied = record { number = refl; handed = refl; entered = i.not_entered; left = λ e. absurd (i.not_left (k.request.tied.left e)) };
          stage = i.away ∙ sym (ap (λ x. stage_of_pass x p.took) i.in_line);
          saw = k.request.saw;
          word = put_here w.decision p.number (Some Closed);
          closed = λ _. shut;
        };
      }
  refusal t h p d k hand Execute may none = absurd may
  refusal t h p d k hand Cancelled may none = absurd may
  refusal t h p d k hand ConcurrencyLimit may none = absurd may

  -- what the exchange tells, by whether it was made
  abbrev RefusesOr : PassRecord → DeskRecord → Decision → ℕ → Bool → List Record → Type 0
  RefusesOr p d x n made v = (both' : Both) × (v ≡ Pass both'.pass ∷ Desk both'.desk ∷ []) × ((c : Decision) → marked (mark_of p.number) (Some x) ≡ marked (mark_of p.number) (Some c)
      → OfDecision (mark_of p.number) (λ found. MatchBool made (JoinedExchangesDecision c (record { pass = p; desk = d }) both') (JoinedMissesDecision (record { pass = p; desk = d }) found both')) n)

  -- a refusal is written where nothing was
  pub joined_exchanges_decision : (id slots : ℕ) (p : PassRecord) (d : DeskRecord) (x : Decision) → MayHand (record { pass = p; desk = d }) → MayRefuse d x
      → Allows (IsRuled s) slots id (Pass p ∷ Desk d ∷ [], []) (slot_of p.number + 1) (λ n. either (n == marked (mark_of p.number) None) (marked (mark_of p.number) (Some x)) n)
      (ByBoth (Writing both_mark (marked (mark_of p.number) (Some x)) (λ decision. OnDecisionIf both_mark (JoinedExchangesDecision decision) JoinedMissesDecision)) (Pass p ∷ Desk d ∷ [], []))
  joined_exchanges_decision id slots p d x hand may t h deep at small = by_found (Exchanged s t (slot_of p.number + 1) (marked (mark_of p.number) (Some x)) id (RefusesOr p d x (slice_index t.words (slot_of p.number + 1)))) (slice_index t.words (slot_of p.number + 1)) (marked (mark_of p.number) None) hit miss
    where
      n : ℕ
      n = slice_index t.words (slot_of p.number + 1)

      r : ℕ
      r = p.number

      w : World
      w = world_of s h.account.trace

      k : AreAt s t h p d
      k = are_at s t h id p d at

      miss : n ≢ marked (mark_of p.number) None → Exchanged s t (slot_of p.number + 1) (marked (mark_of p.number) (Some x)) id (RefusesOr p d x n) false
      miss ne = let y = joined_misses_decision t h id p d at hand in (Pass y.0 ∷ Desk y.1 ∷ [], keeps, tt, y.2, (refl, (record { pass = y.0; desk = y.1 }, refl, (λ c e. (w.decision r, k.word, y.3)))))

      hit : n ≡ marked (mark_of p.number) None → Exchanged s t (slot_of p.number + 1) (marked (mark_of p.number) (Some x)) id (RefusesOr p d x n) true
      hit e =
          let i = is_early s p d w k.request hand in
          let none : w.decision r ≡ None = decision_same (mark_of r) (w.decision r) None (sym k.word ∙ e) in
          let y = refusal t h p d k hand x may none in
          let m : Option Move = Some (Decide r x) in
          let next = next_move s OfDesk (Decide r x) h.account.trace h.sound.schedule y.allowed y.other in
          let w' = world_of s (entry OfDesk m ∷ h.account.trace) in
          let here : put w.decision r (Some x) r ≡ Some x = put_here w.decision r (Some x) in
          let u : Knowledge = saw_decision d.knows r (Some x) (entry OfDesk m ∷ h.account.trace) in
          let d' : DeskRecord = served d r (refusing x) u in
          let q : PassRecord = handed_by p (along_told p (Some x) u) in
          let holds = holds_still d.services d.held r (refusing x) i.not_held y.not_held k.desk.holds in
          let ruled = both_step s t h id (slot_of r + 1) (marked (mark_of r) (Some x)) m p q d d' at next
          (λ j ne. (record { stage = refl; decision = put_else w.decision r (Some x) j ne; saw = refl }, elsewhere s t h p d k (refusing x) j ne))
          (packs_decided s h.account t.words w r x h.slots k.holds k.in_slot h.packs)
          (subst (λ b. IsRequest s r q b w') (sym (put_here (service_of d.services) r (refusing x))) (y.request (along_told p (Some x) u)))
          (decision_known s (OfPass r) OfDesk p.knows h.account.trace m k.known next r (Some x) (λ _. here))
          (decision_known s OfDesk OfDesk d.knows h.account.trace m k.desk.known next r (Some x) (λ _. here))
          holds.held_is holds.is_held refl refl in
          let says : JoinedExchangesDecision x (record { pass = p; desk = d }) (record { pass = q; desk = d' }) = (u, decision_told s OfDesk d.knows h.account.trace m k.desk.known next r None (Some x) none (λ _. here), agree s t h p d k m u next refl, refl) in
          (Pass q ∷ Desk d' ∷ [], keeps, tt, ruled, (refl, (record { pass = q; desk = d' }, refl, λ c same. (None, e, subst (λ c. JoinedExchangesDecision c (record { pass = p; desk = d }) (record { pass = q; desk = d' })) (some_same x c (decision_same (mark_of r) (Some x) (Some c) same)) says))))

  -- a load of the request's word, with which nothing is handed over
  pub joined_loads_decision : (id slots : ℕ) (p : PassRecord) (d : DeskRecord) → Allows (IsRuled s) slots id (Pass p ∷ Desk d ∷ [], []) (slot_of p.number + 1) (λ n. n) (ByBoth (OnDecision both_mark JoinedLoadsDecision) (Pass p ∷ Desk d ∷ [], []))
  joined_loads_decision id slots p d t h deep at small =
      let w = world_of s h.account.trace in
      let r = p.number in
      let k = are_at s t h id p d at in
      let a : Service = service d r in
      let x = w.decision r in
      let next = next_load s OfDesk h.account.trace h.sound.schedule in
      let u : Knowledge = saw_decision d.knows r x (entry OfDesk None ∷ h.account.trace) in
      let d' : DeskRecord = record d { knows = u } in
      let v : Knowledge = along_told p x u in
      let q : PassRecord = record p { no_room = false; left = p.left || has_left a; knows = v } in (
        Pass q ∷ Desk d' ∷ [],
        keeps,
        tt,
        both_step s t h id (slot_of r + 1) (slice_index t.words (slot_of r + 1)) None p q d d' at next
            (λ j ne. (record { stage = refl; decision = refl; saw = refl }, ap (λ (o : DeskRecord). service o j) (sym k.desk.record_is)))
            (packs_same s h.account.current t.words w w (slot_of r + 1) refl (λ _. refl) h.packs)
            (record {
              own = record {
                state = state_same p.state p q refl refl refl k.request.own.state;
                wrote = k.request.own.wrote;
                handed = λ e. handed_heard p q refl refl refl refl (told_along t h p d k x u (λ _. refl)) (k.request.own.handed e);
                queues = k.request.own.queues;
                no_room = λ e. absurd (cc);
              };
              tied = record { number = refl; handed = k.request.tied.handed; entered = k.request.tied.entered; left = heard_left p.left a k.request.tied.left };
              stage = k.request.stage;
              saw = k.request.saw;
              word = k.request.word;
              closed = k.request.closed;
            })
            (decision_known s (OfPass r) OfDesk p.knows h.account.trace None k.known next r x (λ _. refl))
            (decision_known s OfDesk OfDesk d.knows h.account.trace None k.desk.known next r x (λ _. refl))
            k.desk.holds.held_is k.desk.holds.is_held refl refl,
        (
          refl,
          (
            record { pass = q; desk = d' },
            refl,
            (
              x,
              k.word,
              (
                u,
                decision_told s OfDesk d.knows h.account.trace None k.desk.known next r x x refl (λ _. refl),
                desk_may_find s r p a w k.request,
                agree s t h p d k None u next refl,
                k.known.told r,
                refl,
                λ not_over is. subst (λ z. (world_of z h.account.trace).stage r ≡ Stands) (sym k.known.shape_is) (stands s r p a w k.request not_over is),
              ),
            ),
          ),
        ),
      )
