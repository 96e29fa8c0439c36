-- A Pass and the Desk at one seat, and the lines on a request that is handed over.
use Rattle.std.proofs.Common.{◌≡◌, ◌≢◌, ◌⊎◌, ℕ, ◌+◌, ◌<◌, true, false, [], ◌∷◌, length, Option, Some, None, sym, refl, ap, ◌∙◌, subst, inl, inr, ⊎_elim}
use mathlib.Core.Option.{some}
use lib.ListN.{get_elem?}
use Rattle.apf_words.specs.declared.decision.Decision.TheVariants.{QueueFull, Closed}
use Rattle.apf_model.specs.declared.moves.Stage.TheVariants.{Away, Waits}
use Rattle.apf_model.specs.World.{World}
use Rattle.apf_gate.specs.declared.record.Shape.{Shape}
use Rattle.apf_gate.specs.declared.record.State.TheVariants.{InLine}
use Rattle.apf_gate.specs.declared.record.Actor.TheVariants.{OfPass, OfDesk}
use Rattle.apf_gate.specs.declared.record.Knowledge.{Knowledge}
use Rattle.apf_gate.specs.declared.record.Service.{Service}
use Rattle.apf_gate.specs.declared.record.Service.TheVariants.{NotHanded, Handed, RefusedFull, RefusedClosed, Waiting, Held, Settled, Left}
use Rattle.apf_gate.specs.declared.record.PassRecord.{PassRecord}
use Rattle.apf_gate.specs.declared.record.DeskRecord.{DeskRecord}
use Rattle.apf_gate.specs.declared.record.Record.TheVariants.{Pass, Desk}
use Rattle.apf_gate.specs.Records.{service, service_of}
use Rattle.apf_gate.specs.Traces.{world_of, entry, GoesOn}
use Rattle.apf_gate.specs.Requests.{IsRequest, IsPassRecord, IsHanded, IsState, MayHold, stage_of, stage_of_pass, was_handed, has_entered, written, WaitsAlone}
use Rattle.apf_words.specs.Codes.{marked}
use Rattle.std.specs.Prelude.{slice_index}
use Rattle.apf_gate.specs.Slots.{slot_of, mark_of}
use Rattle.apf_gate.specs.Account.{HoldsSlot, IsKnown}
use Rattle.apf_gate.proofs.Packing.{own_word}
use Rattle.apf_gate.specs.Rule.{IsRuled}
use Rattle.apf_gate.specs.JoinedSteps.{handed_over, handed_by, Agree}
use Rattle.apf_gate.specs.DeskCalls.{MayHand}
use Rattle.apf_gate.proofs.Requests.{state_same, in_state, full_refused, handed_or_not}
use Rattle.apf_gate.proofs.Views.{Table}
use Rattle.apf_gate.proofs.DeskLines.{IsAt, is_at_desk}
use Rattle.apf_gate.proofs.Later.{IsNext}
use Rattle.apf_gate.proofs.Knowing.{ahead}
use Rattle.apf_model.specs.declared.moves.Move.{Move}
use Rattle.apf_gate.proofs.Puts.{put_else}
use Rattle.apf_gate.proofs.Slots.{busy_holds}

-- a request that never entered and was not refused as full
early : (a : Service) → has_entered a ≡ false → a ≢ RefusedFull → (a ≡ NotHanded) ⊎ ((a ≡ Handed) ⊎ (a ≡ RefusedClosed))
early NotHanded e ne = inl refl
early Handed e ne = inr (inl refl)
early RefusedFull e ne = absurd (ne refl)
early RefusedClosed e ne = inr (inr refl)
early Waiting e ne = absurd (cc)
early Held e ne = absurd (cc)
early Settled e ne = absurd (cc)
early Left e ne = absurd (cc)

module _ (s : Shape) where
  -- what the rule says of the Pass and the Desk at one seat
  pub record AreAt (t : Table) (h : IsRuled s t) (p : PassRecord) (d : DeskRecord) : Type 0 where
    pub inside : p.number < length s.widths
    pub holds : HoldsSlot h.account p.number
    pub in_slot : slot_of p.number < s.slots
    pub word : slice_index t.words (slot_of p.number + 1) ≡ marked (mark_of p.number) ((world_of s h.account.trace).decision p.number)
    pub request : IsRequest s p.number p (service d p.number) (world_of s h.account.trace)
    pub known : IsKnown s (OfPass p.number) p.knows h.account.trace
    pub desk : IsAt s t h d

  pub are_at : (t : Table) (h : IsRuled s t) (id : ℕ) (p : PassRecord) (d : DeskRecord) → get_elem? t.views id ≡ some (Pass p ∷ Desk d ∷ []) → AreAt t h p d
  are_at t h id p d at =
      let v = h.views id (Pass p ∷ Desk d ∷ []) at in
      let f = v.0.0.1 in
      let k = is_at_desk s t h d v.0.1.0.1 in record {
        inside = f.0;
        holds = f.2;
        in_slot = h.slots.inside p.number f.0 f.2;
        word = own_word s t h p.number f.0 f.2;
        request = subst (λ (o : PassRecord). IsRequest s p.number o (service d p.number) (world_of s h.account.trace)) f.1 (k.request p.number f.0);
        known = subst (λ (o : PassRecord). IsKnown s (OfPass p.number) o.knows h.account.trace) f.1 (h.sound.pass_knows p.number f.0);
        desk = k;
      }

  -- a request in line that may be handed over
  pub record IsEarly (p : PassRecord) (a : Service) (w : World) : Type 0 where
    pub in_line : p.state ≡ InLine
    pub not_entered : p.entered ≡ false
    pub away : w.stage p.number ≡ Away
    pub took_none : p.took ≡ false
    pub asked : p.asked ≡ true
    pub wrote_none : p.wrote ≡ None
    pub handed : was_handed (handed_over a) ≡ true
    pub entered : has_entered (handed_over a) ≡ false
    pub stage : stage_of p (handed_over a) ≡ Away
    pub same_written : written p (handed_over a) ≡ written p a
    pub not_held : a ≢ Held
    pub not_held_then : handed_over a ≢ Held
    pub not_left : a ≢ Left
    pub not_full : w.decision p.number ≢ Some QueueFull
    -- an undecided request, and one of an open level, was not refused as closed
    pub unwritten : (written p a ≡ Some Closed → ⊥) → written p a ≡ None

  pub is_early : (p : PassRecord) (d : DeskRecord) (w : World) → IsRequest s p.number p (service d p.number) w → MayHand (record { pass = p; desk = d }) → IsEarly p (service d p.number) w
  is_early p d w k may = ⊎_elim
      (λ (e : service d p.number ≡ NotHanded). there NotHanded e refl refl refl refl (sym (line k may).2) (λ x. cc) (λ x. cc) (λ x. cc) (λ x. cc) (λ x. (line k may).2))
      (λ (o : (service d p.number ≡ Handed) ⊎ (service d p.number ≡ RefusedClosed)). ⊎_elim
      (λ (e : service d p.number ≡ Handed). there Handed e refl refl refl refl refl (λ x. cc) (λ x. cc) (λ x. cc) (λ x. cc) (λ x. refl))
      (λ (e : service d p.number ≡ RefusedClosed). there RefusedClosed e refl refl refl refl refl (λ x. cc) (λ x. cc) (λ x. cc) (λ x. cc) (λ x. absurd (x refl)))
      o)
      (early (service d p.number) (sym k.tied.entered ∙ may.not_entered) may.not_full)
    where
      line : IsRequest s p.number p (service d p.number) w → MayHand (record { pass = p; desk = d }) → IsState InLine p
      line k may = in_state s p.number p (service d p.number) w k InLine may.in_line

      not_full : w.decision p.number ≢ Some QueueFull
      not_full is = full_refused s p.number p (service d p.number) w k is may.not_full

      there : (b : Service) → service d p.number ≡ b → was_handed (handed_over b) ≡ true → has_entered (handed_over b) ≡ false → stage_of p (handed_over b) ≡ stage_of_pass p.state p.took → stage_of p b ≡ stage_of_pass p.state p.took → written p (handed_over b) ≡ written p b
          → b ≢ Held → handed_over b ≢ Held → b ≢ Left → b ≢ RefusedFull → ((written p b ≡ Some Closed → ⊥) → written p b ≡ None) → IsEarly p (service d p.number) w
      there b e handed entered stage_then stage wrote held held_then left full unwritten =
          let f = line k may in
          let is_away : stage_of_pass p.state p.took ≡ Away = ap (λ x. stage_of_pass x p.took) may.in_line in
          subst (λ a. IsEarly p a w) (sym e) (record {
            in_line = may.in_line;
            not_entered = may.not_entered;
            away = k.stage ∙ (ap (stage_of p) e ∙ (stage ∙ is_away));
            took_none = f.0;
            asked = f.1;
            wrote_none = f.2;
            handed = handed;
            entered = entered;
            stage = stage_then ∙ is_away;
            same_written = wrote;
            not_held = held;
            not_held_then = held_then;
            not_left = left;
            not_full = not_full;
            unwritten = unwritten;
          })

  -- the record of a Pass that handed its request over
  pub is_handed_by : (p : PassRecord) (a : Service) (w : World) (q : PassRecord) → IsEarly p a w → q.asked ≡ p.asked → q.took ≡ p.took → q.wrote ≡ p.wrote → q.state ≡ p.state → IsHanded q
  is_handed_by p a w q i asked took wrote state = record {
    asked = asked ∙ i.asked;
    took_none = took ∙ i.took_none;
    wrote_none = wrote ∙ i.wrote_none;
    over = λ e. absurd (let x = sym (state ∙ i.in_line) ∙ e in cc);
  }

  pub own_handed : (p : PassRecord) (a : Service) (w : World) (u : Knowledge) → IsRequest s p.number p a w → IsEarly p a w → IsPassRecord s (handed_by p u)
  own_handed p a w u k i = record {
    state = state_same p.state p (handed_by p u) refl refl refl k.own.state;
    wrote = k.own.wrote;
    handed = λ _. is_handed_by p a w (handed_by p u) i refl refl refl refl;
    queues = k.own.queues;
    no_room = λ e. absurd (cc);
  }

  -- the lines on a request that is handed over
  pub request_handed : (p : PassRecord) (a : Service) (w : World) (u : Knowledge) → IsRequest s p.number p a w → IsEarly p a w → IsRequest s p.number (handed_by p u) (handed_over a) w
  request_handed p a w u k i = record {
    own = own_handed p a w u k i;
    tied = record { number = refl; handed = sym i.handed; entered = i.not_entered ∙ sym i.entered; left = λ e. ap handed_over (k.tied.left e) };
    stage = i.away ∙ sym i.stage;
    saw = k.saw;
    word = subst (λ x. MayHold x (w.decision p.number)) (sym i.same_written) k.word;
    closed = λ e. k.closed (sym i.same_written ∙ e);
  }

  -- who waits holds its slot
  waits_alone : (t : Table) (h : IsRuled s t) (p : PassRecord) (d : DeskRecord) → AreAt t h p d → WaitsAlone s d p.number
  unfolding WaitsAlone
  waits_alone t h p d k other inside same waits =
      let holds = busy_holds s h.account h.slots other Waits inside ((k.desk.request other inside).stage ∙ ap (stage_of (h.account.pass other)) waits) (λ e. cc) (λ e. cc) in
      sym holds ∙ (ap h.account.current same ∙ k.holds)

  -- what the two tell each other
  pub agree : (t : Table) (h : IsRuled s t) (p : PassRecord) (d : DeskRecord) (k : AreAt t h p d) (m : Option Move) (u : Knowledge) → IsNext s OfDesk m h.account.trace → u.trace ≡ entry OfDesk m ∷ h.account.trace → Agree (record { pass = p; desk = d }) u
  agree t h p d k m u next is = record {
    trace = subst (λ es. GoesOn es (OfPass p.number) p.knows.trace) (sym is) (ahead s (OfPass p.number) OfDesk p.knows h.account.trace m k.known next (λ z. cc));
    tied = k.request.tied;
    not_handed = λ e. ⊎_elim (λ (x : service d p.number ≡ NotHanded). x) (λ (x : was_handed (service d p.number) ≡ true). absurd (let z = sym e ∙ (k.request.tied.handed ∙ x) in cc)) (handed_or_not (service d p.number));
    alone = subst (λ (x : Shape). WaitsAlone x d p.number) (sym k.known.shape_is) (waits_alone t h p d k);
  }

  -- a service that changes is the Desk's alone, and of this request
  pub elsewhere : (t : Table) (h : IsRuled s t) (p : PassRecord) (d : DeskRecord) → AreAt t h p d → (a : Service) (j : ℕ) → j ≢ p.number → service_of ((p.number, a) ∷ d.services) j ≡ service h.account.desk j
  elsewhere t h p d k a j ne = put_else (service_of d.services) p.number a j ne ∙ ap (λ (o : DeskRecord). service o j) (sym k.desk.record_is)
