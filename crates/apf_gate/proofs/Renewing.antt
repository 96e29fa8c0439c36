-- A Pass leaves its request and begins the next one of its slot: the step keeps the rule.
use Rattle.std.proofs.Common.{◌≡◌, ◌≢◌, ◌⊎◌, ℕ, ◌+◌, ◌*◌, ◌<◌, ◌≤◌, Bool, true, false, List, [], ◌∷◌, ◌++◌, length, Option, Some, None, sym, refl, ap, ◌∙◌, subst, inl, inr, ⊎_elim, arith}
use Rattle.std.specs.Prelude.{slice_index}
use mathlib.Core.Logic.{dite}
use native.Mathlib.Decide.{ℕ_discrete}
use Rattle.std.proofs.Math.Decide.{dec_lt}
use Rattle.atomic_table.specs.Table.{keeps, Allows}
use Rattle.apf_words.specs.Codes.{marked}
use Rattle.apf_model.specs.declared.moves.Stage.TheVariants.{Away, Gone}
use Rattle.apf_model.specs.World.{World, put}
use Rattle.apf_model.specs.Schedule.{IsSchedule}
use Rattle.apf_gate.specs.declared.record.Shape.{Shape}
use Rattle.apf_gate.specs.declared.record.Actor.{Actor}
use Rattle.apf_gate.specs.declared.record.Actor.TheVariants.{OfPass, OfDesk, OfStation}
use Rattle.apf_gate.specs.declared.record.Asked.{Asked}
use Rattle.apf_gate.specs.declared.record.Entry.{Entry}
use Rattle.apf_gate.specs.declared.record.Knowledge.{Knowledge}
use Rattle.apf_gate.specs.declared.record.State.TheVariants.{Fresh, InLine, Over}
use Rattle.apf_gate.specs.declared.record.Service.{Service}
use Rattle.apf_gate.specs.declared.record.Service.TheVariants.{NotHanded, Handed, RefusedFull, RefusedClosed, Waiting, Held, Settled, Left}
use Rattle.apf_gate.specs.declared.record.PassRecord.{PassRecord}
use Rattle.apf_gate.specs.declared.record.Record.TheVariants.{Pass}
use Rattle.apf_gate.specs.Slots.{slot_of, mark_of}
use Rattle.apf_gate.specs.Records.{told_of, told_own, told_more, service, saw_decision, new_pass}
use Rattle.apf_gate.specs.Traces.{opening_of, renewal, moves, world_of, NoneOf, GoesOn}
use Rattle.apf_words.specs.declared.decision.Decision.{Decision}
use Rattle.apf_words.specs.declared.decision.Decision.TheVariants.{Execute, Cancelled}
use Rattle.apf_gate.specs.Requests.{IsRequest, MayHold, written, stage_of, stage_of_pass, stage_of_settled, was_handed, has_entered}
use Rattle.apf_gate.specs.Account.{Account, HoldsSlot, IsIdle, HeldBefore, IsNoted, AreInOrder, AreSlots, IsKnown}
use Rattle.apf_gate.specs.Rule.{IsRuled}
use Rattle.apf_gate.specs.Steps.{ByPass, OnDecision}
use Rattle.apf_gate.specs.PassSteps.{own_mark, IsNextRequest, IsOutOfLine, MayRenew, PassRenews}
use Rattle.apf_gate.proofs.Puts.{put_here, put_else}
use Rattle.apf_gate.proofs.Later.{next_load, other_pass, not_longer}
use Rattle.apf_gate.proofs.Requests.{is_fresh, is_handed}
use Rattle.apf_gate.proofs.Views.{kept}
use Rattle.apf_gate.proofs.Sound.{put_each}
use Rattle.apf_gate.proofs.Packing.{packs_renewed}
use Rattle.apf_gate.proofs.Knowing.{decision_known, decision_told}
use Rattle.apf_gate.proofs.PassLines.{is_at}
use Rattle.std.proofs.lemmas.List.{append-nil}

-- where a request is that its Pass may leave
idle_over : (took : Bool) → (stage_of_pass Over took ≡ Away) ⊎ (stage_of_pass Over took ≡ Gone)
idle_over true = inr refl
idle_over false = inl refl

none_before : (who : Actor) (newer older : List Entry) → NoneOf who (newer ++ older) → NoneOf who newer
none_before who [] older k = tt
none_before who (x ∷ newer) older k = (k.0, none_before who newer older k.1)

-- no two Passes have one name
same_pass : (r j : ℕ) → OfPass r ≡ OfPass j → r ≡ j
same_pass r j e = ap number_of e
  where
    number_of : Actor → ℕ
    number_of (OfPass n) = n
    number_of OfDesk = 0
    number_of (OfStation k) = 0

held_below : (i c e : ℕ) (past : List (ℕ × Decision)) → c ≤ e → HeldBefore i c past → HeldBefore i e past
held_below i c e [] l k = tt
held_below i c e (latest ∷ past) l k = (let b = k.0 in omega arith, k.1, k.2)

-- nothing is noted of a request that did not hold the slot before
none_noted : (i c : ℕ) (past : List (ℕ × Decision)) (r : ℕ) → HeldBefore i c past → c ≤ r → told_of past r ≡ None
none_noted i c [] r k l = refl
none_noted i c (latest ∷ past) r k l = put_else (told_of past) latest.0 (Some latest.1) r (λ e. let b = k.0 in omega arith) ∙ none_noted i latest.0 past r k.2 (let b = k.0 in omega arith)

-- the request r is noted as the next one begins, where nobody came between the two
noted_more : (n : ℕ) (w : World) (r next : ℕ) (past : List (ℕ × Decision)) → r < next → IsNoted n w (slot_of r) r past → ((j : ℕ) → j < n → slot_of j ≡ slot_of r → r < j → j < next → w.decision j ≡ None)
    → (found : Option Decision) → w.decision r ≡ found → IsNoted n w (slot_of r) next (told_more past r found)
noted_more n w r next past below k between None is = record {
  in_order = held_below (slot_of r) r next past (omega arith) k.in_order;
  says = λ j inside e l. dite (dec_lt j r)
      (λ m. k.says j inside e m)
      (λ m. none_noted (slot_of r) r past j k.in_order (omega arith) ∙ sym (dite (ℕ_discrete j r) (λ y. ap w.decision y ∙ is) (λ ne. between j inside e (omega arith) l)));
}
noted_more n w r next past below k between (Some d) is = record {
  in_order = (below, refl, k.in_order);
  says = λ j inside e l. dite (ℕ_discrete j r)
      (λ y. ap (put (told_of past) r (Some d)) y ∙ (put_here (told_of past) r (Some d) ∙ (sym is ∙ ap w.decision (sym y))))
      (λ ne. put_else (told_of past) r (Some d) j ne ∙ dite (dec_lt j r)
      (λ m. k.says j inside e m)
      (λ m. none_noted (slot_of r) r past j k.in_order (omega arith) ∙ sym (between j inside e (omega arith) l)));
}

module _ (s : Shape) where
  -- a Pass that may leave its request neither waits nor stands
  may_leave : (p : PassRecord) (a : Service) (w : World) → IsRequest s p.number p a w → (told_own p ≢ None → w.decision p.number ≡ told_own p) → MayRenew p → IsIdle w p.number
  may_leave p a w k known may = ⊎_elim
      (λ (e : p.state ≡ Fresh). inl (is_fresh s p.number p a w k e).away)
      (λ (m : (told_own p ≢ None) × ((p.state ≡ Over) ⊎ IsOutOfLine p)). ⊎_elim
      (λ (e : p.state ≡ Over). over a refl e)
      (λ (e : IsOutOfLine p). ⊎_elim
      (λ (n : p.entered ≡ false). line a refl e.0 (sym k.tied.entered ∙ n))
      (λ (n : p.left ≡ true). inr (k.stage ∙ ap (stage_of p) (k.tied.left n))) e.1) m.1)
      may
    where
      -- a request that is over and was handed to the Desk is executed, so that its word says
      busy_over : (b : Service) → a ≡ b → was_handed b ≡ true → written p b ≡ None → p.state ≡ Over → ⊥
      busy_over b is handed wrote e =
          let told = (is_handed s p.number p a w k (ap was_handed is ∙ handed)).over e in
          let says : w.decision p.number ≡ Some Execute = known (λ none. let z = sym told ∙ none in cc) ∙ told in
          let word : MayHold None (w.decision p.number) = subst (λ x. MayHold x (w.decision p.number)) (ap (written p) is ∙ wrote) k.word in
          ⊎_elim (λ (x : w.decision p.number ≡ None). let z = sym x ∙ says in cc) (λ (x : w.decision p.number ≡ Some Cancelled). let z = sym x ∙ says in cc) word

      by_pass : (b : Service) → a ≡ b → stage_of p b ≡ stage_of_pass p.state p.took → p.state ≡ Over → IsIdle w p.number
      by_pass b is same over = ⊎_elim
          (λ (e : stage_of_pass Over p.took ≡ Away). inl (k.stage ∙ (ap (stage_of p) is ∙ (same ∙ (ap (λ x. stage_of_pass x p.took) over ∙ e)))))
          (λ (e : stage_of_pass Over p.took ≡ Gone). inr (k.stage ∙ (ap (stage_of p) is ∙ (same ∙ (ap (λ x. stage_of_pass x p.took) over ∙ e)))))
          (idle_over p.took)

      over : (b : Service) → a ≡ b → p.state ≡ Over → IsIdle w p.number
      over NotHanded is e = by_pass NotHanded is refl e
      over Handed is e = by_pass Handed is refl e
      over RefusedFull is e = by_pass RefusedFull is refl e
      over RefusedClosed is e = by_pass RefusedClosed is refl e
      over Settled is e = inr (k.stage ∙ (ap (stage_of p) is ∙ ap stage_of_settled e))
      over Left is e = inr (k.stage ∙ ap (stage_of p) is)
      over Waiting is e = absurd (busy_over Waiting is refl refl e)
      over Held is e = absurd (busy_over Held is refl refl e)

      line : (b : Service) → a ≡ b → p.state ≡ InLine → has_entered a ≡ false → IsIdle w p.number
      line NotHanded is e n = inl (k.stage ∙ (ap (stage_of p) is ∙ ap (λ x. stage_of_pass x p.took) e))
      line Handed is e n = inl (k.stage ∙ (ap (stage_of p) is ∙ ap (λ x. stage_of_pass x p.took) e))
      line RefusedFull is e n = inl (k.stage ∙ (ap (stage_of p) is ∙ ap (λ x. stage_of_pass x p.took) e))
      line RefusedClosed is e n = inl (k.stage ∙ (ap (stage_of p) is ∙ ap (λ x. stage_of_pass x p.took) e))
      line Waiting is e n = absurd (let z = sym (ap has_entered is) ∙ n in cc)
      line Held is e n = absurd (let z = sym (ap has_entered is) ∙ n in cc)
      line Settled is e n = absurd (let z = sym (ap has_entered is) ∙ n in cc)
      line Left is e n = absurd (let z = sym (ap has_entered is) ∙ n in cc)

  -- the account after the step: the old record stays as it is, and the new one is kept at the same seat
  abbrev renewed : Account → ℕ → Asked → PassRecord → Account
  renewed g next ask q = record g { trace = renewal next ask ∷ g.trace; pass = put g.pass next q; current = put g.current (slot_of next) next }

  -- the lines on slots as one is handed on
  slots_renewed : (g : Account) (r next : ℕ) (ask : Asked) (q : PassRecord) → AreSlots s g → HoldsSlot g r → slot_of next ≡ slot_of r → r < next → next < length s.widths → slot_of r < s.slots
      → IsIdle (world_of s g.trace) r → ((world_of s g.trace).decision r ≢ None) ⊎ ((g.pass r).state ≡ Fresh)
      → q.past ≡ told_more (g.pass r).past r ((world_of s g.trace).decision r)
      → ((j : ℕ) → j < length s.widths → length (g.pass j).knows.trace ≤ length g.trace) → q.knows.trace ≡ renewal next ask ∷ g.trace
      → AreInOrder s (renewal next ask ∷ g.trace) → AreSlots s (renewed g next ask q)
  slots_renewed g r next ask q k holds same below inside in_slot idle over past all saw order = record {
    current = λ i l. dite (ℕ_discrete i (slot_of next))
        (λ e. subst (λ j. (put g.current (slot_of next) next j < length s.widths) × (slot_of (put g.current (slot_of next) next j) ≡ j)) (sym e)
        (subst (λ c. (c < length s.widths) × (slot_of c ≡ slot_of next)) (sym (put_here g.current (slot_of next) next)) (inside, refl)))
        (λ ne. subst (λ c. (c < length s.widths) × (slot_of c ≡ i)) (sym (put_else g.current (slot_of next) next i ne)) (k.current i l));
    inside = λ j l e. dite (ℕ_discrete (slot_of j) (slot_of next))
        (λ y. subst (λ x. x < s.slots) (sym (y ∙ same)) in_slot)
        (λ ne. k.inside j l (sym (elsewhere j ne) ∙ e));
    idle = λ j l not. dite (ℕ_discrete j r)
        (λ y. subst (IsIdle (world_of s g.trace)) (sym y) idle)
        (λ other. k.idle j l (λ e. dite (ℕ_discrete (slot_of j) (slot_of next))
        (λ y. other (sym e ∙ (ap g.current (y ∙ same) ∙ holds)))
        (λ ne. not (elsewhere j ne ∙ e))));
    later = λ j l before. dite (ℕ_discrete (slot_of j) (slot_of next))
        (λ y. let at : put g.current (slot_of next) next (slot_of j) ≡ next = here j y in
        let above : next < j = omega arith in
        let was : g.current (slot_of j) ≡ r = ap g.current (y ∙ same) ∙ holds in
        let h = k.later j l (omega arith) in
        (put_else g.pass next q j (λ e. omega arith) ∙ h.0, h.1))
        (λ ne. let at = elsewhere j ne in
        let h = k.later j l (omega arith) in
        (put_else g.pass next q j (λ e. ne (ap slot_of e)) ∙ h.0, h.1));
    past = λ j l after. dite (ℕ_discrete (slot_of j) (slot_of next))
        (λ y. let at : put g.current (slot_of next) next (slot_of j) ≡ next = here j y in
        let lower : j < next = omega arith in
        let was : g.current (slot_of j) ≡ r = ap g.current (y ∙ same) ∙ holds in
        let unmoved : put g.pass next q j ≡ g.pass j = put_else g.pass next q j (λ e. omega arith) in
        dite (ℕ_discrete j r)
        (λ e. ended j unmoved (subst (λ x. ((world_of s g.trace).decision x ≢ None) ⊎ ((g.pass x).state ≡ Fresh)) (sym e) over))
        (λ other. dite (dec_lt j r)
        (λ m. ended j unmoved (k.past j l (omega arith)))
        (λ m. let h = k.later j l (omega arith) in inr (ap (λ (p : PassRecord). p.state) (unmoved ∙ h.0)))))
        (λ ne. let at = elsewhere j ne in ended j (put_else g.pass next q j (λ e. ne (ap slot_of e))) (k.past j l (omega arith)));
    noted = λ i l. dite (ℕ_discrete i (slot_of next))
        (λ e. subst (λ j. IsNoted (length s.widths) (world_of s g.trace) j (put g.current (slot_of next) next j) (put g.pass next q (put g.current (slot_of next) next j)).past) (sym e)
        (subst (λ c. IsNoted (length s.widths) (world_of s g.trace) (slot_of next) c (put g.pass next q c).past) (sym (put_here g.current (slot_of next) next))
        (subst (λ xs. IsNoted (length s.widths) (world_of s g.trace) (slot_of next) next xs) (sym (ap (λ (o : PassRecord). o.past) (put_here g.pass next q))) now_noted)))
        (λ ne. subst (λ c. IsNoted (length s.widths) (world_of s g.trace) i c (put g.pass next q c).past) (sym (put_else g.current (slot_of next) next i ne))
        (subst (λ xs. IsNoted (length s.widths) (world_of s g.trace) i (g.current i) xs) (sym (ap (λ (o : PassRecord). o.past) (put_else g.pass next q (g.current i) (λ e. ne (sym (k.current i l).1 ∙ ap slot_of e))))) (k.noted i l)));
    nobody = λ j l beyond. k.nobody j l beyond;
    newest = λ j e. subst (HoldsSlot (renewed g next ask q)) (same_pass next j e) (put_here g.current (slot_of next) next);
    older = λ j l small not. dite (ℕ_discrete (slot_of j) (slot_of next))
        (λ y. let at : put g.current (slot_of next) next (slot_of j) ≡ next = here j y in
        let mine = ap (λ (o : PassRecord). length o.knows.trace) (put_else g.pass next q j (λ e. not (at ∙ sym e))) in
        let own = ap (λ c. length (put g.pass next q c).knows.trace) at in
        let now = ap (λ (o : PassRecord). length o.knows.trace) (put_here g.pass next q) in
        let whole = ap (λ (x : List Entry). length x) saw in
        let z = all j l in omega arith)
        (λ ne. let at = elsewhere j ne in
        let mine = ap (λ (o : PassRecord). length o.knows.trace) (put_else g.pass next q j (λ e. ne (ap slot_of e))) in
        let own = ap (λ c. length (put g.pass next q c).knows.trace) at in
        let apart : g.current (slot_of j) ≢ next = (λ e. ne (sym (k.current (slot_of j) small).1 ∙ ap slot_of e)) in
        let now = ap (λ (o : PassRecord). length o.knows.trace) (put_else g.pass next q (g.current (slot_of j)) apart) in
        let z = k.older j l small (λ e. not (at ∙ e)) in omega arith);
    order = order;
    absent = λ j l beyond. ap (λ (o : PassRecord). o.knows.trace) (put_else g.pass next q j (λ e. let z = ap slot_of e in omega arith)) ∙ k.absent j l beyond;
  }
    where
      -- what the Pass noted, with its request before
      was_noted : IsNoted (length s.widths) (world_of s g.trace) (slot_of r) r (g.pass r).past
      was_noted = subst (λ c. IsNoted (length s.widths) (world_of s g.trace) (slot_of r) c (g.pass c).past) holds (k.noted (slot_of r) in_slot)

      -- nobody came between the two
      between_none : (j : ℕ) → j < length s.widths → slot_of j ≡ slot_of r → r < j → j < next → (world_of s g.trace).decision j ≡ None
      between_none j l e after before = (k.later j l (let was : g.current (slot_of j) ≡ r = ap g.current e ∙ holds in omega arith)).1

      now_noted : IsNoted (length s.widths) (world_of s g.trace) (slot_of next) next q.past
      now_noted = subst (λ xs. IsNoted (length s.widths) (world_of s g.trace) (slot_of next) next xs) (sym past) (subst (λ i. IsNoted (length s.widths) (world_of s g.trace) i next (told_more (g.pass r).past r ((world_of s g.trace).decision r))) (sym same)
          (noted_more (length s.widths) (world_of s g.trace) r next (g.pass r).past below was_noted between_none ((world_of s g.trace).decision r) refl))

      elsewhere : (j : ℕ) → slot_of j ≢ slot_of next → put g.current (slot_of next) next (slot_of j) ≡ g.current (slot_of j)
      elsewhere j ne = put_else g.current (slot_of next) next (slot_of j) ne

      here : (j : ℕ) → slot_of j ≡ slot_of next → put g.current (slot_of next) next (slot_of j) ≡ next
      here j y = ap (put g.current (slot_of next) next) y ∙ put_here g.current (slot_of next) next

      ended : (j : ℕ) → put g.pass next q j ≡ g.pass j → ((world_of s g.trace).decision j ≢ None) ⊎ ((g.pass j).state ≡ Fresh) → ((world_of s g.trace).decision j ≢ None) ⊎ ((put g.pass next q j).state ≡ Fresh)
      ended j same x = ⊎_elim (λ (e : (world_of s g.trace).decision j ≢ None). inl e) (λ (e : (g.pass j).state ≡ Fresh). inr (ap (λ (p : PassRecord). p.state) same ∙ e)) x

  -- the lines on the new request are those on one that nobody did anything with
  request_new : (next : ℕ) (a : Service) (w : World) (past : List (ℕ × Decision)) (u : Knowledge) → IsRequest s next (new_pass s next) a w → IsRequest s next (record (new_pass s next) { past = past; knows = u }) a w
  request_new next a w past u k =
      let q : PassRecord = record (new_pass s next) { past = past; knows = u } in
      let f = is_fresh s next (new_pass s next) a w k refl in record {
        own = record { state = (refl, refl, refl); wrote = tt; handed = λ e. absurd (cc); queues = λ e. absurd (cc); no_room = λ e. absurd (cc) };
        tied = record { number = refl; handed = k.tied.handed; entered = k.tied.entered; left = λ e. absurd (cc) };
        stage = f.away ∙ sym (ap (stage_of q) f.free);
        saw = k.saw;
        word = subst (λ b. MayHold (written q b) (w.decision next)) (sym f.free) (subst (λ b. MayHold (written (new_pass s next) b) (w.decision next)) f.free k.word);
        closed = λ e. absurd (let z = sym (ap (written q) f.free) ∙ e in cc);
      }

  -- another token knows what it knew
  known_renewed : (u : Knowledge) (other : Actor) (next : ℕ) (ask : Asked) (old : List Entry) → OfPass next ≢ other → IsKnown s other u old → IsKnown s other u (renewal next ask ∷ old)
  known_renewed u other next ask old apart k = record {
    shape_is = k.shape_is;
    closed = k.closed;
    told = k.told;
    newer = (renewal next ask ∷ k.newer.0, ap (λ es. renewal next ask ∷ es) k.newer.1, (apart, k.newer.2));
  }

  -- a swap of the slot's word
  pub pass_renews : (id slots : ℕ) (p : PassRecord) (next : ℕ) (ask : Asked) → MayRenew p → IsNextRequest p next → next < length s.widths
      → Allows (IsRuled s) slots id (Pass p ∷ [], []) (slot_of next + 1) (λ _. marked (mark_of next) None) (ByPass (OnDecision own_mark (PassRenews next ask)) (Pass p ∷ [], []))
  pass_renews id slots p next ask may is_next inside t h deep at small =
      let g = h.account in
      let r = p.number in
      let w = world_of s g.trace in
      let k = is_at s t h id p at in
      let es : List Entry = renewal next ask ∷ g.trace in
      let found = w.decision r in
      let u : Knowledge = saw_decision p.knows r found es in
      let past = told_more p.past r found in
      let q : PassRecord = record (new_pass s next) { past = past; knows = u } in
      let q' : PassRecord = record (new_pass p.knows.shape next) { past = past; knows = u } in
      let same_q : q ≡ q' = ap (λ x. record (new_pass x next) { past = past; knows = u }) (sym k.known.shape_is) in
      let g' = renewed g next ask q in
      let was = (h.views id (Pass p ∷ []) at).0.0 in
      let idle = may_leave p (service g.desk r) w k.request (λ some. k.known.told r some) may in
      let below : g.current (slot_of next) < next = (let e = ap g.current is_next.same_slot ∙ k.holds in let l = is_next.later in omega arith) in
      let fresh = h.slots.later next inside below in
      let next_is = next_load s (OfPass next) g.trace h.sound.schedule in
      let new_known = subst (λ (o : PassRecord). IsKnown s (OfPass next) o.knows g.trace) fresh.0 (h.sound.pass_knows next inside) in
      let none_own : NoneOf (OfPass next) g.trace = all_others new_known.newer in
      let over : (w.decision r ≢ None) ⊎ ((g.pass r).state ≡ Fresh) = ⊎_elim
      (λ (e : p.state ≡ Fresh). inr (ap (λ (o : PassRecord). o.state) was.1.1 ∙ e))
      (λ (m : (told_own p ≢ None) × ((p.state ≡ Over) ⊎ IsOutOfLine p)). inl (λ none. m.0 (sym (k.known.told r m.0) ∙ none)))
      may in
      let slots_now = slots_renewed g r next ask q h.slots k.holds is_next.same_slot is_next.later inside k.in_slot idle over (ap (λ (o : PassRecord). told_more o.past r found) (sym was.1.1)) (λ j l. not_longer s (OfPass j) g.trace (g.pass j).knows.trace (h.sound.pass_knows j l).newer) refl
      ((λ j c e same_slot l in_range. no_later j c (same_pass next j e) same_slot l in_range), h.slots.order) in
      let learnt = decision_known s (OfPass r) (OfPass next) p.knows g.trace None k.known next_is r found (λ _. refl) in
      let known_now : IsKnown s (OfPass next) u es = record { shape_is = learnt.shape_is; closed = learnt.closed; told = learnt.told; newer = ([], refl, tt) } in
      let saw = decision_told s (OfPass r) p.knows g.trace None k.known (next_load s (OfPass r) g.trace h.sound.schedule) r found found refl (λ _. refl) in
      let ruled = kept s t h id (slot_of next + 1) (marked (mark_of next) None) (Pass q ∷ []) g'
      (record {
        seat = λ x. refl;
        pass = λ j away. put_else g.pass next q j (λ e. away (ap (λ x. g.seat (2 * slot_of x + 1)) e ∙ (ap (λ x. g.seat (2 * x + 1)) is_next.same_slot ∙ was.0)));
        current = λ i away. put_else g.current (slot_of next) next i (λ e. away (ap (λ x. g.seat (2 * x + 1)) (e ∙ is_next.same_slot) ∙ was.0));
        desk = λ _. refl;
        station = λ _ _. refl;
      })
      (((ap (λ x. g.seat (2 * x + 1)) is_next.same_slot ∙ was.0, (inside, put_here g.pass next q, put_here g.current (slot_of next) next)), tt), (tt, tt))
      (record {
        schedule = next_is.schedule;
        made = (inside, next_is.made, h.sound.made);
        request = λ j l. put_each s (λ i o. IsRequest s i o (service g.desk i) w) g.pass next q
            (request_new next (service g.desk next) w past u (subst (λ (o : PassRecord). IsRequest s next o (service g.desk next) w) fresh.0 (h.sound.request next inside))) j
            (λ ne. h.sound.request j l);
        pass_knows = λ j l. put_each s (λ i o. IsKnown s (OfPass i) o.knows es) g.pass next q known_now j (λ ne. known_renewed (g.pass j).knows (OfPass j) next ask g.trace (other_pass j next ne) (h.sound.pass_knows j l));
        desk_knows = known_renewed g.desk.knows OfDesk next ask g.trace (λ x. cc) h.sound.desk_knows;
        station_knows = λ i. known_renewed (g.station i).knows (OfStation i) next ask g.trace (λ x. cc) (h.sound.station_knows i);
        held = h.sound.held;
        is_held = h.sound.is_held;
      })
      slots_now
      (packs_renewed s g.current t.words w next (subst (λ x. x < s.slots) (sym is_next.same_slot) k.in_slot) fresh.1 h.packs) in (
        Pass q ∷ [],
        keeps,
        tt,
        ruled,
        (
          refl,
          (
            q,
            refl,
            (
              found,
              ap (λ x. slice_index t.words (x + 1)) is_next.same_slot ∙ k.word,
              (
                u,
                record {
                  between = k.known.newer.0;
                  of_others = k.known.newer.2;
                  found_is = (λ i. (world_of (k.known.shape_is i) (k.known.newer.1 i)).decision r);
                  is_new = subst (NoneOf (OfPass next)) (sym k.known.newer.1) none_own;
                  is_undecided = (λ i. (world_of (k.known.shape_is i) (k.known.newer.1 i)).decision next) ∙ fresh.1;
                  is_after = ap (λ x. saw_decision p.knows r found (renewal next ask ∷ x)) (sym k.known.newer.1);
                  is_schedule = subst (λ x. IsSchedule (opening_of x) (moves es)) (sym k.known.shape_is) next_is.schedule;
                  stays = λ some. k.known.told r some;
                  more = record { shape = refl; closed = λ e. e; told = saw.more.told; trace = (renewal next ask ∷ k.known.newer.0, ap (λ l. renewal next ask ∷ l) (sym k.known.newer.1)) };
                },
                same_q,
              ),
            ),
          ),
        ),
      )
    where
      no_later : (j c : ℕ) → next ≡ j → slot_of c ≡ slot_of j → j < c → c < length s.widths → NoneOf (OfPass c) h.account.trace
      no_later j c is same l in_range =
          let own = is_at s t h id p at in
          let here : h.account.current (slot_of c) ≡ p.number = ap h.account.current (same ∙ (ap slot_of (sym is) ∙ is_next.same_slot)) ∙ own.holds in
          let after = is_next.later in
          let fresh = (h.slots.later c in_range (omega arith)).0 in
          let n = subst (λ (o : PassRecord). GoesOn h.account.trace (OfPass c) o.knows.trace) fresh (h.sound.pass_knows c in_range).newer in
          subst (NoneOf (OfPass c)) (sym (append-nil n.0) ∙ n.1) n.2

      all_others : GoesOn h.account.trace (OfPass next) [] → NoneOf (OfPass next) h.account.trace
      all_others n = subst (NoneOf (OfPass next)) (sym (append-nil n.0) ∙ n.1) n.2
