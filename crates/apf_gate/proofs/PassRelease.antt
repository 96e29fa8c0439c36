-- A Pass that gives its seats back keeps the rule.
use Rattle.std.proofs.Common.{◌≡◌, ◌≢◌, ◌⊎◌, ℕ, ◌+◌, ◌-◌, ◌%◌, ◌^◌, ◌<◌, true, false, [], ◌∷◌, Option, Some, None, sym, refl, ap, ◌∙◌, subst, inl, inr, ⊎_elim, arith}
use Rattle.std.specs.Prelude.{slice_index}
use Rattle.atomic_table.specs.Table.{keeps, Allows}
use Rattle.apf_words.specs.Level.{Level, packed, AllBelow20Bits}
use Rattle.apf_words.specs.declared.decision.Decision.{Decision}
use Rattle.apf_words.specs.declared.decision.Decision.TheVariants.{Execute, QueueFull, Closed, Cancelled, ConcurrencyLimit}
use Rattle.apf_model.specs.declared.moves.Move.{Move}
use Rattle.apf_model.specs.declared.moves.Move.TheVariants.{Release}
use Rattle.apf_model.specs.declared.moves.Stage.TheVariants.{Stands, Gone}
use Rattle.apf_model.specs.World.{World, width, seats, waiters}
use Rattle.apf_gate.specs.declared.record.Shape.{Shape}
use Rattle.apf_gate.specs.declared.record.Actor.TheVariants.{OfPass}
use Rattle.apf_gate.specs.declared.record.Knowledge.{Knowledge}
use Rattle.apf_gate.specs.declared.record.State.{State}
use Rattle.apf_gate.specs.declared.record.State.TheVariants.{Fresh, Took, InLine, Over}
use Rattle.apf_gate.specs.declared.record.Service.{Service}
use Rattle.apf_gate.specs.declared.record.Service.TheVariants.{NotHanded, Settled}
use Rattle.apf_gate.specs.declared.record.PassRecord.{PassRecord}
use Rattle.apf_gate.specs.declared.record.Record.TheVariants.{Pass}
use Rattle.apf_gate.specs.Records.{level_of, told_own, own_width, service, saw_level}
use Rattle.apf_gate.specs.Traces.{entry, world_of}
use Rattle.apf_gate.specs.Requests.{IsRequest, IsState, MayHaveWritten, stage_of, stage_of_pass, stage_of_settled, was_handed}
use Rattle.apf_gate.specs.Rule.{IsRuled}
use Rattle.apf_gate.specs.Gauges.{IsShape, AreLaws}
use Rattle.apf_gate.specs.Steps.{ByPass, OnLevel}
use Rattle.apf_gate.specs.PassSteps.{PassSubtractsLevel}
use Rattle.apf_gate.specs.PassCalls.{MayRelease}
use Rattle.apf_gate.proofs.Puts.{put_here, put_else}
use Rattle.apf_gate.proofs.Later.{next_move}
use Rattle.apf_gate.proofs.Requests.{in_state, not_handed, executes}
use Rattle.apf_gate.proofs.Packing.{packs_level, level_in_range, is_small}
use Rattle.apf_gate.proofs.PassLines.{is_at}
use Rattle.apf_gate.proofs.PassLevel.{on_level, same_width}

module _ (s : Shape) (shape : IsShape s) (laws : AreLaws s) where
  -- what is so where a Pass may give its seats back
  record Standing (p : PassRecord) (a : Service) (w : World) : Type 0 where
    stands : w.stage p.number ≡ Stands
    decided : w.decision p.number ≢ None
    gone : (q : PassRecord) → q.state ≡ Over → q.took ≡ p.took → stage_of q a ≡ Gone
    over : (told_own p ≡ Some Execute) ⊎ (p.handed ≡ false)

  standing : (p : PassRecord) (a : Service) (w : World) → IsRequest s p.number p a w → (told_own p ≢ None → w.decision p.number ≡ told_own p) → MayRelease p → Standing p a w
  standing p a w k told may = ⊎_elim took in_line may.stands
    where
      took : (p.state ≡ Took) × (told_own p ≢ None) → Standing p a w
      took m =
          let f = in_state s p.number p a w k Took m.0 in
          let free = not_handed s p.number p a w k f.1 in record {
            stands = k.stage ∙ (ap (stage_of p) free ∙ ap (λ x. stage_of_pass x p.took) m.0);
            decided = λ none. m.1 (sym (told m.1) ∙ none);
            gone = λ q e same. ap (stage_of q) free ∙ (λ i. stage_of_pass (e i) ((same ∙ f.0) i));
            over = inr (k.tied.handed ∙ ap was_handed free);
          }

      in_line : (p.state ≡ InLine) × (told_own p ≡ Some Execute) → Standing p a w
      in_line m =
          let f = in_state s p.number p a w k InLine m.0 in
          let is : w.decision p.number ≡ Some Execute = told (λ none. let x = m.1 in cc) ∙ m.1 in
          let settled : a ≡ Settled = ⊎_elim (λ (e : (p.wrote ≡ Some Execute) × (a ≡ NotHanded)). absurd (let x = e.0 in let y = f.2 in cc)) (λ (e : a ≡ Settled). e) (executes s p.number p a w k is) in record {
            stands = k.stage ∙ (ap (stage_of p) settled ∙ ap stage_of_settled m.0);
            decided = λ none. let x = sym is ∙ none in cc;
            gone = λ q e same. ap (stage_of q) settled ∙ ap stage_of_settled e;
            over = inl m.1;
          }

  -- a Pass that took its seats did not ask
  took_not_asked : (o : PassRecord) (f : State) → IsState f o → o.took ≡ true → o.asked ≡ false
  took_not_asked o Fresh k e = k.1
  took_not_asked o Took k e = k.1
  took_not_asked o InLine k e = absurd (let x = sym k.0 ∙ e in cc)
  took_not_asked o Over k e = k e

  -- what a Pass wrote, it may still have written once it is over
  written_over : (p : PassRecord) (u : Knowledge) (x : Option Decision) → MayHaveWritten s p x → MayHaveWritten s (record p { state = Over; no_room = false; knows = u }) x
  written_over p u None k = k
  written_over p u (Some Execute) k = k
  written_over p u (Some QueueFull) k = k
  written_over p u (Some Closed) k = (k.0, refl)
  written_over p u (Some Cancelled) k = k
  written_over p u (Some ConcurrencyLimit) k = (k.0, refl, k.2, k.3)

  -- the seats of the Pass are given back
  pub pass_subtracts_level : (id slots : ℕ) (p : PassRecord) (back : ℕ) → MayRelease p
      → ((l : Level) → AllBelow20Bits l.waiters (l.seats + own_width p) l.limit → (packed (record l { seats = l.seats + own_width p }) + (2 ^ 64 - back)) % 2 ^ 64 ≡ packed l)
      → Allows (IsRuled s) slots id (Pass p ∷ [], []) 0 (λ n. (n + (2 ^ 64 - back)) % 2 ^ 64) (ByPass (OnLevel PassSubtractsLevel) (Pass p ∷ [], []))
  pass_subtracts_level id slots p back may leaves t h deep at small =
      let w = world_of s h.account.trace in
      let r = p.number in
      let n : ℕ = slice_index t.words 0 in
      let k = is_at s t h id p at in
      let x = standing p (service h.account.desk r) w k.request (k.known.told r) may in
      let m : Option Move = Some (Release r) in
      let sums = laws.sums w r Stands Gone k.inside x.stands in
      let w' = world_of s (entry (OfPass r) m ∷ h.account.trace) in
      let own = same_width s shape laws t h id p k in
      let less : seats s.widths w ≡ seats s.widths w' + width s.widths r = (let y = sums.0 in omega arith) in
      let fewer : seats s.widths w ≡ seats s.widths w' + own_width p = less ∙ ap (λ y. seats s.widths w' + y) (sym own) in
      let as_many : waiters s.widths w' ≡ waiters s.widths w = (let y = sums.1 in omega arith) in
      let l : Level = level_of s.widths w in
      let l' : Level = level_of s.widths w' in
      let fits = is_small l (level_in_range s shape laws t h) in
      let shown : n ≡ packed (record l' { seats = l'.seats + own_width p }) = h.packs.level ∙ (λ i. packed (record { closed = l.closed; waiters = sym as_many i; seats = fewer i; limit = w.limit })) in
      let new : ℕ = (n + (2 ^ 64 - back)) % 2 ^ 64 in
      let level : new ≡ packed l' = ap (λ y. (y + (2 ^ 64 - back)) % 2 ^ 64) shown ∙ leaves l' (subst (λ y. y < 2 ^ 20) (sym as_many) fits.0, subst (λ y. y < 2 ^ 20) fewer fits.1, fits.2) in
      let u : Knowledge = saw_level p.knows l (entry (OfPass r) m ∷ h.account.trace) in
      let q : PassRecord = record p { state = Over; no_room = false; knows = u } in
      let y = on_level s shape laws t h id new m p q at l refl (next_move s (OfPass r) (Release r) h.account.trace h.sound.schedule (record { is_request = k.inside; is_standing = x.stands; is_decided = x.decided }) refl) refl refl
      (λ j ne. record { stage = put_else w.stage r Gone j ne; decision = refl; saw = refl })
      (packs_level s h.account.current t.words w w' new level (λ _. refl) h.packs)
      (record {
        own = record {
          state = took_not_asked p p.state k.request.own.state;
          wrote = written_over p u p.wrote k.request.own.wrote;
          handed = λ e. let z = k.request.own.handed e in record { asked = z.asked; took_none = z.took_none; wrote_none = z.wrote_none; over = λ _. ⊎_elim (λ (o : told_own p ≡ Some Execute). o) (λ (o : p.handed ≡ false). absurd (let v = sym o ∙ e in cc)) x.over };
          queues = k.request.own.queues;
          no_room = λ e. absurd (cc);
        };
        tied = record { number = refl; handed = k.request.tied.handed; entered = k.request.tied.entered; left = k.request.tied.left };
        stage = put_here w.stage r Gone ∙ sym (x.gone q refl refl);
        saw = k.request.saw;
        word = k.request.word;
        closed = k.request.closed;
      }) in
      (Pass q ∷ [], keeps, tt, y.0, (refl, (q, refl, (l, h.packs.level, (u, y.1, refl)))))
