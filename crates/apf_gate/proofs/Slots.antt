-- The slots of an account: whose word is whose, and how the lines on slots go on.
use Rattle.std.proofs.Common.{◌≡◌, ◌≢◌, ◌⊎◌, ℕ, ◌/◌, ◌<◌, ◌≤◌, List, length, Option, Some, None, sym, ap, ◌∙◌, subst, inl, inr, ⊎_elim, arith}
use mathlib.Core.Logic.{dite}
use native.Mathlib.Decide.{ℕ_discrete}
use Rattle.std.proofs.Math.Decide.{dec_lt}
use Rattle.apf_words.specs.Codes.{code_in, marked}
use Rattle.apf_words.specs.declared.decision.Decision.{Decision}
use Rattle.apf_words.specs.declared.decision.Decision.TheVariants.{Execute, QueueFull, Closed, Cancelled, ConcurrencyLimit}
use Rattle.apf_model.specs.declared.moves.Stage.{Stage}
use Rattle.apf_model.specs.declared.moves.Stage.TheVariants.{Away, Gone}
use Rattle.apf_model.specs.World.{World}
use Rattle.apf_gate.specs.declared.record.Shape.{Shape}
use Rattle.apf_gate.specs.declared.record.Actor.TheVariants.{OfPass}
use Rattle.apf_gate.specs.declared.record.State.TheVariants.{Fresh}
use Rattle.apf_gate.specs.declared.record.PassRecord.{PassRecord}
use Rattle.apf_gate.specs.Slots.{slot_of, mark_of}
use Rattle.apf_gate.specs.Traces.{world_of}
use Rattle.apf_gate.specs.Records.{told_of}
use Rattle.apf_gate.specs.Account.{Account, HoldsSlot, IsIdle, HeldBefore, IsNewestBy, AreInOrder, AreSlots}
use Rattle.apf_gate.proofs.WordNumbers.{code_same}
use Rattle.apf_gate.proofs.Requests.{IsSame}

code_small : (d : Option Decision) → code_in d ≤ 5
code_small None = omega arith
code_small (Some Execute) = omega arith
code_small (Some QueueFull) = omega arith
code_small (Some Closed) = omega arith
code_small (Some Cancelled) = omega arith
code_small (Some ConcurrencyLimit) = omega arith

-- the mark of a word
pub mark_is : (m : ℕ) (d : Option Decision) → marked m d / 8 ≡ m
unfolding marked
mark_is m d = let c = code_small d in omega arith

-- a word of a mark says one decision
pub decision_same : (m : ℕ) (d e : Option Decision) → marked m d ≡ marked m e → d ≡ e
unfolding marked
decision_same m d e is = let c : code_in d ≡ code_in e = omega arith in code_same d e c

-- two requests of one slot have different marks
pub mark_apart : (r c : ℕ) → slot_of c ≡ slot_of r → c ≢ r → mark_of c ≢ mark_of r
mark_apart r c same ne e = ne (omega arith)

-- who holds its slot is another than who does not
pub apart_from : (g : Account) (r j : ℕ) → HoldsSlot g r → ¬ HoldsSlot g j → j ≢ r
apart_from g r j holds not e = not (subst (HoldsSlot g) (sym e) holds)

busy : (w : World) (r : ℕ) (a : Stage) → w.stage r ≡ a → a ≢ Away → a ≢ Gone → ¬ IsIdle w r
busy w r a is away gone idle = ⊎_elim (λ (e : w.stage r ≡ Away). away (sym is ∙ e)) (λ (e : w.stage r ≡ Gone). gone (sym is ∙ e)) idle

module _ (s : Shape) where
  -- who waits or stands holds its slot
  pub busy_holds : (g : Account) → AreSlots s g → (r : ℕ) (a : Stage) → r < length s.widths → (world_of s g.trace).stage r ≡ a → a ≢ Away → a ≢ Gone → HoldsSlot g r
  busy_holds g k r a l is away gone = dite (ℕ_discrete (g.current (slot_of r)) r) (λ e. e) (λ ne. absurd (busy (world_of s g.trace) r a is away gone (k.idle r l ne)))

  -- the lines on slots, where nothing changes of those who hold none
  pub slots_after : (g g' : Account) → AreSlots s g → ((i : ℕ) → g'.current i ≡ g.current i)
      → ((r : ℕ) → r < length s.widths → ¬ HoldsSlot g r → IsSame (world_of s g.trace) (world_of s g'.trace) r × (g'.pass r ≡ g.pass r))
      → ((r : ℕ) → (g'.pass r).past ≡ (g.pass r).past) → ((r : ℕ) → IsNewestBy (OfPass r) g'.trace → HoldsSlot g r)
      → ((r : ℕ) → length (g.pass r).knows.trace ≤ length (g'.pass r).knows.trace) → AreInOrder s g'.trace → AreSlots s g'
  slots_after g g' k same else noted newest longer order = record {
    current = λ i l. subst (λ c. (c < length s.widths) × (slot_of c ≡ i)) (sym (same i)) (k.current i l);
    inside = λ r l e. k.inside r l (sym (same (slot_of r)) ∙ e);
    idle = λ r l not.
        let was = λ (e : HoldsSlot g r). not (same (slot_of r) ∙ e) in
        let x = (else r l was).0 in
        ⊎_elim (λ (e : (world_of s g.trace).stage r ≡ Away). inl (x.stage ∙ e)) (λ (e : (world_of s g.trace).stage r ≡ Gone). inr (x.stage ∙ e)) (k.idle r l was);
    later = λ r l before.
        let c = same (slot_of r) in
        let below : g.current (slot_of r) < r = omega arith in
        let x = else r l (λ e. omega arith) in
        let y = k.later r l below in (x.1 ∙ y.0, x.0.decision ∙ y.1);
    past = λ r l after.
        let c = same (slot_of r) in
        let above : r < g.current (slot_of r) = omega arith in
        let x = else r l (λ e. omega arith) in
        ⊎_elim (λ (e : (world_of s g.trace).decision r ≢ None). inl (λ none. e (sym x.0.decision ∙ none))) (λ (e : (g.pass r).state ≡ Fresh). inr (ap (λ (p : PassRecord). p.state) x.1 ∙ e)) (k.past r l above);
    noted = λ i l.
        let n = k.noted i l in
        let c = same i in
        let own : (g'.pass (g'.current i)).past ≡ (g.pass (g.current i)).past = noted (g'.current i) ∙ ap (λ r. (g.pass r).past) c in record {
          in_order = subst (λ (x : ℕ × List (ℕ × Decision)). HeldBefore i x.0 x.1) (λ j. (sym c j, sym own j)) n.in_order;
          says = λ r inside e before.
              let below : r < g.current i = subst (λ x. r < x) c before in
              let x = (else r inside (λ holds. let y : g.current i ≡ r = ap g.current (sym e) ∙ holds in omega arith)).0 in
              ap (λ past. told_of past r) own ∙ (n.says r inside e below ∙ sym x.decision);
        };
    nobody = λ r l beyond. let x = (else r l (λ holds. let y = k.inside r l holds in omega arith)).0 in x.decision ∙ k.nobody r l beyond;
    newest = λ r e. same (slot_of r) ∙ newest r e;
    older = λ r l small not.
        let was = λ (e : HoldsSlot g r). not (same (slot_of r) ∙ e) in
        let kept = ap (λ (p : PassRecord). length p.knows.trace) (else r l was).1 in
        let y = k.older r l small was in
        let now = ap (λ c. length (g'.pass c).knows.trace) (same (slot_of r)) in
        let z = longer (g.current (slot_of r)) in omega arith;
    order = order;
    absent = λ r l beyond. ap (λ (p : PassRecord). p.knows.trace) (else r l (λ holds. let y = k.inside r l holds in omega arith)).1 ∙ k.absent r l beyond;
  }

  -- who holds no slot is decided, or its Pass is fresh
  pub other_fresh : (g : Account) → AreSlots s g → (r : ℕ) → r < length s.widths → ¬ HoldsSlot g r → ((world_of s g.trace).decision r ≢ None) ⊎ ((g.pass r).state ≡ Fresh)
  other_fresh g k r l not = dite (dec_lt r (g.current (slot_of r)))
      (λ m. k.past r l m)
      (λ m. inr (ap (λ (p : PassRecord). p.state) (k.later r l (let ne : g.current (slot_of r) ≢ r = not in omega arith)).0))
