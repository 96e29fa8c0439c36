-- No more requests wait than there are slots.
use Rattle.std.proofs.Common.{◌≡◌, ◌≢◌, ℕ, zero, suc, ◌+◌, ◌<◌, ◌≤◌, sym, refl, ap, ◌∙◌, subst, arith}
use mathlib.Core.Logic.{dite}
use native.Mathlib.Decide.{ℕ_discrete}
use Rattle.apf_model.specs.declared.moves.Stage.{Stage}
use Rattle.apf_model.specs.declared.moves.Stage.TheVariants.{Away, Waits, Stands, Gone}
use Rattle.apf_model.specs.World.{World, put, waiters, waits_at}
use Rattle.apf_gate.specs.declared.record.Shape.{Shape}
use Rattle.apf_gate.specs.Slots.{slot_of}
use Rattle.apf_gate.specs.Traces.{world_of}
use Rattle.apf_gate.specs.Account.{Account, AreSlots}
use Rattle.apf_gate.specs.Gauges.{AreLaws}
use Rattle.apf_gate.proofs.Puts.{put_here, put_else}
use Rattle.apf_gate.proofs.Slots.{busy_holds}

one_waits : (a : Stage) → waits_at a ≤ 1
one_waits Away = omega arith
one_waits Waits = omega arith
one_waits Stands = omega arith
one_waits Gone = omega arith

-- the world without those who hold the first slots
abbrev emptied : (ℕ → ℕ) → World → ℕ → World
emptied current w zero = w
emptied current w (suc k) = record (emptied current w k) { stage = put (emptied current w k).stage (current k) Gone }

-- who waits there waits, and holds none of these slots
still_waits : (current : ℕ → ℕ) (w : World) (k r : ℕ) → (emptied current w k).stage r ≡ Waits → (w.stage r ≡ Waits) × ((i : ℕ) → i < k → current i ≢ r)
still_waits current w zero r e = (e, λ i l. absurd (omega arith))
still_waits current w (suc k) r e =
    let ne : current k ≢ r = (λ same. let z = sym (ap (put (emptied current w k).stage (current k) Gone) (sym same) ∙ put_here (emptied current w k).stage (current k) Gone) ∙ e in cc) in
    let h = still_waits current w k r (sym (put_else (emptied current w k).stage (current k) Gone r (λ x. ne (sym x))) ∙ e) in
    (h.0, λ i l. dite (ℕ_discrete i k) (λ x. subst (λ j. current j ≢ r) (sym x) ne) (λ x. h.1 i (omega arith)))

module _ (s : Shape) (laws : AreLaws s) (g : Account) (k : AreSlots s g) where
  abbrev now : World
  now = world_of s g.trace

  counts_down : (n : ℕ) → n ≤ s.slots → waiters s.widths now ≤ waiters s.widths (emptied g.current now n) + n
  counts_down zero l = omega arith
  counts_down (suc n) l =
      let h = counts_down n (omega arith) in
      let w = emptied g.current now n in
      let r = g.current n in
      let c = (laws.sums w r (w.stage r) Gone (k.current n (omega arith)).0 refl).1 in
      let one = one_waits (w.stage r) in omega arith

  pub few_wait : waiters s.widths now ≤ s.slots
  few_wait =
      let none = laws.nobody_waits (emptied g.current now s.slots) (λ r l e.
      let h = still_waits g.current now s.slots r e in
      let holds = busy_holds s g k r Waits l h.0 (λ x. cc) (λ x. cc) in h.1 (slot_of r) (k.inside r l holds) holds) in
      let all = counts_down s.slots (omega arith) in omega arith
