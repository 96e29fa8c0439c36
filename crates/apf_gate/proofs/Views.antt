-- The views of the seats as one step changes them.
use Rattle.std.proofs.Common.{◌≡◌, ◌≢◌, ℕ, ◌+◌, ◌*◌, List, set, sym, ◌∙◌, subst, ⊎_elim}
use mathlib.Core.Option.{some}
use lib.ListN.{get_elem?}
use Rattle.atomic_table.specs.Table.{State}
use Rattle.atomic_table.proofs.Lists.{at_set}
use Rattle.apf_gate.specs.declared.record.Shape.{Shape}
use Rattle.apf_gate.specs.declared.record.Record.{Record}
use Rattle.apf_gate.specs.declared.record.Record.TheVariants.{Pass, Desk, Station}
use Rattle.apf_gate.specs.Traces.{world_of}
use Rattle.apf_gate.specs.Slots.{slot_of}
use Rattle.apf_gate.specs.Account.{Account, IsSound, AreSlots}
use Rattle.apf_gate.specs.Rule.{Packs, IsKeptAt, IsView, IsRuled}
use Rattle.apf_gate.proofs.Lists.{every_map}

abbrev pub Table : Type 0
Table = State (Unit {0}) (List Record)

module _ (s : Shape) where
  -- the accounts agree but for the records kept at one seat
  pub record AgreeBut (id : ℕ) (g g' : Account) : Type 0 where
    pub seat : (x : ℕ) → g'.seat x ≡ g.seat x
    pub pass : (r : ℕ) → g.seat (2 * slot_of r + 1) ≢ id → g'.pass r ≡ g.pass r
    pub current : (i : ℕ) → g.seat (2 * i + 1) ≢ id → g'.current i ≡ g.current i
    pub desk : g.seat 0 ≢ id → g'.desk ≡ g.desk
    pub station : (k : ℕ) → g.seat (2 * k + 2) ≢ id → g'.station k ≡ g.station k

  kept_elsewhere : (g g' : Account) (id i : ℕ) (x : Record) → AgreeBut id g g' → i ≢ id → IsKeptAt s g i x → IsKeptAt s g' i x
  kept_elsewhere g g' id i (Pass p) same other k = (same.seat _ ∙ k.0, (k.1.0, same.pass p.number (λ e. other (sym k.0 ∙ e)) ∙ k.1.1, same.current (slot_of p.number) (λ e. other (sym k.0 ∙ e)) ∙ k.1.2))
  kept_elsewhere g g' id i (Desk d) same other k = (same.seat _ ∙ k.0, same.desk (λ e. other (sym k.0 ∙ e)) ∙ k.1)
  kept_elsewhere g g' id i (Station t) same other k = (same.seat _ ∙ k.0, (k.1.0, same.station t.number (λ e. other (sym k.0 ∙ e)) ∙ k.1.1))

  -- a step that changes one view and one word keeps the rule, if its account is sound and packs the words
  pub kept : (t : Table) (h : IsRuled s t) (id i n : ℕ) (w : List Record) (g' : Account)
      → AgreeBut id h.account g' → IsView s g' id w → IsSound s g' → AreSlots s g' → Packs s g'.current (set t.words i n) (world_of s g'.trace)
      → IsRuled s record { words = set t.words i n; homes = t.homes; views = set t.views id w }
  kept t h id i n w g' same mine sound slots packs = record {
    account = g';
    sound = sound;
    slots = slots;
    packs = packs;
    views = λ j v at. ⊎_elim
        (λ (e : (j ≡ id) × (w ≡ v)). subst (λ (x : ℕ × List Record). IsView s g' x.0 x.1) (λ k. (sym e.0 k, e.1 k)) mine)
        (λ (e : (j ≢ id) × (get_elem? t.views j ≡ some v)). let was = h.views j v e.1 in
        (every_map (IsKeptAt s h.account j) (IsKeptAt s g' j) v (λ x k. kept_elsewhere h.account g' id j x same e.0 k) was.0, was.1))
        (at_set t.views id j w v at);
  }
