-- The Pass at a seat, and its record after a step that only reads.
use Rattle.std.proofs.Common.{◌≡◌, ℕ, ◌+◌, ◌<◌, List, [], ◌∷◌, length, Option, Some, None, refl, ◌∙◌, subst}
use mathlib.Core.Option.{some}
use lib.ListN.{get_elem?}
use Rattle.apf_words.specs.declared.decision.Decision.{Decision}
use Rattle.apf_words.specs.declared.decision.Decision.TheVariants.{Execute}
use Rattle.apf_gate.specs.declared.record.Actor.TheVariants.{OfPass}
use Rattle.apf_gate.specs.declared.record.Shape.{Shape}
use Rattle.apf_gate.specs.declared.record.Knowledge.{Knowledge}
use Rattle.apf_gate.specs.declared.record.PassRecord.{PassRecord}
use Rattle.apf_gate.specs.declared.record.Record.TheVariants.{Pass}
use Rattle.apf_gate.specs.Records.{told_of, told_own, told_more, service}
use Rattle.apf_gate.specs.Traces.{world_of}
use Rattle.apf_gate.specs.Requests.{IsRequest, IsPassRecord, IsHanded}
use Rattle.apf_words.specs.Codes.{marked}
use Rattle.std.specs.Prelude.{slice_index}
use Rattle.apf_gate.specs.Slots.{slot_of, mark_of}
use Rattle.apf_gate.specs.Account.{HoldsSlot, IsKnown}
use Rattle.apf_gate.proofs.Packing.{own_word}
use Rattle.apf_gate.specs.Rule.{IsRuled}
use Rattle.apf_gate.specs.PassSteps.{read_by}
use Rattle.apf_gate.proofs.Puts.{put_here}
use Rattle.apf_gate.proofs.Requests.{state_same}
use Rattle.apf_gate.proofs.Views.{Table}

-- execute stays told
pub execute_told : (told : List (ℕ × Decision)) (r : ℕ) (x : Option Decision) → told_of told r ≡ Some Execute → x ≡ Some Execute → told_of (told_more told r x) r ≡ Some Execute
execute_told told r None was is = was
execute_told told r (Some d) was is = put_here (told_of told) r (Some d) ∙ is

module _ (s : Shape) where
  -- what the rule says of the Pass at a seat
  pub record IsAt (t : Table) (h : IsRuled s t) (id : ℕ) (p : PassRecord) : Type 0 where
    pub inside : p.number < length s.widths
    pub holds : HoldsSlot h.account p.number
    pub in_slot : slot_of p.number < s.slots
    pub word : slice_index t.words (slot_of p.number + 1) ≡ marked (mark_of p.number) ((world_of s h.account.trace).decision p.number)
    pub request : IsRequest s p.number p (service h.account.desk p.number) (world_of s h.account.trace)
    pub known : IsKnown s (OfPass p.number) p.knows h.account.trace

  pub is_at : (t : Table) (h : IsRuled s t) (id : ℕ) (p : PassRecord) → get_elem? t.views id ≡ some (Pass p ∷ []) → IsAt t h id p
  is_at t h id p at = let f = (h.views id (Pass p ∷ []) at).0.0.1 in record {
    inside = f.0;
    holds = f.2;
    in_slot = h.slots.inside p.number f.0 f.2;
    word = own_word s t h p.number f.0 f.2;
    request = subst (λ (o : PassRecord). IsRequest s p.number o (service h.account.desk p.number) (world_of s h.account.trace)) f.1 (h.sound.request p.number f.0);
    known = subst (λ (o : PassRecord). IsKnown s (OfPass p.number) o.knows h.account.trace) f.1 (h.sound.pass_knows p.number f.0);
  }

  -- a Pass that was handed over is still so after a step that keeps what it was told
  pub handed_read : (p : PassRecord) (u : Knowledge) → (told_own p ≡ Some Execute → told_of u.told p.number ≡ Some Execute) → IsHanded p → IsHanded (read_by p u)
  handed_read p u stays h = record { asked = h.asked; took_none = h.took_none; wrote_none = h.wrote_none; over = λ e. stays (h.over e) }

  -- the lines on a Pass's record after a step that only reads
  pub own_read : (p : PassRecord) (u : Knowledge) → (told_own p ≡ Some Execute → told_of u.told p.number ≡ Some Execute) → IsPassRecord s p → IsPassRecord s (read_by p u)
  own_read p u stays k = record {
    state = state_same p.state p (read_by p u) refl refl refl k.state;
    wrote = k.wrote;
    handed = λ e. handed_read p u stays (k.handed e);
    queues = k.queues;
    no_room = λ e. absurd (cc);
  }
