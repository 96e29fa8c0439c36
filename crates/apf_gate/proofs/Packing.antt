-- The words as one step changes them.
use Rattle.std.specs.Prelude.{slice_index}
use Rattle.std.proofs.Common.{◌≡◌, ◌≢◌, ℕ, ◌+◌, ◌<◌, ◌≤◌, List, length, get_or, set, Some, None, sym, ap, ◌∙◌, subst, arith, length-set, get_or-set_other, get_or-set_same}
use mathlib.Core.Logic.{dite}
use lib.Seq.{set-get_or}
use native.Mathlib.Decide.{ℕ_discrete}
use Rattle.apf_words.specs.Codes.{marked}
use Rattle.apf_words.specs.Level.{Level, packed}
use Rattle.apf_words.specs.declared.decision.Decision.{Decision}
use Rattle.apf_model.specs.declared.response.Response.TheVariants.{Reject}
use Rattle.apf_model.specs.World.{World, put, waiters}
use Rattle.apf_gate.specs.declared.record.Shape.{Shape}
use Rattle.apf_gate.specs.Records.{level_of, service}
use Rattle.apf_gate.specs.Traces.{moves, world_of}
use Rattle.apf_gate.specs.Slots.{slot_of, mark_of}
use Rattle.apf_gate.specs.Account.{Account, HoldsSlot, AreSlots}
use Rattle.apf_gate.specs.Rule.{Packs, IsRuled}
use Rattle.apf_gate.specs.Gauges.{IsShape, AreLaws}
use Rattle.apf_gate.specs.Steps.{IsInRange}
use Rattle.apf_gate.proofs.Puts.{put_here, put_else}
use Rattle.apf_gate.proofs.WordNumbers.{IsSmall}
use Rattle.apf_gate.proofs.Requests.{waits_in_queues}
use Rattle.apf_gate.proofs.Views.{Table}
use Rattle.apf_gate.proofs.Fewness.{few_wait}
use Rattle.apf_gate.proofs.Traces.{limit_range}

module _ (s : Shape) where
  -- a step that changes no word
  pub packs_same : (current : ℕ → ℕ) (words : List ℕ) (w w' : World) (i : ℕ) → level_of s.widths w' ≡ level_of s.widths w → ((r : ℕ) → w'.decision r ≡ w.decision r) → Packs s current words w → Packs s current (set words i (get_or words i 0)) w'
  packs_same current words w w' i level same k = subst (λ (ws : List ℕ). Packs s current ws w') (sym (set-get_or words i 0)) (record {
    count = k.count;
    level = k.level ∙ ap packed (sym level);
    decisions = λ j l. k.decisions j l ∙ ap (marked (mark_of (current j))) (sym (same (current j)));
  })

  -- a step that writes the level word
  pub packs_level : (current : ℕ → ℕ) (words : List ℕ) (w w' : World) (x : ℕ) → x ≡ packed (level_of s.widths w') → ((r : ℕ) → w'.decision r ≡ w.decision r) → Packs s current words w → Packs s current (set words 0 x) w'
  packs_level current words w w' x is same k = record {
    count = length-set words 0 x ∙ k.count;
    level = (let some_words : 0 < length words = (let c = k.count in omega arith) in get_or-set_same words 0 x 0 some_words ∙ is);
    decisions = λ j l. get_or-set_other words 0 (j + 1) x 0 (λ e. omega arith) ∙ (k.decisions j l ∙ ap (marked (mark_of (current j))) (sym (same (current j))));
  }

  -- a step that writes the decision of a request that holds its slot
  pub packs_decided : (g : Account) (words : List ℕ) (w : World) (r : ℕ) (d : Decision) → AreSlots s g → HoldsSlot g r → slot_of r < s.slots → Packs s g.current words w
      → Packs s g.current (set words (slot_of r + 1) (marked (mark_of r) (Some d))) (record w { decision = put w.decision r (Some d) })
  packs_decided g words w r d slots holds inside k =
      let n : ℕ = marked (mark_of r) (Some d) in record {
        count = length-set words (slot_of r + 1) n ∙ k.count;
        level = get_or-set_other words (slot_of r + 1) 0 n 0 (λ e. omega arith) ∙ k.level;
        decisions = λ j l. dite (ℕ_discrete j (slot_of r))
            (λ e. let there : slot_of r + 1 < length words = (let c = k.count in omega arith) in
            let own : get_or (set words (slot_of r + 1) n) (slot_of r + 1) 0 ≡ marked (mark_of r) (put w.decision r (Some d) r) = get_or-set_same words (slot_of r + 1) n 0 there ∙ ap (marked (mark_of r)) (sym (put_here w.decision r (Some d))) in
            subst (λ x. get_or (set words (slot_of r + 1) n) (x + 1) 0 ≡ marked (mark_of (g.current x)) (put w.decision r (Some d) (g.current x))) (sym e)
            (subst (λ c. get_or (set words (slot_of r + 1) n) (slot_of r + 1) 0 ≡ marked (mark_of c) (put w.decision r (Some d) c)) (sym holds) own))
            (λ ne. let other : g.current j ≢ r = (λ x. ne (sym (slots.current j l).1 ∙ ap slot_of x)) in
            get_or-set_other words (slot_of r + 1) (j + 1) n 0 (λ x. ne (omega arith)) ∙ (k.decisions j l ∙ ap (marked (mark_of (g.current j))) (sym (put_else w.decision r (Some d) (g.current j) other))));
      }

  -- a step that hands the slot of r to the request r, which is undecided
  pub packs_renewed : (current : ℕ → ℕ) (words : List ℕ) (w : World) (r : ℕ) → slot_of r < s.slots → w.decision r ≡ None → Packs s current words w
      → Packs s (put current (slot_of r) r) (set words (slot_of r + 1) (marked (mark_of r) None)) w
  packs_renewed current words w r inside none k =
      let n : ℕ = marked (mark_of r) None in record {
        count = length-set words (slot_of r + 1) n ∙ k.count;
        level = get_or-set_other words (slot_of r + 1) 0 n 0 (λ e. omega arith) ∙ k.level;
        decisions = λ j l. dite (ℕ_discrete j (slot_of r))
            (λ e. let there : slot_of r + 1 < length words = (let c = k.count in omega arith) in
            let own : get_or (set words (slot_of r + 1) n) (slot_of r + 1) 0 ≡ marked (mark_of r) (w.decision r) = get_or-set_same words (slot_of r + 1) n 0 there ∙ ap (marked (mark_of r)) (sym none) in
            subst (λ x. get_or (set words (slot_of r + 1) n) (x + 1) 0 ≡ marked (mark_of (put current (slot_of r) r x)) (w.decision (put current (slot_of r) r x))) (sym e)
            (subst (λ c. get_or (set words (slot_of r + 1) n) (slot_of r + 1) 0 ≡ marked (mark_of c) (w.decision c)) (sym (put_here current (slot_of r) r)) own))
            (λ ne. get_or-set_other words (slot_of r + 1) (j + 1) n 0 (λ x. ne (omega arith)) ∙ (k.decisions j l ∙ ap (λ c. marked (mark_of c) (w.decision c)) (sym (put_else current (slot_of r) r j ne))));
      }

  -- the word of a request that holds its slot
  pub own_word : (t : Table) (h : IsRuled s t) (r : ℕ) → r < length s.widths → HoldsSlot h.account r → slice_index t.words (slot_of r + 1) ≡ marked (mark_of r) ((world_of s h.account.trace).decision r)
  own_word t h r l holds = subst (λ c. slice_index t.words (slot_of r + 1) ≡ marked (mark_of c) ((world_of s h.account.trace).decision c)) holds (h.packs.decisions (slot_of r) (h.slots.inside r l holds))

  -- in a batch each request holds its slot, whose word is that of its number
  pub batch_holds : IsShape s → (t : Table) (h : IsRuled s t) → length s.widths ≡ s.slots → (r : ℕ) → r < length s.widths → HoldsSlot h.account r
  batch_holds shape t h batch r l =
      let few = shape.few_slots in
      let own : slot_of r ≡ r = omega arith in
      let c = h.slots.current r (omega arith) in
      let is : h.account.current r ≡ r = (let x = c.0 in let y = c.1 in omega arith) in
      ap h.account.current own ∙ is

  pub batch_word : IsShape s → (t : Table) (h : IsRuled s t) → length s.widths ≡ s.slots → (r : ℕ) → r < length s.widths → slice_index t.words (r + 1) ≡ marked (mark_of r) ((world_of s h.account.trace).decision r)
  batch_word shape t h batch r l =
      let few = shape.few_slots in
      let own : slot_of r ≡ r = omega arith in
      ap (λ x. slice_index t.words (x + 1)) (sym own) ∙ own_word t h r l (batch_holds shape t h batch r l)

  -- the numbers of the level word
  pub level_in_range : IsShape s → AreLaws s → (t : Table) (h : IsRuled s t) → IsInRange (level_of s.widths (world_of s h.account.trace))
  level_in_range shape laws t h =
      let ms = h.account.trace in
      let w = world_of s ms in
      let a = few_wait s laws h.account h.slots in
      let b = shape.few_slots in
      let c = limit_range s shape ms h.sound.made in
      let l : w.largest ≤ 20000 = (let z = c.largest in omega arith) in
      let d = laws.bounded (moves ms) h.sound.schedule l in record { waiters = omega arith; seats = d; some_limit = c.some; limit = c.limit }

  pub no_queues : AreLaws s → (t : Table) (h : IsRuled s t) → s.response ≡ Reject → waiters s.widths (world_of s h.account.trace) ≡ 0
  no_queues laws t h reject = laws.nobody_waits (world_of s h.account.trace) (λ r l. waits_in_queues s r (h.account.pass r) (service h.account.desk r) (world_of s h.account.trace) (h.sound.request r l) reject)

pub is_small : (l : Level) → IsInRange l → IsSmall l
is_small l k = let a = k.waiters in let b = k.seats in let c = k.limit in (omega arith, omega arith, omega arith)
