-- What is kept of the requests that execute, of each slot.
use Rattle.std.proofs.Common.{◌≡◌, ◌≢◌, ℕ, ◌<◌, inl, inr, Bool, cond, not, false, List, [], ◌∷◌, ◌++◌, length, get_or, set, length-set, get_or-set_same, get_or-set_other, Option, Some, None, refl, sym, ap, ◌∙◌, subst, arith}
use Rattle.std.specs.Prelude.{◌==◌, slice_index}
use Rattle.std.proofs.lemmas.Bool.{cases_eq, cases_lt, eq-eqb, ne_eqb, false≢true}
use Rattle.std.proofs.lemmas.List.{get_or_past}
use Rattle.apf_gate.specs.Slots.{slot_of}
use Rattle.apf_history.specs.declared.events.Event.{Event}
use Rattle.apf_history.specs.declared.events.Charge.{Charge}
use Rattle.apf_history.specs.declared.events.LogEntry.{LogEntry}
use Rattle.apf_history.specs.declared.events.LogEntry.TheVariants.{Happens}
use Rattle.apf_model.specs.Charged.{log_of}
use Rattle.apf_book.specs.Life.{LifeState, settles_in, charge_in}

none_some : (c : Charge) → None ≡ Some c → ⊥
none_some c e = cc

-- as many places: nothing is settled in both
pub still_unsettled : (a b : List (Option Charge)) → length b ≡ length a → not (length b == 0) ≡ false → not (length a == 0) ≡ false
still_unsettled a b same none = subst (λ (n : ℕ). not (n == 0) ≡ false) same none

none_zero : (n : ℕ) → not (n == 0) ≡ false → n ≡ 0
none_zero n none = elim (cases_eq n 0) [
  | inl e ↦ e
  | inr other ↦ absurd (false≢true (sym none ∙ ap not (ne_eqb n 0 other)))
]

-- of the request that holds a slot with a place, it is what that place has
module _ (s : LifeState) (r : ℕ) (c : Charge) (kept : charge_in s r ≡ Some c) where
  pub kept_holds : slice_index s.holders (slot_of r) ≡ r
  kept_holds = elim (cases_eq (slice_index s.holders (slot_of r)) r) [
    | inl e ↦ e
    | inr other ↦ absurd (none_some c (sym (ap (λ (b : Bool). cond b (get_or s.running (slot_of r) None) None) (ne_eqb (slice_index s.holders (slot_of r)) r other)) ∙ kept))
  ]

  pub kept_there : get_or s.running (slot_of r) None ≡ Some c
  kept_there = sym (ap (λ (b : Bool). cond b (get_or s.running (slot_of r) None) None) (eq-eqb (slice_index s.holders (slot_of r)) r kept_holds)) ∙ kept

  pub kept_inside : slot_of r < length s.running
  kept_inside = elim (cases_lt (slot_of r) (length s.running)) [
    | inl l ↦ l
    | inr past ↦ absurd (none_some c (sym (get_or_past s.running (slot_of r) None past) ∙ kept_there))
  ]

  -- so some are settled
  pub kept_settles : settles_in s ≡ false → ⊥
  kept_settles none = let zero = none_zero (length s.running) none in let l = kept_inside in absurd (omega arith)

-- another charge in the place of the slot of r: who holds a slot has it, if it is r, and what it had else
pub kept_then : (running : List (Option Charge)) (holders : List ℕ) (slot r : ℕ) (new : Option Charge) (old now : ℕ → Option Charge)
    → slice_index holders slot ≡ r → now r ≡ new → ((j : ℕ) → j ≢ r → now j ≡ old j) → slot_of r ≡ slot
    → ((j : ℕ) → slot_of j < length running → slice_index holders (slot_of j) ≡ j → slot_of j ≢ slot → get_or running (slot_of j) None ≡ old j)
    → (j : ℕ) → slot_of j < length (set running slot new) → slice_index holders (slot_of j) ≡ j → get_or (set running slot new) (slot_of j) None ≡ now j
kept_then running holders slot r new old now own here else its was j l holds =
    let long = length-set running slot new in
    elim (cases_eq (slot_of j) slot) [
      | inl e ↦
          (let same : j ≡ r = sym holds ∙ ap (slice_index holders) e ∙ own in
          ap (λ i. get_or (set running slot new) i None) e ∙ get_or-set_same running slot new None (omega arith) ∙ sym (ap now same ∙ here))
      | inr other ↦
          (let ne : j ≢ r = (λ same. other (ap slot_of same ∙ its)) in
          get_or-set_other running slot (slot_of j) new None other ∙ was j (omega arith) holds other ∙ sym (else j ne))
    ]

-- the log of events that came after others
pub log_of_both : (a b : List Event) (l : List LogEntry) → log_of (a ++ b) ++ l ≡ log_of a ++ (log_of b ++ l)
log_of_both [] b l = refl
log_of_both (e ∷ a) b l = ap (λ (rest : List LogEntry). Happens e ∷ rest) (log_of_both a b l)
