-- The numbers of the requests of a run in rounds.
use Rattle.std.proofs.Common.{◌≡◌, ℕ, ◌+◌, ◌*◌, ◌/◌, ◌%◌, ◌<◌, ◌≤◌, length, ap, ap₂, sym, ◌∙◌, arith}
use Rattle.std.proofs.Math.Nat.{div-add-mod}
use Rattle.apf_gate.specs.declared.record.Shape.{Shape}
use Rattle.apf_gate.specs.Gauges.{max_numbers}
use Rattle.apf_gate.specs.Slots.{IsTicket, slot_of, round_of, next_of, number_of}

pub slot_is : (slot round width : ℕ) → slot < 16384 → slot_of (number_of slot round width) ≡ slot
slot_is slot round width low = omega arith

pub round_is : (slot round width : ℕ) → slot < 16384 → width < 32768 → round_of (number_of slot round width) ≡ round
round_is slot round width low narrow = omega arith

pub is_number : (slot round width : ℕ) → slot < 16384 → width < 32768 → round ≤ 1000000 → number_of slot round width < max_numbers
is_number slot round width low narrow few = omega arith

pub is_ticket : (shape : Shape) (slot round width : ℕ) → length shape.widths ≡ max_numbers → slot < shape.slots → slot < 16384 → width < 32768 → round ≤ 1000000
    → IsTicket shape (number_of slot round width)
is_ticket shape slot round width numbers inside low narrow few = record {
  inside = (let b = is_number slot round width low narrow few in omega (arith, b, numbers));
  in_slot = (let s = slot_is slot round width low in omega (arith, s, inside));
  small = omega arith;
}

-- the next request of a slot is of its next round
pub next_is : (r width round : ℕ) → round_of r + 1 ≡ round → next_of r width ≡ number_of (slot_of r) round width
next_is r width round is = ap (λ (n : ℕ). number_of (slot_of r) n width) is

-- a slot has more numbers than a run has rounds
pub never_spent : (r width round : ℕ) → width < 32768 → round_of r + 1 ≡ round → round ≤ 1000000 → next_of r width < max_numbers
never_spent r width round narrow is few = omega arith

-- a place among the requests of all rounds is known by its slot and its round
pub same_place : (n i j : ℕ) → i % n ≡ j % n → i / n ≡ j / n → i ≡ j
same_place n i j slots rounds = sym (div-add-mod i n) ∙ (ap₂ (λ (a b : ℕ). n * a + b) rounds slots ∙ div-add-mod j n)
