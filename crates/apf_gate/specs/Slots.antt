-- The slots of a gate. A request's number says its slot and its mark, which grows with each request that holds the slot.
use Rattle.std.specs.Prelude.{ℕ, ◌+◌, ◌*◌, ◌^◌, ◌<◌, ◌/◌, ◌%◌, max, nat_le, if◌then◌else◌, length}
use Rattle.apf_gate.specs.declared.record.Shape.{Shape}

abbrev pub slot_of : ℕ → ℕ
slot_of r = r % 16384

abbrev pub mark_of : ℕ → ℕ
mark_of r = r / 16384

-- the mark of a request says how many times its slot was given before, and its width
abbrev pub wide : ℕ → ℕ
wide code = if nat_le code 20000 then max code 1 else 20000

abbrev pub coded_width : ℕ → ℕ
coded_width r = wide (mark_of r % 32768)

-- how many times its slot was given before
abbrev pub round_of : ℕ → ℕ
round_of r = mark_of r / 32768

-- the request of this width that comes once its slot was given this often before
abbrev pub number_of : (slot round k : ℕ) → ℕ
number_of slot round k = (round * 32768 + k) * 16384 + slot

-- the next request of the slot of r, of this width
abbrev pub next_of : ℕ → ℕ → ℕ
next_of r k = number_of (slot_of r) (round_of r + 1) k

-- a request of a gate of this shape
pub record IsTicket (shape : Shape) (r : ℕ) : Type 0 where
  pub inside : r < length shape.widths
  pub in_slot : slot_of r < shape.slots
  pub small : r < 2 ^ 75
