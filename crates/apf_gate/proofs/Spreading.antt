-- The widths of all numbers of requests, by slot.
use Rattle.std.proofs.Common.{◌≡◌, ℕ, zero, suc, ◌+◌, ◌<◌, ◌≤◌, ◌^◌, Bool, true, false, List, [], ◌∷◌, ◌++◌, length, get_or, sym, refl, ap, ◌∙◌, subst, arith}
use Rattle.std.proofs.lemmas.List.{get_or_append_left, length-append}
use Rattle.std.proofs.Math.Seq.{get_or-append_seam}
use Rattle.std.proofs.lemmas.List.{get_or_past}
use Rattle.std.proofs.Math.Decide.{dec_lt}
use mathlib.Core.Logic.{dite}
use native.Mathlib.Decide.{ℕ_discrete}
use Rattle.apf_model.specs.World.{width}
use Rattle.apf_model.specs.declared.response.Response.{Response}
use Rattle.std.specs.Prelude.{max, nat_le, if◌then◌else◌}
use Rattle.std.proofs.Common.{◌%◌}
use Rattle.std.proofs.lemmas.Bool.{leb-true, le-leb}
use Rattle.apf_gate.specs.Slots.{slot_of, mark_of, wide, coded_width, next_of}
use Rattle.apf_gate.specs.Gauges.{IsShape, spread, all_widths, shape_of, shape_in}
use Rattle.apf_gate.proofs.Puts.{any_default}

pub length_spread : (ws : List ℕ) (n : ℕ) → length (spread ws n) ≡ n
unfolding spread
length_spread ws zero = refl
length_spread ws (suc n) = let h = length_spread ws n in let e : length (spread ws n ++ get_or ws n (coded_width n) ∷ []) ≡ length (spread ws n) + 1 = length-append (spread ws n) (get_or ws n (coded_width n) ∷ []) in omega arith

pub at_spread : (ws : List ℕ) (n r : ℕ) → r < n → get_or (spread ws n) r 0 ≡ get_or ws r (coded_width r)
unfolding spread
at_spread ws zero r l = absurd (omega arith)
at_spread ws (suc n) r l = dite (ℕ_discrete r n)
    (λ e. subst (λ k. get_or (spread ws n ++ get_or ws n (coded_width n) ∷ []) k 0 ≡ get_or ws k (coded_width k)) (sym e)
    (subst (λ k. get_or (spread ws n ++ get_or ws n (coded_width n) ∷ []) k 0 ≡ get_or ws n (coded_width n)) (length_spread ws n) (get_or-append_seam (spread ws n) (get_or ws n (coded_width n)) [] 0)))
    (λ ne. let below : r < length (spread ws n) = (let h = length_spread ws n in omega arith) in get_or_append_left (spread ws n) (get_or ws n (coded_width n) ∷ []) 0 r below ∙ at_spread ws n r (omega arith))

pub slots_in : (lives : Bool) (n limit : ℕ) (p : Response) (ws : List ℕ) (k : ℕ) → (shape_in lives n limit p ws k).slots ≡ length ws
slots_in lives n limit p ws k = refl

-- a width that a number says is in range
wide_in_range : (code : ℕ) → (1 ≤ wide code) × (wide code ≤ 20000)
wide_in_range code = by (nat_le code 20000) refl
  where
    by : (b : Bool) → nat_le code 20000 ≡ b → (1 ≤ (if nat_le code 20000 then max code 1 else 20000)) × ((if nat_le code 20000 then max code 1 else 20000) ≤ 20000)
    by true e = subst (λ c. (1 ≤ (if c then max code 1 else 20000)) × ((if c then max code 1 else 20000) ≤ 20000)) (sym e) (let l = leb-true code 20000 e in (omega arith, omega arith))
    by false e = subst (λ c. (1 ≤ (if c then max code 1 else 20000)) × ((if c then max code 1 else 20000) ≤ 20000)) (sym e) (omega arith, omega arith)

pub wide_is : (k : ℕ) → 1 ≤ k → k ≤ 20000 → wide k ≡ k
wide_is k some few = ap (λ b. if b then max k 1 else 20000) (le-leb k 20000 few) ∙ (let e : max k 1 ≡ k = omega arith in e)

-- slots that are used again, with this many numbers
pub life_is_shape : (n limit : ℕ) (p : Response) (ws : List ℕ) (k : ℕ) → IsShape (shape_of limit p ws k) → length ws ≤ n → n ≤ 2 ^ 75 → IsShape (shape_in true n limit p ws k)
life_is_shape n limit p ws k shape some many = let h = length_spread ws n in record {
  some_limit = shape.some_limit;
  small_limit = shape.small_limit;
  widths = λ r l. let e = at_spread ws n r (omega arith) in dite (dec_lt r (length ws))
      (λ inside. let d = any_default ws r (coded_width r) inside in let w = shape.widths r inside in (omega arith, omega arith))
      (λ past. let beyond : length ws ≤ r = omega arith in let d : get_or ws r (coded_width r) ≡ coded_width r = get_or_past ws r (coded_width r) beyond in let w = wide_in_range (mark_of r % 32768) in (omega arith, omega arith));
  few_slots = shape.few_slots;
  all_slots = omega arith;
  few_numbers = omega arith;
  few_stations = shape.few_stations;
}

-- what the width of a number is
pub first_width : (lives : Bool) (n : ℕ) (ws : List ℕ) (r : ℕ) → r < length (all_widths lives n ws) → r < length ws → get_or ws r 0 ≡ width (all_widths lives n ws) r
first_width false n ws r l inside = refl
first_width true n ws r l inside = let h = length_spread ws n in sym (at_spread ws n r (omega arith) ∙ any_default ws r (coded_width r) inside)

pub later_width : (lives : Bool) (n : ℕ) (ws : List ℕ) (r : ℕ) → r < length (all_widths lives n ws) → length ws ≤ r → coded_width r ≡ width (all_widths lives n ws) r
later_width false n ws r l past = absurd (omega arith)
later_width true n ws r l past = let h = length_spread ws n in sym (at_spread ws n r (omega arith) ∙ get_or_past ws r (coded_width r) past)

-- the next request of a slot, of any width
pub next_is_wide : (n : ℕ) (ws : List ℕ) (r k : ℕ) → next_of r k < n → length ws ≤ 16384 → 1 ≤ k → k ≤ 20000 → width (all_widths true n ws) (next_of r k) ≡ k
next_is_wide n ws r k l few some narrow =
    let h = length_spread ws n in
    let beyond : length ws ≤ next_of r k = omega arith in
    let mark : mark_of (next_of r k) % 32768 ≡ k = omega arith in
    sym (later_width true n ws (next_of r k) (omega arith) beyond) ∙ (ap wide mark ∙ wide_is k some narrow)

pub next_is_next : (r k : ℕ) → k < 32768 → (slot_of (next_of r k) ≡ slot_of r) × (r < next_of r k)
next_is_next r k few = (omega arith, omega arith)

-- how many numbers there are
pub batch_length : (lives : Bool) (n : ℕ) (ws : List ℕ) → lives ≡ false → length (all_widths lives n ws) ≡ length ws
batch_length lives n ws is = ap (λ b. length (all_widths b n ws)) is

pub life_length : (lives : Bool) (n : ℕ) (ws : List ℕ) → lives ≡ true → length (all_widths lives n ws) ≡ n
life_length lives n ws is = ap (λ b. length (all_widths b n ws)) is ∙ length_spread ws n

-- the numbers of a batch end before the next one of any slot
pub batch_ends : (r k : ℕ) → 10000 ≤ next_of r k
batch_ends r k = omega arith

-- the next request of a slot, if there is one, is so wide as its number says
pub next_wide : (lives : Bool) (n : ℕ) (ws : List ℕ) (r k : ℕ) → next_of r k < length (all_widths lives n ws) → length ws ≤ 10000 → 1 ≤ k → k ≤ 20000 → width (all_widths lives n ws) (next_of r k) ≡ k
next_wide false n ws r k room few some narrow = absurd (let b = batch_ends r k in omega arith)
next_wide true n ws r k room few some narrow = next_is_wide n ws r k (subst (λ m. next_of r k < m) (length_spread ws n) room) (omega arith) some narrow
