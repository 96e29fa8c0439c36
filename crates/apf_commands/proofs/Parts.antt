-- What is divided without a rest, and numbers with a point.
use Rattle.std.proofs.Common.{◌≡◌, ◌≢◌, ◌<◌, ◌≤◌, ◌⊎◌, inl, inr, ℕ, ◌*◌, ◌/◌, ◌%◌, ◌+◌, ◌^◌, List, ◌++◌, length, Ok, ap, ap₂, sym, subst, ◌∙◌, arith}
use Rattle.std.specs.List.{before_first, after_first}
use Rattle.std.specs.Str.Parse.{ParsesUnsigned}
use Rattle.std.proofs.Math.Nat.{mul-mod_left, div-add-mod', mul-div_cancel, one-le-pow}
use Rattle.std.proofs.lemmas.List.{append_cancel_right}
use Rattle.apf_commands.specs.declared.patience.Unit.{Unit}
use Rattle.apf_commands.specs.Patience.{name_of, microseconds_of, is_point, IsWholeIn, IsPartIn, IsDecimalIn, IsAmountIn, IsTimeIn, IsNoWholeIn, IsNoPartIn, IsNoDecimalIn, IsNoAmountIn, IsNoTimeIn}

pub divides : (product power : ℕ) → product % power ≡ 0 → product ≡ product / power * power
divides product power none = omega (arith, div-add-mod' product power, none)

pub no_multiple : (product power : ℕ) → product % power ≢ 0 → (rest : ℕ) → product ≡ rest * power → ⊥
no_multiple product power some rest is = some (ap (λ n. n % power) is ∙ mul-mod_left rest power)

same_number : (k : ℕ) (d : List ℕ) (m n : ℕ) → ParsesUnsigned {E = ℕ} k 10 d (Ok m) → ParsesUnsigned {E = ℕ} k 10 d (Ok n) → m ≡ n
same_number k d m n a b = a.1 ∙ sym b.1

-- digits behind a point are one number of microseconds
same_rest : (u : Unit) (d : List ℕ) (r s : ℕ) → IsPartIn u d r → IsPartIn u d s → r ≡ s
same_rest u d r s a b =
    let numbers : a.number ≡ b.number = same_number 32 d a.number b.number a.parses b.parses in
    let products : r * 10 ^ length d ≡ s * 10 ^ length d = sym a.exact ∙ (ap (λ n. n * microseconds_of u) numbers ∙ b.exact) in
    let some : 0 < 10 ^ length d = one-le-pow (length d) 10 (omega arith) in
    sym (mul-div_cancel r some) ∙ (ap (λ n. n / 10 ^ length d) products ∙ mul-div_cancel s some)

-- no part, no number with a point
pub no_part : (longest : ℕ) (u : Unit) (d p : List ℕ) → p ≡ after_first is_point d → IsNoPartIn u p → IsNoDecimalIn longest u d
no_part longest u d p is none n h = none h.rest (subst (λ q. IsPartIn u q h.rest) (sym is) h.part)

-- too much
pub too_much : (longest : ℕ) (u : Unit) (d w p : List ℕ) (count rest : ℕ) → w ≡ before_first is_point d → p ≡ after_first is_point d
    → ParsesUnsigned {E = ℕ} 64 10 w (Ok count) → IsPartIn u p rest → longest < count * microseconds_of u + rest → IsNoDecimalIn longest u d
too_much longest u d w p count rest front back parses part much n h =
    let counts : count ≡ h.count =
    same_number 64 w count h.count parses (subst (λ q. ParsesUnsigned {E = ℕ} 64 10 q (Ok h.count)) (sym front) h.parses) in
    let rests : rest ≡ h.rest = same_rest u p rest h.rest part (subst (λ q. IsPartIn u q h.rest) (sym back) h.part) in
    let sums : count * microseconds_of u + rest ≡ n = ap₂ (λ c r. c * microseconds_of u + r) counts rests ∙ sym h.times in
    let most : n ≤ longest = h.most in
    omega (arith, much, sums, most)

pub neither : (longest : ℕ) (u : Unit) (d : List ℕ) → IsNoWholeIn longest u d → IsNoDecimalIn longest u d → IsNoAmountIn longest u d
neither longest u d whole decimal n (inl h) = whole n h
neither longest u d whole decimal n (inr h) = decimal n h

pub no_amount : (longest : ℕ) (u : Unit) (t d : List ℕ) → t ≡ d ++ name_of u → IsNoAmountIn longest u d → IsNoTimeIn longest u t
no_amount longest u t d is none n h =
    let same : h.digits ≡ d = append_cancel_right h.digits d (name_of u) (sym h.written ∙ is) in
    none n (subst (λ q. IsAmountIn longest u q n) same h.is)
