-- Where the numbers of pairs stand: no two at one place.
use Rattle.std.proofs.Common.{◌≡◌, ◌≢◌, ℕ, ◌+◌, ◌*◌, ◌<◌, ◌≤◌, inl, inr, Bool, true, false, List, length, get_or, sym, ap, ◌∙◌, arith}
use Rattle.std.specs.Prelude.{◌==◌, ◌&&◌, if◌then◌else◌, slice_index, replicate}
use Rattle.std.proofs.Math.ListN.{set, get_or-eq_default}
use Rattle.std.proofs.Math.Nat.{mul-le-mul_right}
use Rattle.std.proofs.lemmas.Bool.{cases_eq, cases_lt, eq-eqb, ne_eqb}
use Rattle.std.proofs.lemmas.List.{get_or-replicate, length-replicate, get_or-set_same, get_or-set_other}

pub zeros : (n q : ℕ) → slice_index (replicate n 0) q ≡ 0
zeros n q = elim (cases_lt q n) [
  | inl low ↦ get_or-replicate n q 0 0 low
  | inr high ↦ (let long : length (replicate {A = ℕ} n 0) ≡ n = length-replicate n 0 in get_or-eq_default (replicate n 0) 0 (omega arith))
]

before : (n x y busy other : ℕ) → x < busy → y < n → x * n + y ≢ busy * n + other
before n x y busy other less low same =
    let rows : (x + 1) * n ≤ busy * n = mul-le-mul_right {m = x + 1} {n = busy} n (omega arith) in
    omega arith

-- the places of two pairs of different first queues are two
rows_apart : (n x y busy other : ℕ) → y < n → other < n → x ≢ busy → x * n + y ≢ busy * n + other
rows_apart n x y busy other low low' ne same = elim (cases_lt x busy) [
  | inl less ↦ before n x y busy other less low same
  | inr more ↦ (let more' : busy < x = omega arith in before n busy other x y more' low' (sym same))
]

-- after one number is put, the others are as they were
pub put_cell : (n : ℕ) (numbers : List ℕ) (busy other at v x y : ℕ) → at ≡ busy * n + other → at < length numbers → other < n → y < n
    → get_or (set numbers at v) (x * n + y) 0 ≡ (if (x == busy) && (y == other) then v else get_or numbers (x * n + y) 0)
put_cell n numbers busy other at v x y is inside low' low = elim (cases_eq x busy) [
  | inr ne ↦ (
      let away : x * n + y ≢ at = λ same. rows_apart n x y busy other low low' ne (same ∙ is) in
      get_or-set_other numbers at (x * n + y) v 0 away ∙ sym (ap (λ (b : Bool). if b && (y == other) then v else get_or numbers (x * n + y) 0) (ne_eqb x busy ne)))
  | inl same ↦ elim (cases_eq y other) [
    | inr ne ↦ (
        let at_row : x * n ≡ busy * n = ap (λ (k : ℕ). k * n) same in
        let away : x * n + y ≢ at = λ s. ne (omega arith) in
        get_or-set_other numbers at (x * n + y) v 0 away ∙ sym (ap (λ (b : Bool). if (x == busy) && b then v else get_or numbers (x * n + y) 0) (ne_eqb y other ne)
        ∙ ap (λ (b : Bool). if b && false then v else get_or numbers (x * n + y) 0) (eq-eqb x busy same)))
    | inl same' ↦ (
        let at_row : x * n ≡ busy * n = ap (λ (k : ℕ). k * n) same in
        let here : at ≡ x * n + y = omega arith in
        ap (λ (k : ℕ). get_or (set numbers k v) (x * n + y) 0) here ∙ (let inside' : x * n + y < length numbers = omega arith in get_or-set_same numbers (x * n + y) v 0 inside')
        ∙ sym (ap (λ (b : Bool). if b && (y == other) then v else get_or numbers (x * n + y) 0) (eq-eqb x busy same) ∙ ap (λ (b : Bool). if true && b then v else get_or numbers (x * n + y) 0) (eq-eqb y other same')))
  ]
]
