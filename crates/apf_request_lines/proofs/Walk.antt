-- One pair after the other, up to the one that has the key.
use Rattle.std.proofs.Common.{◌≡◌, ℕ, suc, ◌-◌, ◌+◌, ◌≤◌, ◌<◌, List, true, false, Option, Some, None, Result, Ok, Err, refl, sym, ap, ◌∙◌, arith, cond}
use Rattle.std.specs.Prelude.{bytes_eq}
use Rattle.apf_request_lines.specs.declared.fault.RequestLineFault.{RequestLineFault}
use Rattle.apf_request_lines.specs.Faults.{◌>>=◌}
use Rattle.apf_request_lines.specs.Pairs.{Pair, Written, pair_at, value_among, value_or}

-- what is found from here on is what this pair gives, or what stands behind it
pub step : (n i : ℕ) (key bytes : List ℕ) → i < n → value_among (n - i) key bytes ≡ (pair_at bytes >>= value_or (value_among (n - (i + 1)) key) key)
unfolding value_among
step n i key bytes less =
    let more : n - i ≡ suc (n - (i + 1)) = omega arith in
    rw more refl

-- the pair has a fault
pub ends : (fault : RequestLineFault) (n i : ℕ) (key bytes : List ℕ) (total : Result (Option Written) RequestLineFault) → i < n → pair_at bytes ≡ Err fault
    → value_among (n - i) key bytes ≡ total → total ≡ Err fault
ends fault n i key bytes total less has so_far = sym so_far ∙ step n i key bytes less ∙ ap (λ found. found >>= value_or (value_among (n - (i + 1)) key) key) has

-- no pair is left
pub is_none : (n i : ℕ) (key bytes : List ℕ) (total : Result (Option Written) RequestLineFault) → i < n → pair_at bytes ≡ Ok None → value_among (n - i) key bytes ≡ total → total ≡ Ok None
is_none n i key bytes total less has so_far = sym so_far ∙ step n i key bytes less ∙ ap (λ found. found >>= value_or (value_among (n - (i + 1)) key) key) has

-- the pair has the key
pub is_found : (n i : ℕ) (key bytes : List ℕ) (p : Pair) (total : Result (Option Written) RequestLineFault) → i < n → pair_at bytes ≡ Ok (Some p) → bytes_eq p.key key ≡ true
    → value_among (n - i) key bytes ≡ total → total ≡ Ok (Some p.value)
is_found n i key bytes p total less has same so_far =
    sym so_far ∙ step n i key bytes less ∙ ap (λ found. found >>= value_or (value_among (n - (i + 1)) key) key) has
    ∙ ap (λ b. cond b (Ok (Some p.value)) (value_among (n - (i + 1)) key p.rest)) same

-- it has another key
pub goes_on : (n i : ℕ) (key bytes : List ℕ) (p : Pair) (total : Result (Option Written) RequestLineFault) → i < n → pair_at bytes ≡ Ok (Some p) → bytes_eq p.key key ≡ false
    → value_among (n - i) key bytes ≡ total → value_among (n - (i + 1)) key p.rest ≡ total
goes_on n i key bytes p total less has other so_far =
    sym (step n i key bytes less ∙ ap (λ found. found >>= value_or (value_among (n - (i + 1)) key) key) has
    ∙ ap (λ b. cond b (Ok (Some p.value)) (value_among (n - (i + 1)) key p.rest)) other) ∙ so_far

-- all were tried
pub is_over : (n i : ℕ) (key bytes : List ℕ) (total : Result (Option Written) RequestLineFault) → n ≤ i → value_among (n - i) key bytes ≡ total → total ≡ Ok None
unfolding value_among
is_over n i key bytes total all so_far =
    let none : n - i ≡ 0 = omega arith in
    let one : value_among (n - i) key bytes ≡ Ok None = rw none refl in
    sym so_far ∙ one
