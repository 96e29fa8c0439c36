-- A file line by line.
use Rattle.std.proofs.Common.{◌≡◌, ◌≢◌, ℕ, zero, suc, ◌+◌, ◌<◌, List, [], ◌∷◌, length, get_or, take, drop, refl, arith, true, false}
use Rattle.std.specs.Prelude.{nat_eq}
use Rattle.std.proofs.lemmas.Bool.Decides.{nat_tests}
use Rattle.apf_traces.specs.TraceFile.{lines_of}

no_lf : (b : ℕ) → b ≢ 10 → nat_eq b 10 ≡ false
no_lf b h = grind (arith, nat_tests)

-- a line that ends at k
pub lines_of-line : (bs : List ℕ) (k : ℕ) → k < length bs → get_or bs k 0 ≡ 10 → ((j : ℕ) → j < k → get_or bs j 0 ≢ 10)
    → lines_of bs ≡ record { bytes = take k bs; is_ended = true } ∷ lines_of (drop (k + 1) bs)
lines_of-line [] k within lf none = absurd (omega arith)
lines_of-line (b ∷ bs) zero within lf none =
    let is_lf : nat_eq b 10 ≡ true = rw lf refl in
    rw is_lf refl
lines_of-line (b ∷ bs) (suc k) within lf none =
    let not_lf : nat_eq b 10 ≡ false = no_lf b (none 0 (omega arith)) in
    let next : suc k + 1 ≡ suc (k + 1) = omega arith in
    rw (not_lf, next, lines_of-line bs k (omega arith) lf (λ j h. none (suc j) (omega arith))) refl

-- bytes with no end of a line
pub lines_of-rest : (bs : List ℕ) → 0 < length bs → ((j : ℕ) → j < length bs → get_or bs j 0 ≢ 10)
    → lines_of bs ≡ record { bytes = bs; is_ended = false } ∷ []
lines_of-rest [] some none = absurd (omega arith)
lines_of-rest (b ∷ []) some none =
    let not_lf : nat_eq b 10 ≡ false = no_lf b (none 0 (omega arith)) in
    rw not_lf refl
lines_of-rest (b ∷ c ∷ bs) some none =
    let not_lf : nat_eq b 10 ≡ false = no_lf b (none 0 (omega arith)) in
    rw (not_lf, lines_of-rest (c ∷ bs) (omega arith) (λ j h. none (suc j) (omega arith))) refl
