-- Bytes cut at their first blank.
use Rattle.std.proofs.Common.{◌≡◌, ◌≢◌, ℕ, zero, suc, ◌+◌, ◌<◌, List, [], ◌∷◌, length, get_or, take, drop, Some, None, refl, arith, true, false}
use Rattle.std.specs.Prelude.{nat_eq}
use Rattle.std.proofs.lemmas.Bool.Decides.{nat_tests}
use Rattle.apf_protocol.specs.Lines.{cut_of}

no_blank : (b : ℕ) → b ≢ 32 → nat_eq b 32 ≡ false
no_blank b h = grind (arith, nat_tests)

-- bytes whose first blank stands at k
pub cut_at : (bs : List ℕ) (k : ℕ) → k < length bs → get_or bs k 0 ≡ 32 → ((j : ℕ) → j < k → get_or bs j 0 ≢ 32)
    → cut_of bs ≡ Some (record { front = take k bs; rest = drop (k + 1) bs })
cut_at [] k within blank before = absurd (omega arith)
cut_at (b ∷ bs) zero within blank before =
    let is_blank : nat_eq b 32 ≡ true = rw blank refl in
    rw is_blank refl
cut_at (b ∷ bs) (suc k) within blank before =
    let other : nat_eq b 32 ≡ false = no_blank b (before 0 (omega arith)) in
    let next : suc k + 1 ≡ suc (k + 1) = omega arith in
    rw (other, next, cut_at bs k (omega arith) blank (λ j h. before (suc j) (omega arith))) refl

-- bytes without a blank
pub uncut : (bs : List ℕ) → ((j : ℕ) → j < length bs → get_or bs j 0 ≢ 32) → cut_of bs ≡ None
uncut [] before = refl
uncut (b ∷ bs) before =
    let other : nat_eq b 32 ≡ false = no_blank b (before 0 (omega arith)) in
    rw (other, uncut bs (λ j h. before (suc j) (omega arith))) refl
