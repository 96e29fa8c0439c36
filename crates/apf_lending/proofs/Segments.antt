-- What levels have by a number between two breaks is linear in it.
use Rattle.std.proofs.Common.{◌≡◌, ℕ, zero, suc, ◌+◌, ◌*◌, ◌<◌, ◌≤◌, ◌∙◌, inl, inr, List, [], ◌∷◌, ◌++◌, All, nat_le, Bool, true, false, cond, min, max, arith, refl}
use Rattle.std.proofs.Math.Nat.{mul-le-mul_right, min-eq_right, min-eq_left, max-eq_left, max-eq_right, add-mul, mul-add}
use Rattle.std.proofs.lemmas.Bool.{cases_lt, leb-true, leb-false}
use Rattle.std.proofs.lemmas.List.Elements.{All-head, All-tail, All-nil, All-cons}
use Rattle.apf_lending.specs.declared.claim.Claim.{Claim}
use Rattle.apf_lending.specs.declared.fraction.Fraction.{Fraction}
use Rattle.apf_lending.specs.Claims.{IsClaim}
use Rattle.apf_lending.specs.Shares.{share_of, sum_of_shares}
use Rattle.apf_lending.specs.Breaks.{IsLess, IsUpTo, AreApart, breaks_by, breaks_of, fixed_by, free_by, sum_of_fixed, sum_of_free}
use Rattle.apf_lending.proofs.Order.{chain}

-- the limits as they are, where what a number makes of the target lies below, above or between them
pub at_current : (most current part : ℕ) → current ≤ most → part ≤ current → min most (max current part) ≡ current
at_current most current part order low = rw max-eq_left (rw min-eq_right refl)

pub at_most : (most current part : ℕ) → current ≤ most → most ≤ part → min most (max current part) ≡ most
at_most most current part order high = let up : current ≤ part = omega arith in rw max-eq_right (rw min-eq_left refl)

at_part : (most current part : ℕ) → current ≤ part → part ≤ most → min most (max current part) ≡ part
at_part most current part low high = rw max-eq_right (rw min-eq_right refl)

-- ---- one level, between two numbers p / q and r / s

-- a number n / m from p / q to r / s
pub record IsBetween (below from f : Fraction) : Type 0 where
  pub low : IsUpTo below f
  pub high : IsUpTo f from

-- below the limit x where r / s is
part_below : (below from f : Fraction) (x t : ℕ) → 1 ≤ from.under → IsBetween below from f → from.over * t ≤ x * from.under → f.over * t ≤ x * f.under
part_below below from f x t some between at = chain f.over f.under from.over from.under x t some between.high at

-- above the limit x where p / q is
part_above : (below from f : Fraction) (x t : ℕ) → 1 ≤ below.under → IsBetween below from f → x * below.under ≤ below.over * t → x * f.under ≤ f.over * t
part_above below from f x t some between at = chain x t below.over below.under f.over f.under some at between.low

-- each of the breaks of a level lies at most at the one, or at least at the other
record AreApartBy (below from : Fraction) (t current most : ℕ) : Type 0 where
  at_current : current * from.under < from.over * t → current * below.under ≤ below.over * t
  at_most : most * from.under < from.over * t → most * below.under ≤ below.over * t

apart_zero : (below from : Fraction) (current most : ℕ) → AreApartBy below from 0 current most
apart_zero below from current most = record { at_current = λ h. absurd (omega arith); at_most = λ h. absurd (omega arith) }

apart_of : (below from : Fraction) (t current most : ℕ) → AreApart below from (breaks_by t current most) → AreApartBy below from t current most
apart_of below from zero current most apart = apart_zero below from current most
apart_of below from (suc n) current most apart =
    let P : Fraction → Type 0 = λ b. IsLess b from → IsUpTo b below in
    let first : Fraction = record { over = current; under = suc n } in
    let last : Fraction = record { over = most; under = suc n } in
    record {
      at_current = λ h. All-head P first (last ∷ []) apart h;
      at_most = λ h. All-head P last [] (All-tail P first (last ∷ []) apart) h;
    }

-- what a level has is its fixed limit, or so many times its target
piece_by : (below from f : Fraction) (t current most : ℕ) (low high : Bool) → 1 ≤ below.under → 1 ≤ from.under → current ≤ most → AreApartBy below from t current most
    → IsBetween below from f → nat_le (from.over * t) (current * from.under) ≡ low → nat_le (most * below.under) (below.over * t) ≡ high
    → min (most * f.under) (max (current * f.under) (f.over * t))
    ≡ cond low current (cond high most 0) * f.under + f.over * cond low 0 (cond high 0 t)
piece_by below from f t current most true high some_below some_from order apart between is_low is_high =
    let low = part_below below from f current t some_from between (leb-true _ _ is_low) in
    let up = mul-le-mul_right f.under order in
    at_current (most * f.under) (current * f.under) (f.over * t) up low ∙ omega arith
piece_by below from f t current most false true some_below some_from order apart between is_low is_high =
    let high = part_above below from f most t some_below between (leb-true _ _ is_high) in
    let up = mul-le-mul_right f.under order in
    at_most (most * f.under) (current * f.under) (f.over * t) up high ∙ omega arith
piece_by below from f t current most false false some_below some_from order apart between is_low is_high =
    let above = leb-false _ _ is_low in
    let under = leb-false _ _ is_high in
    let low = part_above below from f current t some_below between (apart.at_current above) in
    let at : from.over * t ≤ most * from.under = elim (cases_lt (most * from.under) (from.over * t)) [ inl h ↦ absurd (omega (arith, apart.at_most h, under)) | inr h ↦ h ] in
    let high = part_below below from f most t some_from between at in
    at_part (most * f.under) (current * f.under) (f.over * t) low high ∙ omega arith

piece : (below from f : Fraction) (claim : Claim) → 1 ≤ below.under → 1 ≤ from.under → claim.current ≤ claim.max
    → AreApart below from (breaks_by claim.target claim.current claim.max) → IsBetween below from f
    → share_of f claim ≡ fixed_by below from claim * f.under + f.over * free_by below from claim
unfolding share_of
piece below from f claim some_below some_from order apart between =
    piece_by below from f claim.target claim.current claim.max (nat_le (from.over * claim.target) (claim.current * from.under))
    (nat_le (claim.max * below.under) (below.over * claim.target)) some_below some_from order
    (apart_of below from claim.target claim.current claim.max apart) between refl refl

-- ---- all levels

pub All-left : (P : Fraction → Type 0) (xs ys : List Fraction) → All P (xs ++ ys) → All P xs
All-left P [] ys h = All-nil P
All-left P (x ∷ xs) ys h = All-cons P x xs (All-head P x (xs ++ ys) h) (All-left P xs ys (All-tail P x (xs ++ ys) h))

pub All-right : (P : Fraction → Type 0) (xs ys : List Fraction) → All P (xs ++ ys) → All P ys
All-right P [] ys h = h
All-right P (x ∷ xs) ys h = All-right P xs ys (All-tail P x (xs ++ ys) h)

sum_step : (a b c d m n share rest : ℕ) → share ≡ a * m + n * b → rest ≡ c * m + n * d → share + rest ≡ (a + c) * m + n * (b + d)
sum_step a b c d m n share rest one others = rw (add-mul a c m, mul-add n b d) (omega (arith, one, others))

-- between two breaks what all have is the fixed limits, and the number times the targets of the others
pub linear : (below from f : Fraction) (claims : List Claim) → 1 ≤ below.under → 1 ≤ from.under → All IsClaim claims → AreApart below from (breaks_of claims)
    → IsBetween below from f → sum_of_shares f claims ≡ sum_of_fixed below from claims * f.under + f.over * sum_of_free below from claims
linear below from f [] some_below some_from are apart between = omega arith
linear below from f (claim ∷ claims) some_below some_from are apart between =
    let P : Fraction → Type 0 = λ b. IsLess b from → IsUpTo b below in
    let own = breaks_by claim.target claim.current claim.max in
    let is = All-head IsClaim claim claims are in
    sum_step (fixed_by below from claim) (free_by below from claim) (sum_of_fixed below from claims) (sum_of_free below from claims) f.under f.over
    (share_of f claim) (sum_of_shares f claims)
    (piece below from f claim some_below some_from is.borrows (All-left P own (breaks_of claims) apart) between)
    (linear below from f claims some_below some_from (All-tail IsClaim claim claims are) (All-right P own (breaks_of claims) apart) between)
