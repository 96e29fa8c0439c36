-- The number with which all levels have all seats together.
use Rattle.std.proofs.Common.{◌≡◌, ℕ, zero, suc, ◌+◌, ◌*◌, ◌-◌, ◌<◌, ◌≤◌, ◌∙◌, sym, inl, inr, List, [], ◌∷◌, All, min, max, arith, ap}
use Rattle.std.proofs.Math.Nat.{mul-le-mul_right, lt_of_mul-lt-mul_right, add-mul, one-le-mul, suc-mul}
use Rattle.std.proofs.lemmas.Bool.{cases_lt}
use Rattle.std.proofs.lemmas.List.Elements.{All-head, All-tail, All-contains}
use Rattle.apf_lending.specs.declared.claim.Claim.{Claim}
use Rattle.apf_lending.specs.declared.fraction.Fraction.{Fraction}
use Rattle.apf_lending.specs.Claims.{IsClaim, sum_of_current}
use Rattle.apf_lending.specs.Shares.{share_of, sum_of_shares, reach_by, sum_of_reach, IsFactor}
use Rattle.apf_lending.specs.Breaks.{IsLess, IsUpTo, IsOneOf, AreApart, Reaches, breaks_by, breaks_of, sum_of_fixed, sum_of_free}
use Rattle.apf_lending.proofs.Segments.{All-left, All-right, at_current, at_most, linear}

-- ---- where the number is as great as can be

reach_of : (f : Fraction) (t current most : ℕ) → current ≤ most → All (λ b. IsUpTo b f) (breaks_by t current most)
    → min (most * f.under) (max (current * f.under) (f.over * t)) ≡ reach_by t current most * f.under
reach_of f zero current most order below =
    at_current (most * f.under) (current * f.under) (f.over * 0) (mul-le-mul_right f.under order) (omega arith)
reach_of f (suc n) current most order below =
    let P : Fraction → Type 0 = λ b. IsUpTo b f in
    let first : Fraction = record { over = current; under = suc n } in
    let last : Fraction = record { over = most; under = suc n } in
    at_most (most * f.under) (current * f.under) (f.over * suc n) (mul-le-mul_right f.under order) (All-head P last [] (All-tail P first (last ∷ []) below))

reach_by_claim : (f : Fraction) (claim : Claim) → claim.current ≤ claim.max → All (λ b. IsUpTo b f) (breaks_by claim.target claim.current claim.max)
    → share_of f claim ≡ reach_by claim.target claim.current claim.max * f.under
unfolding share_of
reach_by_claim f claim order below = reach_of f claim.target claim.current claim.max order below

sum_of_two : (a b m one rest : ℕ) → one ≡ a * m → rest ≡ b * m → one + rest ≡ (a + b) * m
sum_of_two a b m one rest e h = rw (add-mul a b m) (omega (arith, e, h))

-- with a number that no break is above all have all that they can
pub whole_reach : (f : Fraction) (claims : List Claim) → All IsClaim claims → All (λ b. IsUpTo b f) (breaks_of claims)
    → sum_of_shares f claims ≡ sum_of_reach claims * f.under
whole_reach f [] are below = omega arith
whole_reach f (claim ∷ claims) are below =
    let P : Fraction → Type 0 = λ b. IsUpTo b f in
    let own = breaks_by claim.target claim.current claim.max in
    let is = All-head IsClaim claim claims are in
    sum_of_two (reach_by claim.target claim.current claim.max) (sum_of_reach claims) f.under (share_of f claim) (sum_of_shares f claims)
    (reach_by_claim f claim is.borrows (All-left P own (breaks_of claims) below))
    (whole_reach f claims (All-tail IsClaim claim claims are) (All-right P own (breaks_of claims) below))

-- with it all have these seats, where they are not more than can be given out
pub reaches_all : (seats : ℕ) (f : Fraction) (claims : List Claim) → All IsClaim claims → All (λ b. IsUpTo b f) (breaks_of claims)
    → seats ≤ sum_of_reach claims → Reaches seats claims f
reaches_all seats f claims are below reach =
    let most = mul-le-mul_right f.under reach in
    omega (arith, most, whole_reach f claims are below)

-- ---- where the number is 0

none_of : (m current most t : ℕ) → current ≤ most → min (most * m) (max (current * m) (0 * t)) ≡ current * m
none_of m current most t order = at_current (most * m) (current * m) (0 * t) (mul-le-mul_right m order) (omega arith)

none_by_claim : (f : Fraction) (claim : Claim) → f.over ≡ 0 → claim.current ≤ claim.max → share_of f claim ≡ claim.current * f.under
unfolding share_of
none_by_claim f claim none order = rw none (none_of f.under claim.current claim.max claim.target order)

-- with 0 all have what they asked for at once
pub none : (f : Fraction) (claims : List Claim) → f.over ≡ 0 → All IsClaim claims → sum_of_shares f claims ≡ sum_of_current claims * f.under
none f [] zero_over are = omega arith
none f (claim ∷ claims) zero_over are =
    sum_of_two claim.current (sum_of_current claims) f.under (share_of f claim) (sum_of_shares f claims)
    (none_by_claim f claim zero_over (All-head IsClaim claim claims are).borrows)
    (none f claims zero_over (All-tail IsClaim claim claims are))

strictly : (a b m : ℕ) → 1 ≤ m → a < b → a * m < b * m
strictly a b m some less = let up = mul-le-mul_right m less in omega (arith, up, suc-mul a m, some)

none_short : (seats : ℕ) (f : Fraction) (claims : List Claim) → 1 ≤ f.under → f.over ≡ 0 → All IsClaim claims → sum_of_current claims < seats
    → sum_of_shares f claims < seats * f.under
none_short seats f claims some zero_over are more =
    let less = strictly (sum_of_current claims) seats f.under some more in
    omega (arith, less, none f claims zero_over are)

-- a number with which all have more than they asked for at once is not 0
pub not_zero : (seats : ℕ) (f : Fraction) (claims : List Claim) → 1 ≤ f.under → All IsClaim claims → sum_of_current claims < seats → Reaches seats claims f
    → 1 ≤ f.over
not_zero seats f claims some are more reaches =
    elim (cases_lt 0 f.over) [ inl h ↦ h | inr h ↦ absurd (omega (arith, none_short seats f claims some (omega arith) are more, reaches)) ]

-- ---- between the two ends of a segment

-- below the least number with which all have these seats they have fewer
pub short_below : (seats : ℕ) (below from : Fraction) (claims : List Claim) → 1 ≤ below.under → All IsClaim claims → sum_of_current claims < seats
    → IsOneOf below (breaks_of claims) → IsLess below from → All (λ b. Reaches seats claims b → IsUpTo from b) (breaks_of claims)
    → sum_of_shares below claims < seats * below.under
short_below seats below from claims some are more (inl is) less least =
    none_short seats below claims some (ap (λ (f : Fraction). f.over) is) are more
short_below seats below from claims some are more (inr at) less least =
    elim (cases_lt (sum_of_shares below claims) (seats * below.under)) [
      | inl h ↦ h
      | inr h ↦ absurd (omega (arith, All-contains (λ b. Reaches seats claims b → IsUpTo from b) (breaks_of claims) below least at h, less))
    ]

-- the factor of a segment of which one end is too low and the other is not
record IsWithin (fixed free d p q r s : ℕ) : Type 0 where
  some : 1 ≤ free
  low : p * free ≤ d * q
  high : d * s ≤ r * free

some_free : (d r s free : ℕ) → 1 ≤ d → 1 ≤ s → d * s ≤ r * free → 1 ≤ free
some_free d r s zero some some_s high = absurd (omega (arith, one-le-mul some some_s, high))
some_free d r s (suc n) some some_s high = omega arith

within : (fixed free d p q r s : ℕ) → 1 ≤ d → 1 ≤ s → fixed * q + p * free < (fixed + d) * q → (fixed + d) * s ≤ fixed * s + r * free
    → IsWithin fixed free d p q r s
within fixed free d p q r s some some_s low high =
    let wide = add-mul fixed d q in
    let long = add-mul fixed d s in
    let top : d * s ≤ r * free = omega (arith, long, high) in
    record { some = some_free d r s free some some_s top; low = omega (arith, wide, low); high = top }

pub few_fixed : (seats fixed free p q : ℕ) → fixed * q + p * free < seats * q → fixed < seats
few_fixed seats fixed free p q low = lt_of_mul-lt-mul_right q (omega (arith, low))

-- what stands between the two ends is below all seats
pub fixed_below : (seats : ℕ) (below from : Fraction) (claims : List Claim) → 1 ≤ below.under → 1 ≤ from.under → All IsClaim claims → IsLess below from
    → AreApart below from (breaks_of claims) → sum_of_shares below claims < seats * below.under → sum_of_fixed below from claims < seats
fixed_below seats below from claims some_below some_from are less apart short =
    let at = linear below from below claims some_below some_from are apart (record { low = omega arith; high = omega (arith, less) }) in
    few_fixed seats (sum_of_fixed below from claims) (sum_of_free below from claims) below.over below.under (omega (arith, at, short))

-- the number of the segment is that with which all have all seats
pub factor_in : (seats : ℕ) (below from : Fraction) (claims : List Claim) → 1 ≤ below.under → 1 ≤ from.under → All IsClaim claims → IsLess below from
    → AreApart below from (breaks_of claims) → sum_of_shares below claims < seats * below.under → Reaches seats claims from
    → IsFactor seats claims (record { over = seats - sum_of_fixed below from claims; under = sum_of_free below from claims })
factor_in seats below from claims some_below some_from are less apart short reaches =
    let fixed = sum_of_fixed below from claims in
    let free = sum_of_free below from claims in
    let few = fixed_below seats below from claims some_below some_from are less apart short in
    let whole : fixed + (seats - fixed) ≡ seats = omega (arith, few) in
    let at_below = linear below from below claims some_below some_from are apart (record { low = omega arith; high = omega (arith, less) }) in
    let at_from = linear below from from claims some_below some_from are apart (record { low = omega (arith, less); high = omega arith }) in
    let low : fixed * below.under + below.over * free < (fixed + (seats - fixed)) * below.under = rw whole (omega (arith, at_below, short)) in
    let high : (fixed + (seats - fixed)) * from.under ≤ fixed * from.under + from.over * free = rw whole (omega (arith, at_from, reaches)) in
    let is = within fixed free (seats - fixed) below.over below.under from.over from.under (omega (arith, few)) some_from low high in
    let f : Fraction = record { over = seats - fixed; under = free } in
    let sum = linear below from f claims some_below some_from are apart (record { low = is.low; high = is.high }) in
    record { some = is.some; exact = sum ∙ (sym (add-mul fixed (seats - fixed) free) ∙ ap (λ n. n * free) whole) }
