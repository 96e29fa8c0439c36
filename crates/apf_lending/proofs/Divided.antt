-- What holds of every division.
use Rattle.std.proofs.Common.{◌≡◌, ℕ, ◌+◌, ◌*◌, ◌-◌, ◌<◌, ◌≤◌, ◌⊎◌, ◌∙◌, sym, inl, inr, List, [], ◌∷◌, length, All, min, max, map, sum, arith, refl, ap}
use Rattle.std.specs.List.{sum_by}
use Rattle.std.proofs.lemmas.List.Sums.{sum-map, sum_by-cons}
use Rattle.std.proofs.Math.Nat.{mul-le-mul_left, mul-le-mul_right, le_of_mul-le-mul_right, add-mul, suc-mul, mul_comm, mul_assoc, mul_right_comm}
use Rattle.std.proofs.lemmas.Bool.{cases_lt}
use Rattle.std.proofs.lemmas.List.Elements.{All-head, All-tail}
use Rattle.apf_lending.specs.declared.claim.Claim.{Claim}
use Rattle.apf_lending.specs.declared.fraction.Fraction.{Fraction}
use Rattle.apf_lending.specs.Claims.{IsClaim, sum_of_min, sum_of_current}
use Rattle.apf_lending.specs.Shares.{share_of, sum_of_shares, sum_of_reach, IsFactor, limit_by, rounded}
use Rattle.apf_lending.specs.Divisions.{IsDivision, AreWithin, limit_of_part}
use Rattle.apf_lending.proofs.Rounding.{rounded_from, rounded_to, rounded_same, half_high, half_low}

-- ---- within the bounds

-- limits that are each within the bounds of their level
each_within : (limit : Claim → ℕ) → ((claim : Claim) → IsClaim claim → (claim.min ≤ limit claim) × (limit claim ≤ claim.max)) → (claims : List Claim)
    → All IsClaim claims → AreWithin claims (map limit claims)
each_within limit within [] are = tt
each_within limit within (claim ∷ claims) are =
    (within claim (All-head IsClaim claim claims are), each_within limit within claims (All-tail IsClaim claim claims are))

-- what a level has is from what it asked for at once up to its greatest limit
pub share_from : (f : Fraction) (claim : Claim) → IsClaim claim → claim.current * f.under ≤ share_of f claim
unfolding share_of
share_from f claim is = let up = mul-le-mul_right f.under is.borrows in omega (arith, up)

pub share_to : (f : Fraction) (claim : Claim) → share_of f claim ≤ claim.max * f.under
unfolding share_of
share_to f claim = omega arith

scaled_within : (f : Fraction) → 1 ≤ f.under → (claim : Claim) → IsClaim claim → (claim.min ≤ limit_by f claim) × (limit_by f claim ≤ claim.max)
scaled_within f some claim is =
    let low = rounded_from (share_of f claim) f.under claim.current some (share_from f claim is) in
    let high = rounded_to (share_of f claim) f.under claim.max some (share_to f claim) in
    (omega (arith, low, is.lends), high)

part_most : (above over under : ℕ) → 1 ≤ under → over ≤ under → rounded (above * over) under ≤ above
part_most above over under some part = rounded_to (above * over) under above some (mul-le-mul_left above part)

part_within : (over under : ℕ) → 1 ≤ under → over ≤ under → (claim : Claim) → IsClaim claim
    → (claim.min ≤ limit_of_part over under claim) × (limit_of_part over under claim ≤ claim.max)
part_within over under some part claim is =
    let small = part_most (claim.current - claim.min) over under some part in
    (omega arith, omega (arith, small, is.lends, is.borrows))

pub division_within : (seats : ℕ) (claims : List Claim) (limits : List ℕ) → All IsClaim claims → IsDivision seats claims limits → AreWithin claims limits
division_within seats claims limits are (IsDivision.least few is) =
    rw is (each_within (λ claim. claim.min) (λ claim c. (omega arith, omega (arith, c.lends, c.borrows))) claims are)
division_within seats claims limits are (IsDivision.part some few is) =
    rw is (each_within (limit_of_part (seats - sum_of_min claims) (sum_of_current claims - sum_of_min claims))
    (part_within (seats - sum_of_min claims) (sum_of_current claims - sum_of_min claims) (omega (arith, some, few)) (omega (arith, some, few))) claims are)
division_within seats claims limits are (IsDivision.scaled f some reach factor is) =
    rw is (each_within (limit_by f) (scaled_within f factor.some) claims are)
division_within seats claims limits are (IsDivision.most some reach is) =
    rw is (each_within (λ claim. claim.max) (λ claim c. (omega (arith, c.lends, c.borrows), omega arith)) claims are)

-- ---- one answer

mul-min : (a b m : ℕ) → min a b * m ≡ min (a * m) (b * m)
mul-min a b m = elim (cases_lt a b) [
  | inl h ↦ let up = mul-le-mul_right {m = a} {n = b} m (omega arith) in let low : min a b ≡ a = omega (arith, h) in rw low (omega (arith, up))
  | inr h ↦ let up = mul-le-mul_right {m = b} {n = a} m h in let low : min a b ≡ b = omega (arith, h) in rw low (omega (arith, up))
]

mul-max : (a b m : ℕ) → max a b * m ≡ max (a * m) (b * m)
mul-max a b m = elim (cases_lt a b) [
  | inl h ↦ let up = mul-le-mul_right {m = a} {n = b} m (omega arith) in let high : max a b ≡ b = omega (arith, h) in rw high (omega (arith, up))
  | inr h ↦ let up = mul-le-mul_right {m = b} {n = a} m h in let high : max a b ≡ a = omega (arith, h) in rw high (omega (arith, up))
]

-- with a greater number a level has no less
more_by : (most current t n m n' m' : ℕ) → n * m' ≤ n' * m
    → min (most * m) (max (current * m) (n * t)) * m' ≤ min (most * m') (max (current * m') (n' * t)) * m
more_by most current t n m n' m' up =
    let part : n * t * m' ≤ n' * t * m = omega (arith, mul-le-mul_right t up, mul_right_comm n t m', mul_right_comm n' t m) in
    let left = mul-min (most * m) (max (current * m) (n * t)) m' in
    let left_max = mul-max (current * m) (n * t) m' in
    let right = mul-min (most * m') (max (current * m') (n' * t)) m in
    let right_max = mul-max (current * m') (n' * t) m in
    omega (arith, part, left, left_max, right, right_max, mul_right_comm most m m', mul_right_comm current m m')

share_more : (f g : Fraction) (claim : Claim) → f.over * g.under ≤ g.over * f.under → share_of f claim * g.under ≤ share_of g claim * f.under
unfolding share_of
share_more f g claim up = more_by claim.max claim.current claim.target f.over f.under g.over g.under up

sum_more : (f g : Fraction) (claims : List Claim) → f.over * g.under ≤ g.over * f.under → sum_of_shares f claims * g.under ≤ sum_of_shares g claims * f.under
sum_more f g [] up = omega arith
sum_more f g (claim ∷ claims) up =
    rw (add-mul (share_of f claim) (sum_of_shares f claims) g.under, add-mul (share_of g claim) (sum_of_shares g claims) f.under)
    (omega (arith, share_more f g claim up, sum_more f g claims up))

-- where the sums are the same, so is each limit
same_limits : (f g : Fraction) (claims : List Claim) → 1 ≤ f.under → 1 ≤ g.under → f.over * g.under ≤ g.over * f.under
    → sum_of_shares f claims * g.under ≡ sum_of_shares g claims * f.under → map (limit_by f) claims ≡ map (limit_by g) claims
same_limits f g [] some_f some_g up same = refl
same_limits f g (claim ∷ claims) some_f some_g up same =
    let one = share_more f g claim up in
    let rest = sum_more f g claims up in
    let split_f = add-mul (share_of f claim) (sum_of_shares f claims) g.under in
    let split_g = add-mul (share_of g claim) (sum_of_shares g claims) f.under in
    let own : share_of f claim * g.under ≡ share_of g claim * f.under = omega (arith, one, rest, same, split_f, split_g) in
    let others : sum_of_shares f claims * g.under ≡ sum_of_shares g claims * f.under = omega (arith, one, rest, same, split_f, split_g) in
    let limit : limit_by f claim ≡ limit_by g claim = rounded_same (share_of g claim) g.under (share_of f claim) f.under some_g some_f own in
    ap (λ x. x ∷ map (limit_by f) claims) limit ∙ ap (λ xs. limit_by g claim ∷ xs) (same_limits f g claims some_f some_g up others)

same_sums : (seats m m' one other : ℕ) → one ≡ seats * m → other ≡ seats * m' → one * m' ≡ other * m
same_sums seats m m' one other e h = ap (λ x. x * m') e ∙ (mul_right_comm seats m m' ∙ sym (ap (λ x. x * m) h))

same_scaled : (seats : ℕ) (claims : List Claim) (f g : Fraction) → IsFactor seats claims f → IsFactor seats claims g
    → map (limit_by f) claims ≡ map (limit_by g) claims
same_scaled seats claims f g is_f is_g =
    let same = same_sums seats f.under g.under (sum_of_shares f claims) (sum_of_shares g claims) is_f.exact is_g.exact in
    elim (cases_lt (f.over * g.under) (g.over * f.under)) [
      | inl h ↦ same_limits f g claims is_f.some is_g.some (omega arith) same
      | inr h ↦ sym (same_limits g f claims is_g.some is_f.some h (sym same))
    ]

min_below : (claims : List Claim) → All IsClaim claims → sum_of_min claims ≤ sum_of_current claims
min_below [] are = omega arith
min_below (claim ∷ claims) are =
    omega (arith, (All-head IsClaim claim claims are).lends, min_below claims (All-tail IsClaim claim claims are))

pub same_division : (seats : ℕ) (claims : List Claim) (some other : List ℕ) → All IsClaim claims → IsDivision seats claims some → IsDivision seats claims other
    → some ≡ other
same_division seats claims a b are (IsDivision.least x is) (IsDivision.least y same) = is ∙ sym same
same_division seats claims a b are (IsDivision.least x is) (IsDivision.part y z same) = absurd (omega (arith, x, y))
same_division seats claims a b are (IsDivision.least x is) (IsDivision.scaled f y z factor same) = absurd (omega (arith, x, y, min_below claims are))
same_division seats claims a b are (IsDivision.least x is) (IsDivision.most y z same) = absurd (omega (arith, x, y, min_below claims are))
same_division seats claims a b are (IsDivision.part x w is) (IsDivision.least y same) = absurd (omega (arith, x, y))
same_division seats claims a b are (IsDivision.part x w is) (IsDivision.part y z same) = is ∙ sym same
same_division seats claims a b are (IsDivision.part x w is) (IsDivision.scaled f y z factor same) = absurd (omega (arith, w, y))
same_division seats claims a b are (IsDivision.part x w is) (IsDivision.most y z same) = absurd (omega (arith, w, y))
same_division seats claims a b are (IsDivision.scaled g x w number is) (IsDivision.least y same) = absurd (omega (arith, x, y, min_below claims are))
same_division seats claims a b are (IsDivision.scaled g x w number is) (IsDivision.part y z same) = absurd (omega (arith, x, z))
same_division seats claims a b are (IsDivision.scaled g x w number is) (IsDivision.scaled f y z factor same) =
    is ∙ (same_scaled seats claims g f number factor ∙ sym same)
same_division seats claims a b are (IsDivision.scaled g x w number is) (IsDivision.most y z same) = absurd (omega (arith, w, z))
same_division seats claims a b are (IsDivision.most x w is) (IsDivision.least y same) = absurd (omega (arith, x, y, min_below claims are))
same_division seats claims a b are (IsDivision.most x w is) (IsDivision.part y z same) = absurd (omega (arith, x, z))
same_division seats claims a b are (IsDivision.most x w is) (IsDivision.scaled f y z factor same) = absurd (omega (arith, w, z))
same_division seats claims a b are (IsDivision.most x w is) (IsDivision.most y z same) = is ∙ sym same

-- ---- the sum of all limits

-- a number of each level
sum_on : (Claim → ℕ) → List Claim → ℕ
sum_on of [] = 0
sum_on of (claim ∷ claims) = of claim + sum_on of claims

-- what is rounded for each is lost or won but for half of one for each
halves_high : (x : Claim → ℕ) (m : ℕ) → 1 ≤ m → (claims : List Claim)
    → 2 * (sum_on (λ claim. rounded (x claim) m) claims * m) ≤ 2 * sum_on x claims + length claims * m
unfolding sum_on
halves_high x m some [] = omega arith
halves_high x m some (claim ∷ claims) =
    let one = half_high (x claim) m some in
    let rest = halves_high x m some claims in
    omega (arith, one, rest, add-mul (rounded (x claim) m) (sum_on (λ c. rounded (x c) m) claims) m, suc-mul (length claims) m)

halves_low : (x : Claim → ℕ) (m : ℕ) → 1 ≤ m → (claims : List Claim)
    → 2 * sum_on x claims ≤ 2 * (sum_on (λ claim. rounded (x claim) m) claims * m) + length claims * m
unfolding sum_on
halves_low x m some [] = omega arith
halves_low x m some (claim ∷ claims) =
    let one = half_low (x claim) m some in
    let rest = halves_low x m some claims in
    omega (arith, one, rest, add-mul (rounded (x claim) m) (sum_on (λ c. rounded (x c) m) claims) m, suc-mul (length claims) m)

-- so it is of the whole
pub record AreNear (whole sum n : ℕ) : Type 0 where
  pub low : 2 * sum ≤ 2 * whole + n
  pub high : 2 * whole ≤ 2 * sum + n

near : (whole sum n m : ℕ) → 1 ≤ m → 2 * (sum * m) ≤ 2 * (whole * m) + n * m → 2 * (whole * m) ≤ 2 * (sum * m) + n * m → AreNear whole sum n
near whole sum n m some low high =
    let of_sum : (2 * sum) * m ≡ 2 * (sum * m) = mul_assoc 2 sum m in
    let of_whole : (2 * whole) * m ≡ 2 * (whole * m) = mul_assoc 2 whole m in
    let left : (2 * sum) * m ≤ (2 * whole + n) * m = omega (arith, low, of_sum, of_whole, add-mul (2 * whole) n m) in
    let right : (2 * whole) * m ≤ (2 * sum + n) * m = omega (arith, high, of_sum, of_whole, add-mul (2 * sum) n m) in
    record { low = le_of_mul-le-mul_right left (omega arith); high = le_of_mul-le-mul_right right (omega arith) }

halves : (x : Claim → ℕ) (whole m : ℕ) → 1 ≤ m → (claims : List Claim) → sum_on x claims ≡ whole * m
    → AreNear whole (sum_on (λ claim. rounded (x claim) m) claims) (length claims)
halves x whole m some claims is =
    let low = halves_high x m some claims in
    let high = halves_low x m some claims in
    near whole (sum_on (λ claim. rounded (x claim) m) claims) (length claims) m some (omega (arith, low, is)) (omega (arith, high, is))

by_on : (of : Claim → ℕ) (claims : List Claim) → sum_by of claims ≡ sum_on of claims
unfolding sum_on
by_on of [] = refl
by_on of (claim ∷ claims) = omega (arith, sum_by-cons of claim claims, by_on of claims)

sum_map : (of : Claim → ℕ) (claims : List Claim) → sum (map of claims) ≡ sum_on of claims
sum_map of claims = sum-map of claims ∙ by_on of claims

shares_on : (f : Fraction) (claims : List Claim) → sum_on (share_of f) claims ≡ sum_of_shares f claims
unfolding sum_on
shares_on f [] = refl
shares_on f (claim ∷ claims) = omega (arith, shares_on f claims)

mins_on : (claims : List Claim) → sum_on (λ claim. claim.min) claims ≡ sum_of_min claims
unfolding sum_on
mins_on [] = refl
mins_on (claim ∷ claims) = omega (arith, mins_on claims)

parts_on : (over : ℕ) (claims : List Claim) → All IsClaim claims
    → sum_on (λ claim. (claim.current - claim.min) * over) claims ≡ (sum_of_current claims - sum_of_min claims) * over
unfolding sum_on
parts_on over [] are = omega arith
parts_on over (claim ∷ claims) are =
    let rest_are = All-tail IsClaim claim claims are in
    let split = add-mul (claim.current - claim.min) (sum_of_current claims - sum_of_min claims) over in
    let whole : sum_of_current (claim ∷ claims) - sum_of_min (claim ∷ claims) ≡ (claim.current - claim.min) + (sum_of_current claims - sum_of_min claims) =
    omega (arith, (All-head IsClaim claim claims are).lends, min_below claims rest_are) in
    rw whole (omega (arith, split, parts_on over claims rest_are))

part_sum : (over under : ℕ) (claims : List Claim) → sum_on (limit_of_part over under) claims
    ≡ sum_of_min claims + sum_on (λ claim. rounded ((claim.current - claim.min) * over) under) claims
unfolding sum_on
part_sum over under [] = refl
part_sum over under (claim ∷ claims) = omega (arith, part_sum over under claims)

part_near : (seats low high sum n : ℕ) → low < seats → AreNear (seats - low) sum n → AreNear seats (low + sum) n
part_near seats low high sum n less is = record { low = omega (arith, is.low, less); high = omega (arith, is.high, less) }

pub division_near : (seats : ℕ) (claims : List Claim) (limits : List ℕ) → All IsClaim claims → IsDivision seats claims limits
    → sum_of_min claims ≤ seats → (seats ≤ sum_of_current claims) ⊎ (seats ≤ sum_of_reach claims) → AreNear seats (sum limits) (length claims)
division_near seats claims limits are (IsDivision.least few is) enough forbid =
    let all : sum limits ≡ sum_of_min claims = ap sum is ∙ (sum_map (λ claim. claim.min) claims ∙ mins_on claims) in
    record { low = omega (arith, all, few, enough); high = omega (arith, all, few, enough) }
division_near seats claims limits are (IsDivision.part some few is) enough forbid =
    let over = seats - sum_of_min claims in
    let under = sum_of_current claims - sum_of_min claims in
    let x : Claim → ℕ = λ claim. (claim.current - claim.min) * over in
    let all : sum limits ≡ sum_of_min claims + sum_on (λ claim. rounded (x claim) under) claims =
    ap sum is ∙ (sum_map (limit_of_part over under) claims ∙ part_sum over under claims) in
    let whole : sum_on x claims ≡ over * under = parts_on over claims are ∙ mul_comm under over in
    rw all (part_near seats (sum_of_min claims) 0 (sum_on (λ claim. rounded (x claim) under) claims) (length claims) some
    (halves x over under (omega (arith, some, few)) claims whole))
division_near seats claims limits are (IsDivision.scaled f some reach factor is) enough forbid =
    let all : sum limits ≡ sum_on (limit_by f) claims = ap sum is ∙ sum_map (limit_by f) claims in
    rw all (halves (share_of f) seats f.under factor.some claims (shares_on f claims ∙ factor.exact))
division_near seats claims limits are (IsDivision.most some reach is) enough (inl few) = absurd (omega (arith, some, few))
division_near seats claims limits are (IsDivision.most some reach is) enough (inr few) = absurd (omega (arith, reach, few))
