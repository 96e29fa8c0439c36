-- Round numbers, and which of them are enough.
use Rattle.std.proofs.Common.{◌≡◌, ℕ, zero, suc, ◌*◌, ◌<◌, ◌≤◌, ◌^◌, ◌⊎◌, inl, inr, sym, ◌∙◌, ap, subst, arith, mul_assoc, mul_comm, pow-suc, one-mul, not-suc-le-zero}
use Rattle.std.proofs.lemmas.Bool.{cases_order, cases_lt, cases_eq}
use Rattle.apf_picture.specs.Scales.{IsRound, IsStep}

-- a power of ten of units
abbrev pub IsPower : (unit one : ℕ) → Type 0
IsPower unit one = (k : ℕ) × (one ≡ 10 ^ k * unit)

-- no round number below this one is enough: an opaque word, as it is of all of them
unfoldable pub IsTooFew : (end unit one : ℕ) → Type 0
IsTooFew end unit one = (other : ℕ) → IsRound unit other → other < one → other * 10 < end

ten_more : (k unit : ℕ) → 10 ^ suc k * unit ≡ 10 * (10 ^ k * unit)
ten_more k unit = ap (λ (n : ℕ). n * unit) (pow-suc 10 k) ∙ ap (λ (n : ℕ). n * unit) (mul_comm (10 ^ k) 10) ∙ mul_assoc 10 (10 ^ k) unit

pub power_more : (unit one : ℕ) → IsPower unit one → IsPower unit (one * 10)
power_more unit one is = (suc is.0, mul_comm one 10 ∙ ap (λ (n : ℕ). 10 * n) is.1 ∙ sym (ten_more is.0 unit))

apart_by : (p q unit : ℕ) → (p ≡ q) ⊎ ((p ≡ q) → ⊥) → ((p < q) → 10 * (10 ^ p * unit) ≤ 10 ^ q * unit) → p < suc q → 10 * (10 ^ p * unit) ≤ 10 ^ suc q * unit
apart_by p q unit (inl same) less h =
    let e : 10 ^ p * unit ≡ 10 ^ q * unit = ap (λ (n : ℕ). 10 ^ n * unit) same in
    omega (arith, e, ten_more q unit)
apart_by p q unit (inr other) less h =
    let below : p < q = omega (arith, h, other) in
    omega (arith, less below, ten_more q unit)

-- powers are ten times apart
apart : (p q unit : ℕ) → p < q → 10 * (10 ^ p * unit) ≤ 10 ^ q * unit
apart p zero unit h = absurd (not-suc-le-zero h)
apart p (suc q) unit h = apart_by p q unit (cases_eq p q) (apart p q unit) h

-- one, two or five of them
abbrev IsSome : (x other : ℕ) → Type 0
IsSome x other = (other ≡ x) ⊎ ((other ≡ 2 * x) ⊎ (other ≡ 5 * x))

same_some : (x one other : ℕ) → x ≡ one → IsSome x other → IsSome one other
same_some x one other e some = subst (λ (n : ℕ). IsSome n other) e some

some_low : (x one other : ℕ) → 10 * x ≤ one → 0 < one → IsSome x other → other < one
some_low x one other low h (inl is) = omega (arith, low, h, is)
some_low x one other low h (inr (inl is)) = omega (arith, low, h, is)
some_low x one other low h (inr (inr is)) = omega (arith, low, h, is)

some_high : (x one other : ℕ) → 10 * one ≤ x → IsSome x other → 10 * one ≤ other
some_high x one other high (inl is) = omega (arith, high, is)
some_high x one other high (inr (inl is)) = omega (arith, high, is)
some_high x one other high (inr (inr is)) = omega (arith, high, is)

-- where a round number stands beside a power
abbrev IsBeside : (one other : ℕ) → Type 0
IsBeside one other = IsSome one other ⊎ ((other < one) ⊎ (10 * one ≤ other))

beside_by : (p k unit one other : ℕ) → one ≡ 10 ^ k * unit → 0 < one → IsSome (10 ^ p * unit) other → (p ≡ k) ⊎ ((p < k) ⊎ (k < p)) → IsBeside one other
beside_by p k unit one other e h some (inl same) = inl (same_some (10 ^ p * unit) one other (ap (λ (n : ℕ). 10 ^ n * unit) same ∙ sym e) some)
beside_by p k unit one other e h some (inr (inl less)) = inr (inl (some_low (10 ^ p * unit) one other (omega (arith, apart p k unit less, e)) h some))
beside_by p k unit one other e h some (inr (inr more)) = inr (inr (some_high (10 ^ p * unit) one other (omega (arith, apart k p unit more, e)) some))

beside : (unit one other : ℕ) → IsPower unit one → 0 < one → IsRound unit other → IsBeside one other
beside unit one other is h round = beside_by round.power is.0 unit one other is.1 h round.is (cases_order round.power is.0)

-- the first power is one unit, and no round number is below it
unit_within : (p unit : ℕ) → unit ≤ 10 ^ p * unit
unit_within zero unit = omega (arith, one-mul unit)
unit_within (suc p) unit = omega (arith, unit_within p unit, ten_more p unit)

first_by : (x unit other end : ℕ) → unit ≤ x → IsSome x other → other < unit → other * 10 < end
first_by x unit other end within (inl is) h = omega (arith, within, is, h)
first_by x unit other end within (inr (inl is)) h = omega (arith, within, is, h)
first_by x unit other end within (inr (inr is)) h = omega (arith, within, is, h)

pub power_first : (unit : ℕ) → IsPower unit unit
power_first unit = (0, sym (one-mul unit))

pub few_first : (end unit : ℕ) → IsTooFew end unit unit
unfolding IsTooFew
few_first end unit = λ other round h. first_by (10 ^ round.power * unit) unit other end (unit_within round.power unit) round.is h

few_by : (end one other : ℕ) → 5 * one * 10 < end → 0 < one → IsBeside one other → other < one * 10 → other * 10 < end
few_by end one other h some (inl (inl is)) below = omega (arith, h, is)
few_by end one other h some (inl (inr (inl is))) below = omega (arith, h, is)
few_by end one other h some (inl (inr (inr is))) below = omega (arith, h, is)
few_by end one other h some (inr (inl less)) below = omega (arith, h, less)
few_by end one other h some (inr (inr more)) below = omega (arith, more, below)

-- where five of a power are too few, so are all round numbers below the next power
pub few_more : (end unit one : ℕ) → IsPower unit one → 0 < one → 5 * one * 10 < end → IsTooFew end unit (one * 10)
unfolding IsTooFew
few_more end unit one is some h = λ other round below. few_by end one other h some (beside unit one other is some round) below

-- one, two or five of a power are the least that are enough
least_one : (end one other : ℕ) → (other < one → other * 10 < end) → (other < one) ⊎ (one ≤ other) → end ≤ other * 10 → one ≤ other
least_one end one other few (inl less) enough = let low = few less in omega (arith, low, enough)
least_one end one other few (inr more) enough = more

pub step_one : (end unit one : ℕ) → IsPower unit one → IsTooFew end unit one → end ≤ one * 10 → IsStep end unit one
unfolding IsTooFew
step_one end unit one is few enough = record {
  round = record { power = is.0; is = inl is.1 };
  few = enough;
  least = λ other round h. least_one end one other (few other round) (cases_lt other one) h;
}

least_two : (end one other : ℕ) → 0 < one → one * 10 < end → (other < one → other * 10 < end) → IsBeside one other → end ≤ other * 10 → 2 * one ≤ other
least_two end one other some short few (inl (inl is)) enough = omega (arith, short, is, enough)
least_two end one other some short few (inl (inr (inl is))) enough = omega (arith, is)
least_two end one other some short few (inl (inr (inr is))) enough = omega (arith, is)
least_two end one other some short few (inr (inl less)) enough = let low = few less in omega (arith, low, enough)
least_two end one other some short few (inr (inr more)) enough = omega (arith, more)

pub step_two : (end unit one : ℕ) → IsPower unit one → 0 < one → IsTooFew end unit one → one * 10 < end → end ≤ 2 * one * 10 → IsStep end unit (2 * one)
unfolding IsTooFew
step_two end unit one is some few short enough = record {
  round = record { power = is.0; is = inr (inl (ap (λ (n : ℕ). 2 * n) is.1)) };
  few = enough;
  least = λ other round h. least_two end one other some short (few other round) (beside unit one other is some round) h;
}

least_five : (end one other : ℕ) → 0 < one → 2 * one * 10 < end → (other < one → other * 10 < end) → IsBeside one other → end ≤ other * 10 → 5 * one ≤ other
least_five end one other some short few (inl (inl is)) enough = omega (arith, short, is, enough)
least_five end one other some short few (inl (inr (inl is))) enough = omega (arith, short, is, enough)
least_five end one other some short few (inl (inr (inr is))) enough = omega (arith, is)
least_five end one other some short few (inr (inl less)) enough = let low = few less in omega (arith, low, enough)
least_five end one other some short few (inr (inr more)) enough = omega (arith, more)

pub step_five : (end unit one : ℕ) → IsPower unit one → 0 < one → IsTooFew end unit one → 2 * one * 10 < end → end ≤ 5 * one * 10 → IsStep end unit (5 * one)
unfolding IsTooFew
step_five end unit one is some few short enough = record {
  round = record { power = is.0; is = inr (inr (ap (λ (n : ℕ). 5 * n) is.1)) };
  few = enough;
  least = λ other round h. least_five end one other some short (few other round) (beside unit one other is some round) h;
}
