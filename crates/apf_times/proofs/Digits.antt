-- The first eight binary digits of a number, and its place by them.
use Rattle.std.proofs.Common.{◌≡◌, ℕ, suc, ◌+◌, ◌-◌, ◌*◌, ◌/◌, ◌%◌, ◌^◌, ◌<◌, ◌≤◌, sym, ap, ◌∙◌, subst, ⊎_elim, lit<, arith}
use Rattle.std.specs.Int.{w64, leading_zeros}
use Rattle.std.proofs.Math.Nat.{mul-le-mul_right, mod-eq_of_lt, pow-le-pow_right, pow-suc}
use Rattle.std.proofs.lemmas.Bool.{cases_lt, cases_order}
use Rattle.std.proofs.lemmas.Nat.{leading_length, pow_pos, pow-add, shr_split, mod_below, le-div, div_below}
use Rattle.apf_times.specs.Limits.{max_wait}
use Rattle.apf_times.specs.Waits.{digits_behind, shortened, place_of, max_places}

-- These are its first digits, with this many behind them. They are eight, or fewer with none behind them.
pub record HasDigits (n behind first : ℕ) : Type 0 where
  pub low : first * 2 ^ behind ≤ n
  pub high : n < first * 2 ^ behind + 2 ^ behind
  pub few : first < 256
  pub many : 0 < behind → 128 ≤ first

-- with p the power, n / p is n's first part
parted : (n b : ℕ) → (n / 2 ^ b * 2 ^ b ≤ n) × (n < n / 2 ^ b * 2 ^ b + 2 ^ b)
parted n b =
    let s = shr_split n b in
    let r = mod_below n (2 ^ b) (pow_pos b) in
    (omega arith, omega arith)

short_split : (n m : ℕ) → m < 9 → n < 2 ^ m → HasDigits n 0 (n / 2 ^ 0)
short_split n m short below =
    let most = pow-le-pow_right {n = 2} (lit< tt) {i = m} {j = 8} (omega arith) in
    let both = parted n 0 in
    record { low = both.0; high = both.1; few = omega arith; many = λ l. absurd (omega arith) }

long_split : (n b : ℕ) → n < 2 ^ (b + 8) → 2 ^ (b + 8) ≤ 2 * n + 1 → HasDigits n b (n / 2 ^ b)
long_split n b below above =
    let both = parted n b in
    let some = pow_pos b in
    let whole = pow-add 2 b 8 in
    let inside : n < 256 * 2 ^ b = omega arith in
    let half : 128 * 2 ^ b ≤ n = omega arith in
    record { low = both.0; high = both.1; few = div_below n (2 ^ b) 256 some inside; many = λ l. le-div 128 n (2 ^ b) some half }

split : (n m : ℕ) → n < 2 ^ m → 2 ^ m ≤ 2 * n + 1 → HasDigits n (m - 8) (n / 2 ^ (m - 8))
split n m below above =
    ⊎_elim
    (λ short. let none : 0 ≡ m - 8 = omega arith in subst (λ b. HasDigits n b (n / 2 ^ b)) none (short_split n m short below))
    (λ long. let all : m ≡ m - 8 + 8 = omega arith in long_split n (m - 8) (subst (λ k. n < 2 ^ k) all below) (subst (λ k. 2 ^ k ≤ 2 * n + 1) all above))
    (cases_lt m 9)

pub digits_of : (n : ℕ) → n < 2 ^ 64 → HasDigits n (digits_behind n) (n / 2 ^ digits_behind n)
unfolding digits_behind
digits_of n fits =
    let l = leading_length 64 n fits in
    let is : l.0 - 8 ≡ 64 - leading_zeros w64 n - 8 = omega arith in
    subst (λ b. HasDigits n b (n / 2 ^ b)) is (split n l.0 l.2 l.3)

-- a power is at most half of a greater one
twice : (a b : ℕ) → a < b → 2 * 2 ^ a ≤ 2 ^ b
twice a b l =
    let more = pow-suc 2 a in
    let up = pow-le-pow_right {n = 2} (lit< tt) {i = suc a} {j = b} (omega arith) in omega arith

-- of a number with digits behind its first eight
wide : (n b s : ℕ) → HasDigits n b s → 0 < b → 128 * 2 ^ b ≤ n
wide n b s h some =
    let low = h.low in
    let up = mul-le-mul_right (2 ^ b) (h.many some) in omega arith

-- a number is below 256 of its powers
narrow : (n b s : ℕ) → HasDigits n b s → n < 256 * 2 ^ b
narrow n b s h =
    let high = h.high in
    let few = h.few in
    let up = mul-le-mul_right {m = s + 1} {n = 256} (2 ^ b) (omega arith) in omega arith

no_less : (a b i s t : ℕ) → HasDigits a i s → HasDigits b i t → a ≤ b → s ≤ t
no_less a b i s t h k l =
    ⊎_elim {C = s ≤ t}
    (λ less. let up = mul-le-mul_right {m = t + 1} {n = s} (2 ^ i) (omega arith) in let low = h.low in let high = k.high in absurd (omega arith))
    (λ done. done)
    (cases_lt t s)

-- a number that is no less has no lower place
in_order : (a b i j s t : ℕ) → HasDigits a i s → HasDigits b j t → a ≤ b → 128 * i + s ≤ 128 * j + t
in_order a b i j s t h k l =
    ⊎_elim
    (λ e. let up = no_less a b j s t (subst (λ x. HasDigits a x s) e h) k l in omega arith)
    (⊎_elim
    (λ less. let few = h.few in let many = k.many in omega arith)
    (λ more. let up = twice j i more in let low = wide a i s h (omega arith) in let high = narrow b j t k in absurd (omega arith)))
    (cases_order i j)

-- nor fewer first digits
rising : (a b i j s t : ℕ) → HasDigits a i s → HasDigits b j t → a ≤ b → s * 2 ^ i ≤ t * 2 ^ j
rising a b i j s t h k l =
    ⊎_elim {C = s * 2 ^ i ≤ t * 2 ^ j}
    (λ e.
    let up = mul-le-mul_right (2 ^ j) (no_less a b j s t (subst (λ x. HasDigits a x s) e h) k l) in
    let same_power = ap (λ x. s * 2 ^ x) e in omega arith)
    (⊎_elim {C = s * 2 ^ i ≤ t * 2 ^ j}
    (λ less.
    let few = mul-le-mul_right {m = s} {n = 256} (2 ^ i) (let f = h.few in omega arith) in
    let many = mul-le-mul_right (2 ^ j) (k.many (omega arith)) in
    let half = twice i j less in omega arith)
    (λ more. let up = twice j i more in let low = wide a i s h (omega arith) in let high = narrow b j t k in absurd (omega arith)))
    (cases_order i j)

same : (a b i j s t : ℕ) → HasDigits a i s → HasDigits b j t → 128 * i + s ≡ 128 * j + t → (i ≡ j) × (s ≡ t)
same a b i j s t h k e =
    let few = h.few in
    let few' = k.few in
    ⊎_elim {C = (i ≡ j) × (s ≡ t)}
    (λ (one : i ≡ j). (one, omega arith))
    (⊎_elim {C = (i ≡ j) × (s ≡ t)} (λ less. let many = k.many (omega arith) in absurd (omega arith)) (λ more. let many = h.many (omega arith) in absurd (omega arith)))
    (cases_order i j)

-- a number with no digits behind
alone : (n b s : ℕ) → HasDigits n b s → b ≤ 0 → s * 2 ^ b ≡ n
alone n b s h none =
    let zero_behind : b ≡ 0 = omega arith in
    let one = ap (λ x. s * 2 ^ x) zero_behind in
    let power = ap (λ (x : ℕ). 2 ^ x) zero_behind in
    let low = h.low in let high = h.high in omega arith

-- how far it is from its first digits
near : (n b s : ℕ) → HasDigits n b s → 128 * n < 129 * (s * 2 ^ b) + 128
near n b s h =
    ⊎_elim
    (λ some. let high = h.high in let up = mul-le-mul_right (2 ^ b) (h.many some) in omega arith)
    (λ none. let is = alone n b s h none in omega arith)
    (cases_lt 0 b)

exact : (n b s : ℕ) → HasDigits n b s → n < 256 → s * 2 ^ b ≡ n
exact n b s h l =
    ⊎_elim {C = s * 2 ^ b ≡ n}
    (λ some. let low = wide n b s h some in let up = twice 0 b some in absurd (omega arith))
    (λ none. alone n b s h none)
    (cases_lt 0 b)

early : (n b s : ℕ) → HasDigits n b s → n ≤ max_wait → 128 * b + s < 5302
early n b s h l =
    ⊎_elim {C = 128 * b + s < 5302}
    (λ less. let few = h.few in omega arith)
    (λ more. ⊎_elim {C = 128 * b + s < 5302}
    (λ higher. let up = twice 40 b higher in let low = wide n b s h (omega arith) in absurd (omega arith))
    (λ no_higher. let at : b ≡ 40 = omega arith in let low = h.low in let power = ap (λ x. s * 2 ^ x) at in omega arith)
    (cases_lt 40 b))
    (cases_lt b 40)

module _ (a b : ℕ) (in_a : a < 2 ^ 64) (in_b : b < 2 ^ 64) where
  -- no lower place
  pub place-le-place : a ≤ b → place_of a ≤ place_of b
  unfolding place_of
  place-le-place l = in_order a b _ _ _ _ (digits_of a in_a) (digits_of b in_b) l

  -- the numbers of a place have the same first digits
  pub shortened_same : place_of a ≡ place_of b → shortened a ≡ shortened b
  unfolding place_of shortened
  shortened_same e =
      let both = same a b _ _ _ _ (digits_of a in_a) (digits_of b in_b) e in
      ap (λ s. s * 2 ^ digits_behind a) both.1 ∙ ap (λ i. b / 2 ^ digits_behind b * 2 ^ i) both.0

pub shortened_rising : (a b : ℕ) → a ≤ b → b < 2 ^ 64 → shortened a ≤ shortened b
unfolding shortened
shortened_rising a b l fits = rising a b _ _ _ _ (digits_of a (omega arith)) (digits_of b fits) l

pub shortened-le : (n : ℕ) → n < 2 ^ 64 → shortened n ≤ n
unfolding shortened
shortened-le n fits = (digits_of n fits).low

pub shortened_near : (n : ℕ) → n < 2 ^ 64 → 128 * n < 129 * shortened n + 128
unfolding shortened
shortened_near n fits = near n _ _ (digits_of n fits)

pub shortened_exact : (n : ℕ) → n < 2 ^ 64 → n < 256 → shortened n ≡ n
unfolding shortened
shortened_exact n fits few = exact n _ _ (digits_of n fits) few

pub place_early : (n : ℕ) → n ≤ max_wait → place_of n < max_places
unfolding place_of
place_early n l = early n _ _ (digits_of n (omega arith)) l

-- what a place tells: how many digits are behind, and the first ones
pub behind_of_place : (n b s : ℕ) → HasDigits n b s → (128 * b + s) / 128 - 1 ≡ b
behind_of_place n b s h =
    let few = h.few in
    ⊎_elim {C = (128 * b + s) / 128 - 1 ≡ b} (λ some. let many = h.many some in omega arith) (λ none. omega arith) (cases_lt 0 b)

pub digits_behind_small : (n : ℕ) → digits_behind n < 64
unfolding digits_behind
digits_behind_small n = omega arith

-- the number that a place and the digits behind give back
pub shortened_back : (n b place : ℕ) → n ≤ max_wait → place_of n ≡ place → b ≡ place / 128 - 1 → (place - 128 * b) * 2 ^ b % 2 ^ 64 ≡ shortened n
unfolding place_of shortened
shortened_back n b place l at is =
    let h = digits_of n (omega arith) in
    let behind : b ≡ digits_behind n = is ∙ ap (λ p. p / 128 - 1) (sym at) ∙ behind_of_place n _ _ h in
    let first : place - 128 * b ≡ n / 2 ^ digits_behind n = omega arith in
    let whole : (place - 128 * b) * 2 ^ b ≡ n / 2 ^ digits_behind n * 2 ^ digits_behind n = ap (λ s. s * 2 ^ b) first ∙ ap (λ i. n / 2 ^ digits_behind n * 2 ^ i) behind in
    let low = h.low in
    ap (λ x. x % 2 ^ 64) whole ∙ mod-eq_of_lt (omega arith)
