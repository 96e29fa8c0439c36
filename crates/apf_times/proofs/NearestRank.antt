-- The wait at the nearest rank is the percentile.
use Rattle.std.proofs.Common.{◌≡◌, [], ◌∷◌, ◌≤◌, ℕ, ◌-◌, ◌*◌, ◌<◌, List, length, count_by, nat_le, nat_lt, cond, slice_index_or, sym, ◌∙◌, subst, IsPermutation, arith}
use Rattle.std.specs.Int.{div_ceil}
use Rattle.std.specs.List.Sorted.{IsNonDecreasing}
use Rattle.std.proofs.lemmas.Bool.Decides.{nat_tests}
use Rattle.std.proofs.lemmas.List.Elements.{Contains-get_or}
use Rattle.std.proofs.lemmas.List.Sums.{sum_by-cons}
use Rattle.std.proofs.lemmas.List.Sorted.{Contains-permutation, IsPermutation-sym, length_permutation, sum_by-IsPermutation}
use Rattle.apf_times.specs.Percentiles.{IsPercentile, IsNearestRank}
use Rattle.apf_times.proofs.Counts.{up_to, before_it}

low_product : (p n : ℕ) → 1 ≤ p → n ≤ p * n
low_product p n l = grind arith

high_product : (p n : ℕ) → p ≤ 100 → p * n ≤ 100 * n
high_product p n l = grind arith

-- of a list in ascending order
pub sorted_nearest : (percent : ℕ) (xs : List ℕ) → IsNonDecreasing xs → 1 ≤ percent → percent ≤ 100 → 0 < length xs → (rank : ℕ) → rank ≡ div_ceil (percent * length xs) 100 → IsPercentile percent xs (slice_index_or xs (rank - 1) 0)
sorted_nearest percent xs sorted some most full rank is =
    let low = low_product percent (length xs) some in
    let high = high_product percent (length xs) most in
    let inside : rank - 1 < length xs = omega arith in
    let up = up_to xs sorted (rank - 1) inside in
    let before = before_it xs sorted (rank - 1) inside in
    record {
      is_one = Contains-get_or xs (rank - 1) 0 inside;
      enough = omega arith;
      fewer_below = omega arith;
    }

-- the percentile does not rest on the order of the waits
pub percentile_moved : (percent : ℕ) (old xs : List ℕ) → IsPermutation old xs → (wait : ℕ) → IsPercentile percent xs wait → IsPercentile percent old wait
percentile_moved percent old xs moved wait of =
    let same = length_permutation old xs moved in
    let up = sum_by-IsPermutation (λ w. cond (nat_le w wait) 1 0) old xs moved in
    let below = sum_by-IsPermutation (λ w. cond (nat_lt w wait) 1 0) old xs moved in
    record {
      is_one = Contains-permutation xs old wait (IsPermutation-sym old xs moved) of.is_one;
      enough = subst (λ n. percent * n ≤ 100 * count_by (λ w. nat_le w wait) old) same (subst (λ n. percent * length xs ≤ 100 * n) up of.enough);
      fewer_below = subst (λ n. 100 * count_by (λ w. nat_lt w wait) old < percent * n) same (subst (λ n. 100 * n < percent * length xs) below of.fewer_below);
    }

no_more : (a b w : ℕ) → a < b → cond (nat_le w a) 1 0 ≤ cond (nat_lt w b) 1 0
no_more a b w l = grind (arith, nat_tests)

-- what is not above a is below all that is above a
below_up : (a b : ℕ) → a < b → (ws : List ℕ) → count_by (λ w. nat_le w a) ws ≤ count_by (λ w. nat_lt w b) ws
below_up a b l [] = omega arith
below_up a b l (w ∷ ws) =
    let left = sum_by-cons (λ x. cond (nat_le x a) 1 0) w ws in
    let right = sum_by-cons (λ x. cond (nat_lt x b) 1 0) w ws in
    let first = no_more a b w l in
    let rest = below_up a b l ws in omega arith

-- two percentiles of the same waits are not apart
not_below : (percent : ℕ) (waits : List ℕ) (a b : ℕ) → IsPercentile percent waits a → IsPercentile percent waits b → a < b → ⊥
not_below percent waits a b p q l = let up = below_up a b l waits in let enough = p.enough in let fewer = q.fewer_below in omega arith

pub percentile_unique : (percent : ℕ) (waits : List ℕ) (a b : ℕ) → IsPercentile percent waits a → IsPercentile percent waits b → a ≡ b
percentile_unique percent waits a b p q =
    let no = not_below percent waits a b p q in
    let on = not_below percent waits b a q p in
    omega arith

-- the same of the waits in another order
pub rank_moved : (percent : ℕ) (old xs : List ℕ) → IsPermutation old xs → (wait : ℕ) → (length xs ≡ 0 → wait ≡ 0) → (0 < length xs → IsPercentile percent xs wait) → IsNearestRank percent old wait
rank_moved percent old xs moved wait none some =
    let same = length_permutation old xs moved in
    record {
      none = λ e. none (same ∙ e);
      some = λ n. percentile_moved percent old xs moved wait (some (subst (λ k. 0 < k) (sym same) n));
    }
