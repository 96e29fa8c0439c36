-- Waits have a percentile.
use Rattle.std.proofs.Common.{◌≡◌, ℕ, ◌-◌, ◌*◌, ◌<◌, ◌≤◌, Bool, true, false, List, [], ◌∷◌, length, get_or, slice_index_or, nat_lt, IsPermutation, arith, refl}
use Rattle.std.specs.Int.{div_ceil}
use Rattle.std.specs.List.{insert, prefix_len}
use Rattle.std.specs.List.Sorted.{IsNonDecreasing}
use Rattle.std.proofs.lemmas.Bool.Decides.{nat_tests}
use Rattle.std.proofs.lemmas.List.Sorted.{IsNonDecreasingBy-insert, IsNonDecreasingBy-short, IsPermutation-refl, IsPermutation-cons, IsPermutation-insert, IsPermutation-trans, length_permutation}
use Rattle.std.proofs.lemmas.List.Sums.{prefix_len-le-length, prefix_len_passes, prefix_len_stops}
use Rattle.apf_times.specs.Percentiles.{IsPercentile}
use Rattle.apf_times.proofs.NearestRank.{sorted_nearest, percentile_moved}

-- the same in ascending order
record Ascending (ws : List ℕ) : Type 0 where
  list : List ℕ
  moved : IsPermutation ws list
  sorted : IsNonDecreasing list

passed : (a b : ℕ) → nat_lt a b ≡ true → a ≤ b
passed a b is = grind (arith, nat_tests)

stopped : (a b : ℕ) → nat_lt a b ≡ false → b ≤ a
stopped a b is = grind (arith, nat_tests)

-- one more goes behind those below it
entered : (w : ℕ) (ws : List ℕ) → Ascending ws → Ascending (w ∷ ws)
entered w ws a =
    let xs = a.list in
    let test : ℕ → Bool = λ x. nat_lt x w in
    let at = prefix_len test xs in
    record {
      list = insert xs at w;
      moved = IsPermutation-trans (w ∷ ws) (w ∷ xs) (insert xs at w) (IsPermutation-cons w ws xs a.moved) (IsPermutation-insert xs at w);
      sorted = IsNonDecreasingBy-insert (λ x. x) xs at w a.sorted (prefix_len-le-length test xs)
          (λ k d l. passed (get_or xs k d) w (prefix_len_passes test xs k d l))
          (λ k d l b. let first = stopped (get_or xs at d) w (prefix_len_stops test xs d (omega arith)) in let up = a.sorted at k d l b in omega arith);
    }

ascending : (ws : List ℕ) → Ascending ws
ascending [] = record { list = []; moved = IsPermutation-refl []; sorted = IsNonDecreasingBy-short (λ x. x) [] (omega arith) }
ascending (w ∷ ws) = entered w ws (ascending ws)

pub has_percentile : (percent : ℕ) (ws : List ℕ) → 1 ≤ percent → percent ≤ 100 → 0 < length ws → (wait : ℕ) × IsPercentile percent ws wait
has_percentile percent ws some most full =
    let a = ascending ws in
    let same = length_permutation ws a.list a.moved in
    let rank = div_ceil (percent * length a.list) 100 in
    (slice_index_or a.list (rank - 1) 0, percentile_moved percent ws a.list a.moved (slice_index_or a.list (rank - 1) 0) (sorted_nearest percent a.list a.sorted some most (omega arith) rank refl))
