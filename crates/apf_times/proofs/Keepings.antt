-- Waits that are kept.
use Rattle.std.proofs.Common.{◌≡◌, ℕ, ◌<◌, List, [], ◌∷◌, ◌++◌, length, Option, Some, None, IsPermutation, refl, sym, subst, arith}
use Rattle.std.proofs.lemmas.List.Sorted.{IsPermutation-cons, IsPermutation-sym, IsPermutation-to_front, IsPermutation-trans, length_permutation}
use Rattle.apf_times.specs.Percentiles.{IsPercentile}
use Rattle.apf_times.specs.Waits.{TallyView, AreKeptAs, IsKeptPercentile, is_absent, max_exact}
use Rattle.apf_times.proofs.NearestRank.{percentile_moved}
use Rattle.apf_times.proofs.Tallies.{counted_moved}

-- one more is kept
pub exact_more : (ws exact more : List ℕ) (counts : Option TallyView) (w : ℕ) → ((t : TallyView) → counts ≡ Some t → ⊥) → length exact < max_exact → more ≡ exact ++ w ∷ [] → AreKeptAs ws exact counts → AreKeptAs (w ∷ ws) more counts
exact_more ws exact more None w none few is kept =
    let same = length_permutation ws exact kept.1 in
    let behind : IsPermutation (w ∷ exact) (exact ++ w ∷ []) = IsPermutation-sym (exact ++ w ∷ []) (w ∷ exact) (IsPermutation-to_front exact w) in
    (omega arith, subst (IsPermutation (w ∷ ws)) (sym is) (IsPermutation-trans (w ∷ ws) (w ∷ exact) (exact ++ w ∷ []) (IsPermutation-cons w ws exact kept.1) behind))
exact_more ws exact more (Some t) w none few is kept = absurd (none t refl)

-- the percentile of the waits that are kept
pub exact_percentile : (percent : ℕ) (ws exact : List ℕ) (counts : Option TallyView) (result : ℕ) → counts ≡ None → AreKeptAs ws exact counts → 0 < length ws → (0 < length exact → IsPercentile percent exact result)
    → IsKeptPercentile (is_absent counts) percent ws result
exact_percentile percent ws exact None result none kept full nearest =
    let same = length_permutation ws exact kept.1 in
    record { wait = result; is_percentile = percentile_moved percent ws exact kept.1 result (nearest (omega arith)); is = refl }
exact_percentile percent ws exact (Some t) result none kept full nearest = absurd (cc)

-- kept in another order
pub exact_moved : (ws exact others : List ℕ) (counts : Option TallyView) → counts ≡ None → IsPermutation exact others → AreKeptAs ws exact counts → AreKeptAs ws others counts
exact_moved ws exact others None none moved kept = (kept.0, IsPermutation-trans ws exact others kept.1 moved)
exact_moved ws exact others (Some t) none moved kept = absurd (cc)

-- these waits in another order were added
pub kept_moved : (ws others exact : List ℕ) (counts : Option TallyView) → IsPermutation ws others → AreKeptAs ws exact counts → AreKeptAs others exact counts
kept_moved ws others exact None moved kept =
    let same = length_permutation ws others moved in
    (omega arith, IsPermutation-trans others ws exact (IsPermutation-sym ws others moved) kept.1)
kept_moved ws others exact (Some t) moved kept =
    let same = length_permutation ws others moved in
    (omega arith, counted_moved ws others t moved kept.1)
