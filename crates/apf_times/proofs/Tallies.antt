-- Counts by place, of the waits that were counted.
use Rattle.std.proofs.Common.{◌≡◌, ℕ, zero, suc, ◌+◌, ◌*◌, ◌<◌, ◌≤◌, ◌==◌, ◌≢◌, Bool, false, cond, List, [], ◌∷◌, length, take, count_by, sum, nat_le, nat_lt, slice_index, IsPermutation, refl, sym, ap, ◌∙◌, ⊎_elim, arith}
use Rattle.std.specs.Int.{div_ceil}
use Rattle.std.specs.List.{AllByRecursion}
use Rattle.std.proofs.Math.ListN.{set}
use Rattle.std.proofs.Math.Nat.{mul-le-mul_right}
use Rattle.std.proofs.lemmas.Bool.{cases_eq, cases_lt}
use Rattle.std.proofs.lemmas.Bool.Decides.{nat_tests}
use Rattle.std.proofs.lemmas.Grind.{get_or-set_at}
use Rattle.std.proofs.lemmas.List.{get_or-set_other}
use Rattle.std.proofs.lemmas.List.Elements.{All-from_recursion, All-contains, recursion_from_All}
use Rattle.std.proofs.lemmas.List.Sorted.{All-permutation, length_permutation, sum_by-IsPermutation}
use Rattle.std.proofs.lemmas.List.Sums.{sum_by-cons, sum_by_more}
use Rattle.apf_times.specs.Limits.{max_wait}
use Rattle.apf_times.specs.Percentiles.{IsPercentile}
use Rattle.apf_times.specs.Waits.{TallyView, AreCounted, IsKeptPercentile, place_of, shortened, max_places}
use Rattle.apf_times.proofs.Counts.{one_if}
use Rattle.apf_times.proofs.Digits.{place-le-place, place_early}
use Rattle.apf_times.proofs.Sorting.{has_percentile}

abbrev at_place : ℕ → ℕ → Bool
at_place place w = place_of w == place

-- how many of these are below a place
abbrev pub below : ℕ → List ℕ → ℕ
below place ws = count_by (λ w. nat_lt (place_of w) place) ws

one_more : (p n : ℕ) → cond (nat_lt p (suc n)) 1 0 ≡ cond (nat_lt p n) 1 0 + cond (p == n) 1 0
one_more p n = grind (arith, nat_tests)

-- those below the next place are those below it, and those at it
below_more : (n : ℕ) (ws : List ℕ) → below (suc n) ws ≡ below n ws + count_by (at_place n) ws
below_more n [] = refl
below_more n (w ∷ ws) =
    let a = sum_by-cons (λ x. cond (nat_lt (place_of x) (suc n)) 1 0) w ws in
    let b = sum_by-cons (λ x. cond (nat_lt (place_of x) n) 1 0) w ws in
    let c = sum_by-cons (λ x. cond (at_place n x) 1 0) w ws in
    let first = one_more (place_of w) n in
    let rest = below_more n ws in omega arith

not_below_zero : (p : ℕ) → one_if (nat_lt p 0) ≡ 0
not_below_zero p = grind (arith, nat_tests)

none_below : (ws : List ℕ) → below 0 ws ≡ 0
none_below [] = refl
none_below (w ∷ ws) =
    let a = sum_by-cons (λ x. cond (nat_lt (place_of x) 0) 1 0) w ws in
    let rest = none_below ws in
    let no = not_below_zero (place_of w) in omega arith

-- the sum of the first counts is how many have a place below
pub sum_below : (ws : List ℕ) (v : TallyView) → AreCounted ws v → length v.by_place ≡ max_places → (n : ℕ) → n ≤ max_places → sum (take n v.by_place) ≡ below n ws
sum_below ws v counted long zero l = sym (none_below ws)
sum_below ws v counted long (suc n) l =
    let one : suc n ≡ n + 1 = omega arith in
    let step = ap (λ m. sum (take m v.by_place)) one in
    let more = sum_by_more (λ x. x) v.by_place n 0 (omega arith) in
    let here = counted.by_place n (omega arith) in
    let next = below_more n ws in
    let rest = sum_below ws v counted long n (omega arith) in omega arith

here : (w p n : ℕ) → p ≡ place_of w → n ≡ p → one_if (place_of w == n) ≡ 1
here w p n at e = grind (arith, nat_tests)

elsewhere : (w p n : ℕ) → p ≡ place_of w → n ≢ p → one_if (place_of w == n) ≡ 0
elsewhere w p n at e = grind (arith, nat_tests)

-- one more is counted at its place
pub counted_more : (ws : List ℕ) (v : TallyView) (w p n : ℕ) → AreCounted ws v → length v.by_place ≡ max_places → w ≤ max_wait → p ≡ place_of w → n ≡ slice_index v.by_place p + 1
    → AreCounted (w ∷ ws) (record { total = v.total + 1; by_place = set v.by_place p n })
counted_more ws v w p n counted long l at is = record {
  total = ap (λ t. t + 1) counted.total ∙ more;
  by_place = placed;
  in_range = (l, counted.in_range);
}
  where
    more : length ws + 1 ≡ length (w ∷ ws)
    more = omega arith

    placed : (place : ℕ) → place < max_places → slice_index (set v.by_place p n) place ≡ count_by (λ x. place_of x == place) (w ∷ ws)
    placed place low =
        let counts = sum_by-cons (λ x. cond (place_of x == place) 1 0) w ws in
        let was = counted.by_place place low in
        let inside : p < length v.by_place = let early = place_early w l in omega arith in
        ⊎_elim {C = slice_index (set v.by_place p n) place ≡ count_by (λ x. place_of x == place) (w ∷ ws)}
        (λ (e : place ≡ p).
        let one = here w p place at e in
        let now = get_or-set_at v.by_place p place n 0 e inside in
        let before = ap (λ i. slice_index v.by_place i) e in omega arith)
        (λ (ne : place ≢ p). let none = elsewhere w p place at ne in let kept = get_or-set_other v.by_place p place n 0 ne in omega arith)
        (cases_eq place p)

-- no fewer of these pass a test that each of them passes that passes the other
more_pass : (p q : ℕ → Bool) → ((w : ℕ) → w ≤ max_wait → one_if (p w) ≤ one_if (q w)) → (ws : List ℕ) → AllByRecursion (λ w. w ≤ max_wait) ws → count_by p ws ≤ count_by q ws
more_pass p q each [] range = omega arith
more_pass p q each (w ∷ ws) range =
    let a = sum_by-cons (λ x. cond (p x) 1 0) w ws in
    let b = sum_by-cons (λ x. cond (q x) 1 0) w ws in
    let first = each w range.0 in
    let rest = more_pass p q each ws range.1 in omega arith

before_it : (a n w x : ℕ) → (x ≤ w → n ≤ a) → one_if (nat_lt a n) ≤ one_if (nat_lt w x)
before_it a n w x up = grind (arith, nat_tests)

module _ (percent : ℕ) (ws : List ℕ) (range : AllByRecursion (λ w. w ≤ max_wait) ws) (wait : ℕ) (is : IsPercentile percent ws wait) where
  pub wait_in_range : wait ≤ max_wait
  wait_in_range = All-contains (λ w. w ≤ max_wait) ws wait (All-from_recursion (λ w. w ≤ max_wait) ws range) is.is_one

  -- not all that are up to it are below its place
  pub reaches : (n : ℕ) → 100 * below n ws < percent * length ws → n ≤ place_of wait
  reaches n few =
      ⊎_elim {C = n ≤ place_of wait}
      (λ less.
      let up = more_pass (λ w. nat_le w wait) (λ w. nat_lt (place_of w) n)
      (λ w l. low (place_of w) n w wait less (λ le. place-le-place w wait (omega arith) (let l' = wait_in_range in omega arith) le)) ws range in
      let enough = is.enough in absurd (omega arith))
      (λ done. done)
      (cases_lt (place_of wait) n)
    where
      low : (a n w x : ℕ) → place_of x < n → (w ≤ x → a ≤ place_of x) → one_if (nat_le w x) ≤ one_if (nat_lt a n)
      low a n w x less up = grind (arith, nat_tests)

  -- those that are below it are below the next place
  pub stays : (n : ℕ) → percent * length ws ≤ 100 * below (suc n) ws → place_of wait ≤ n
  stays n enough =
      ⊎_elim {C = place_of wait ≤ n}
      (λ more.
      let up = more_pass (λ w. nat_lt (place_of w) (suc n)) (λ w. nat_lt w wait)
      (λ w l. before_it (place_of w) (suc n) w wait (λ le. let high = place-le-place wait w (let l' = wait_in_range in omega arith) (omega arith) le in omega arith)) ws range in
      let fewer = is.fewer_below in absurd (omega arith))
      (λ done. done)
      (cases_lt n (place_of wait))

-- the percentile's place is the one at which as many as the rank have been counted
module _ (percent : ℕ) (ws : List ℕ) (v : TallyView) (counted : AreCounted ws v) (long : length v.by_place ≡ max_places) (some : 1 ≤ percent) (most : percent ≤ 100) (full : 0 < length ws)
    (left place rank : ℕ) (rank_is : rank ≡ div_ceil (percent * v.total) 100) (so_far : left + sum (take place v.by_place) ≡ rank) (more : 0 < left) where
  rank_of : rank ≡ div_ceil (percent * length ws) 100
  rank_of = rank_is ∙ ap (λ t. div_ceil (percent * t) 100) counted.total

  pub no_lower : (wait : ℕ) → IsPercentile percent ws wait → place ≤ max_places → place ≤ place_of wait
  no_lower wait is low =
      let sums = sum_below ws v counted long place low in
      let of = rank_of in
      reaches percent ws counted.in_range wait is place (omega arith)

  pub found : place < max_places → left ≤ slice_index v.by_place place → (result : ℕ) → ((wait : ℕ) → wait ≤ max_wait → place_of wait ≡ place → result ≡ shortened wait)
      → IsKeptPercentile false percent ws result
  found low enough result gives =
      let has = has_percentile percent ws some most full in
      let lower = no_lower has.0 has.1 (omega arith) in
      let sums = sum_below ws v counted long place (omega arith) in
      let here = counted.by_place place low in
      let next = below_more place ws in
      let of = rank_of in
      let higher = stays percent ws counted.in_range has.0 has.1 place (omega arith) in
      record { wait = has.0; is_percentile = has.1; is = gives has.0 (wait_in_range percent ws counted.in_range has.0 has.1) (omega arith) }

  pub never : max_places ≤ place → place ≤ max_places → ⊥
  never end low =
      let has = has_percentile percent ws some most full in
      let lower = no_lower has.0 has.1 low in
      let early = place_early has.0 (wait_in_range percent ws counted.in_range has.0 has.1) in omega arith

-- this many percent of one or more are one or more
pub some_rank : (percent total rank : ℕ) → 1 ≤ percent → total ≢ 0 → rank ≡ div_ceil (percent * total) 100 → 0 < rank
some_rank percent total rank some full is = let one = mul-le-mul_right total some in omega arith

-- the same waits in another order
pub counted_moved : (ws others : List ℕ) (v : TallyView) → IsPermutation ws others → AreCounted ws v → AreCounted others v
counted_moved ws others v moved counted = record {
  total = counted.total ∙ sym (length_permutation ws others moved);
  by_place = λ place low. counted.by_place place low ∙ sym (sum_by-IsPermutation (λ w. cond (place_of w == place) 1 0) ws others moved);
  in_range = recursion_from_All (λ w. w ≤ max_wait) others (All-permutation (λ w. w ≤ max_wait) ws others moved (All-from_recursion (λ w. w ≤ max_wait) ws counted.in_range));
}
