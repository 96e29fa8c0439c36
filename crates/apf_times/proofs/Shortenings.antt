-- The percentile of shortened waits.
use Rattle.std.proofs.Common.{ℕ, ◌*◌, ◌^◌, ◌<◌, ◌≤◌, cond, List, [], ◌∷◌, map, count_by, nat_le, nat_lt, Contains, sym, ap, ◌∙◌, subst, arith}
use Rattle.std.specs.List.{AllByRecursion}
use Rattle.std.proofs.lemmas.Bool.Decides.{nat_tests}
use Rattle.std.proofs.lemmas.List.{get_or-map, length-map}
use Rattle.std.proofs.lemmas.List.Elements.{All-contains, All-from_recursion}
use Rattle.std.proofs.lemmas.List.Sums.{sum_by-cons}
use Rattle.apf_times.specs.Percentiles.{IsPercentile}
use Rattle.apf_times.specs.Waits.{shortened}
use Rattle.apf_times.proofs.Digits.{shortened_rising}

no_fewer : (a b x w : ℕ) → (x ≤ w → a ≤ b) → cond (nat_le x w) 1 0 ≤ cond (nat_le a b) 1 0
no_fewer a b x w up = grind (arith, nat_tests)

no_more : (a b x w : ℕ) → (w ≤ x → b ≤ a) → cond (nat_lt a b) 1 0 ≤ cond (nat_lt x w) 1 0
no_more a b x w up = grind (arith, nat_tests)

up_to : (ws : List ℕ) (w : ℕ) → w < 2 ^ 64 → count_by (λ x. nat_le x w) ws ≤ count_by (λ x. nat_le x (shortened w)) (map shortened ws)
up_to [] w fits = omega arith
up_to (x ∷ xs) w fits =
    let a = sum_by-cons (λ y. cond (nat_le y w) 1 0) x xs in
    let b = sum_by-cons (λ y. cond (nat_le y (shortened w)) 1 0) (shortened x) (map shortened xs) in
    let first = no_fewer (shortened x) (shortened w) x w (λ l. shortened_rising x w l fits) in
    let rest = up_to xs w fits in omega arith

before : (ws : List ℕ) (w : ℕ) → AllByRecursion (λ x. x < 2 ^ 64) ws → count_by (λ x. nat_lt x (shortened w)) (map shortened ws) ≤ count_by (λ x. nat_lt x w) ws
before [] w fit = omega arith
before (x ∷ xs) w fit =
    let a = sum_by-cons (λ y. cond (nat_lt y w) 1 0) x xs in
    let b = sum_by-cons (λ y. cond (nat_lt y (shortened w)) 1 0) (shortened x) (map shortened xs) in
    let first = no_more (shortened x) (shortened w) x w (λ l. shortened_rising w x l fit.0) in
    let rest = before xs w fit.1 in omega arith

contained : (ws : List ℕ) (w : ℕ) → Contains ws w → Contains (map shortened ws) (shortened w)
contained ws w has = (has.0, subst (λ n. has.0 < n) (sym (length-map ws shortened)) has.1, get_or-map shortened ws has.0 w (shortened w) has.1 ∙ ap shortened has.2)

pub shortened_alike : (percent : ℕ) (ws : List ℕ) (w : ℕ) → AllByRecursion (λ x. x < 2 ^ 64) ws → IsPercentile percent ws w → IsPercentile percent (map shortened ws) (shortened w)
shortened_alike percent ws w fit is =
    let long = length-map ws shortened in
    let fits = All-contains (λ x. x < 2 ^ 64) ws w (All-from_recursion (λ x. x < 2 ^ 64) ws fit) is.is_one in
    let up = up_to ws w fits in
    let low = before ws w fit in
    let enough = is.enough in
    let fewer = is.fewer_below in
    record {
      is_one = contained ws w is.is_one;
      enough = subst (λ n. percent * n ≤ 100 * count_by (λ x. nat_le x (shortened w)) (map shortened ws)) (sym long) (omega arith);
      fewer_below = subst (λ n. 100 * count_by (λ x. nat_lt x (shortened w)) (map shortened ws) < percent * n) (sym long) (omega arith);
    }
