-- How many of a list in ascending order are at most one of them, and how many are below it.
use Rattle.std.proofs.Common.{◌≡◌, ℕ, zero, suc, ◌+◌, ◌-◌, ◌<◌, ◌≤◌, Bool, true, false, List, length, take, refl, cond, ap, ◌∙◌, arith}
use Rattle.std.specs.Prelude.{count_by, slice_index_or, nat_le, nat_lt}
use Rattle.std.specs.List.Sorted.{IsNonDecreasing}
use Rattle.std.proofs.lemmas.Bool.Decides.{nat_tests}
use Rattle.std.proofs.lemmas.List.{take_all, length-take-le}
use Rattle.std.proofs.lemmas.List.Sums.{count_by_more_yes, count_by_more_no, count_by-le-length, sum_by-take-le}

-- one where a test is met
abbrev pub one_if : Bool → ℕ
one_if b = cond b 1 0

-- the first n pass
first_pass : (p : ℕ → Bool) (xs : List ℕ) (n : ℕ) → n ≤ length xs → ((k : ℕ) → k < n → p (slice_index_or xs k 0) ≡ true) → count_by p (take n xs) ≡ n
first_pass p xs zero l pass = refl
first_pass p xs (suc n) l pass =
    let more = count_by_more_yes p xs n 0 (omega arith) (pass n (omega arith)) in
    let one : suc n ≡ n + 1 = omega arith in
    let step = ap (λ (m : ℕ). count_by p (take m xs)) one in
    let rest = first_pass p xs n (omega arith) (λ k b. pass k (omega arith)) in omega arith

-- the next j, from place n on, fail
next_fail : (p : ℕ → Bool) (xs : List ℕ) (n j : ℕ) → n + j ≤ length xs → ((k : ℕ) → n ≤ k → k < length xs → p (slice_index_or xs k 0) ≡ false) → count_by p (take (n + j) xs) ≡ count_by p (take n xs)
next_fail p xs n zero l fail = let none : n + 0 ≡ n = omega arith in ap (λ (m : ℕ). count_by p (take m xs)) none
next_fail p xs n (suc j) l fail =
    let one : n + suc j ≡ n + j + 1 = omega arith in
    ap (λ (m : ℕ). count_by p (take m xs)) one ∙ (count_by_more_no p xs (n + j) 0 (omega arith) (fail (n + j) (omega arith) (omega arith)) ∙ next_fail p xs n j (omega arith) fail)

passing : (a b : ℕ) → a ≤ b → nat_le a b ≡ true
passing a b l = grind (arith, nat_tests)

failing : (a b : ℕ) → b ≤ a → nat_lt a b ≡ false
failing a b l = grind (arith, nat_tests)

module _ (xs : List ℕ) (sorted : IsNonDecreasing xs) (i : ℕ) (inside : i < length xs) where
  -- as many as stand up to it are at most it
  pub up_to : i + 1 ≤ count_by (λ t. nat_le t (slice_index_or xs i 0)) xs
  up_to =
      let some = first_pass (λ t. nat_le t (slice_index_or xs i 0)) xs (i + 1) (omega arith) (λ k b. passing _ _ (sorted k i 0 (omega arith) inside)) in
      let all = sum_by-take-le (λ t. cond (nat_le t (slice_index_or xs i 0)) 1 0) xs (i + 1) in omega arith

  -- no more than stand before it are below it
  pub before_it : count_by (λ t. nat_lt t (slice_index_or xs i 0)) xs ≤ i
  before_it =
      let none = next_fail (λ t. nat_lt t (slice_index_or xs i 0)) xs i (length xs - i) (omega arith) (λ k f b. failing _ _ (sorted i k 0 f b)) in
      let whole = take_all (i + (length xs - i)) xs (omega arith) in
      let few = count_by-le-length (λ t. nat_lt t (slice_index_or xs i 0)) (take i xs) in
      let taken = length-take-le i xs (omega arith) in
      let same = ap (count_by (λ t. nat_lt t (slice_index_or xs i 0))) whole in omega arith
