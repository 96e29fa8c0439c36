-- The first request of each flow, among the first requests of a trace.
use Rattle.std.proofs.Common.{◌≡◌, ◌≢◌, ℕ, zero, suc, ◌+◌, ◌<◌, ◌≤◌, List, [], ◌∷◌, ◌++◌, Bool, true, false, cond, length, get_or, take, refl, sym, ◌∙◌, ap, arith}
use Rattle.std.specs.Prelude.{nat_eq, not, filter}
use Rattle.std.specs.List.{list_any, range_with_len}
use Rattle.std.proofs.lemmas.List.{append-nil, get_or-take, get_or_default, length-take-le}
use Rattle.std.proofs.lemmas.List.Elements.{filter-append}
use Rattle.std.proofs.lemmas.List.Folds.{list_any_none, list_any_at}
use Rattle.std.proofs.lemmas.Bool.{eq-eqb}
use Rattle.std.proofs.lemmas.Bool.Decides.{nat_tests}
use Rattle.apf_flows.specs.Flows.{is_first}

-- one number more
range_more : (a n : ℕ) → range_with_len a (suc n) ≡ range_with_len a n ++ (a + n) ∷ []
range_more a zero = let e : a + 0 ≡ a = omega arith in rw e refl
range_more a (suc n) = let e : a + suc n ≡ (a + 1) + n = omega arith in rw e (ap (λ (xs : List ℕ). a ∷ xs) (range_more (a + 1) n))

-- the first requests among this many
abbrev pub firsts_below : List ℕ → ℕ → List ℕ
firsts_below hashes n = filter (is_first hashes) (range_with_len 0 n)

firsts_by : (hashes : List ℕ) (n : ℕ) (b : Bool) → is_first hashes n ≡ b → firsts_below hashes (n + 1) ≡ firsts_below hashes n ++ cond b (n ∷ []) []
firsts_by hashes n b e =
    let one : n + 1 ≡ suc n = omega arith in
    let same : 0 + n ≡ n = omega arith in
    let more : range_with_len 0 (n + 1) ≡ range_with_len 0 n ++ n ∷ [] = rw one (range_more 0 n ∙ ap (λ (m : ℕ). range_with_len 0 n ++ m ∷ []) same) in
    rw more (filter-append (is_first hashes) (range_with_len 0 n) (n ∷ []) ∙ ap (λ (t : Bool). firsts_below hashes n ++ cond t (n ∷ []) []) e)

no_eqb : (a b : ℕ) → b ≢ a → nat_eq a b ≡ false
no_eqb a b h = grind (arith, nat_tests)

-- a request that no earlier one shares its hash with
pub firsts_new : (hashes : List ℕ) (n : ℕ) → ((i : ℕ) → i < n → get_or hashes i 0 ≢ get_or hashes n 0) → n ≤ length hashes
    → firsts_below hashes (n + 1) ≡ firsts_below hashes n ++ n ∷ []
firsts_new hashes n new within =
    let len : length (take n hashes) ≡ n = length-take-le n hashes within in
    let none : list_any (nat_eq (get_or hashes n 0)) (take n hashes) ≡ false =
    list_any_none (nat_eq (get_or hashes n 0)) (take n hashes) (λ k d lt.
    let below : k < n = omega arith in
    let at : get_or (take n hashes) k d ≡ get_or hashes k 0 = get_or-take n hashes k d below ∙ get_or_default hashes k d 0 (omega arith) in
    rw at (no_eqb (get_or hashes n 0) (get_or hashes k 0) (new k below))) in
    firsts_by hashes n true (ap not none)

-- a request that shares its hash with an earlier one
pub firsts_known : (hashes : List ℕ) (n i : ℕ) → i < n → get_or hashes i 0 ≡ get_or hashes n 0 → n ≤ length hashes
    → firsts_below hashes (n + 1) ≡ firsts_below hashes n
firsts_known hashes n i below same within =
    let len : length (take n hashes) ≡ n = length-take-le n hashes within in
    let at : get_or (take n hashes) i 0 ≡ get_or hashes i 0 = get_or-take n hashes i 0 below in
    let some : list_any (nat_eq (get_or hashes n 0)) (take n hashes) ≡ true =
    list_any_at (nat_eq (get_or hashes n 0)) (take n hashes) i 0 (omega arith) (eq-eqb (get_or hashes n 0) (get_or (take n hashes) i 0) (sym (at ∙ same))) in
    firsts_by hashes n false (ap not some) ∙ append-nil (firsts_below hashes n)
