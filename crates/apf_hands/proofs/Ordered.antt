-- Queues in ascending order: two hands of as many distinct queues have the same if each of the one is in the other.
use Rattle.std.proofs.Common.{◌≡◌, ◌≢◌, ◌⊎◌, inl, inr, ℕ, suc, ◌<◌, ◌≤◌, List, [], ◌∷◌, Bool, true, false, IsSome, Some, cond, length, get_or, map, refl, sym, ap, ◌∙◌, subst, arith}
use Rattle.std.specs.Prelude.{nat_eq, ◌&&◌, ◌||◌, ◌==◌, AllPairs}
use Rattle.std.specs.List.{AllByRecursion, IsDistinct, list_any}
use Rattle.std.specs.List.Sorted.{IsPermutation}
use Rattle.std.specs.Map.{lookup}
use Rattle.std.specs.Str.{bytes_eq}
use Rattle.apf_hands.specs.Alike.{AreOrdered}
use Rattle.apf_hands.specs.Hands.{holds, shares_all}
use Rattle.std.proofs.lemmas.Bool.Decides.{nat_tests, Decides-eqb}
use Rattle.std.proofs.lemmas.Cmp.{nat_eq_equiv}
use Rattle.std.proofs.lemmas.List.{length-map}
use Rattle.std.proofs.lemmas.List.Sorted.{IsNonDecreasingBy-from_sort, list_any-IsPermutation}
use Rattle.std.proofs.lemmas.Map.Keys.{IsDistinct-IsPermutation}
use Rattle.std.proofs.lemmas.Map.Made.{IsDistinct-from_AllPairs}
use Rattle.std.proofs.lemmas.Map.Steps.{length-le_from_keys}
use Rattle.std.proofs.lemmas.Slice.Eq.{bytes_eq-Decides}

-- ---- tests

and_left : (a b : Bool) → (a && b) ≡ true → a ≡ true
and_left true b e = refl
and_left false b e = e

and_right : (a b : Bool) → (a && b) ≡ true → b ≡ true
and_right true b e = e
and_right false b e = absurd cc

or_cases : (a b : Bool) → (a || b) ≡ true → (a ≡ true) ⊎ (b ≡ true)
or_cases true b e = inl refl
or_cases false b e = inr e

or_right : (a b : Bool) → b ≡ true → (a || b) ≡ true
or_right true b e = refl
or_right false b e = e

pub not_both : (b : Bool) → b ≡ true → b ≡ false → ⊥
not_both true e f = cc
not_both false e f = cc

pub flips : (a b : ℕ) → nat_eq a b ≡ nat_eq b a
flips a b = grind (arith, nat_tests)

pub own : (a : ℕ) → nat_eq a a ≡ true
own a = grind (arith, nat_tests)

pub equal : (a b : ℕ) → nat_eq a b ≡ true → a ≡ b
equal a b e = grind (arith, nat_tests)

apart : (a b : ℕ) → a < b → nat_eq a b ≡ false
apart a b low = grind (arith, nat_tests)

apart_above : (a b : ℕ) → a < b → nat_eq b a ≡ false
apart_above a b low = grind (arith, nat_tests)

-- ---- membership

holds_flipped : (xs : List ℕ) (q : ℕ) → holds xs q ≡ list_any (nat_eq q) xs
holds_flipped [] q = refl
holds_flipped (x ∷ xs) q = ap (λ b. b || holds xs q) (flips x q) ∙ ap (λ b. nat_eq q x || b) (holds_flipped xs q)

holds_permuted : (xs ys : List ℕ) (q : ℕ) → IsPermutation xs ys → holds xs q ≡ holds ys q
holds_permuted xs ys q same = list_any-IsPermutation (λ other. other == q) xs ys same

held_in : (xs hand : List ℕ) (q : ℕ) → shares_all xs hand ≡ true → holds xs q ≡ true → holds hand q ≡ true
held_in [] hand q all e = absurd cc
held_in (x ∷ xs) hand q all e = elim (or_cases (x == q) (holds xs q) e) [
  | inl is ↦ subst (λ (n : ℕ). holds hand n ≡ true) (equal x q is) (and_left (holds hand x) (shares_all xs hand) all)
  | inr later ↦ held_in xs hand q (and_right (holds hand x) (shares_all xs hand) all) later
]

shares_if : (xs hand : List ℕ) → ((q : ℕ) → holds xs q ≡ true → holds hand q ≡ true) → shares_all xs hand ≡ true
shares_if [] hand each = refl
shares_if (x ∷ xs) hand each =
    ap (λ b. b && shares_all xs hand) (each x (ap (λ b. b || holds xs x) (own x)))
    ∙ shares_if xs hand (λ q e. each q (or_right (x == q) (holds xs q) e))

-- ---- as many

none_is : (xs : List ℕ) (q : ℕ) → list_any (nat_eq q) xs ≡ false → AllByRecursion (λ y. nat_eq q y ≡ false) xs
none_is [] q e = tt
none_is (x ∷ xs) q e = (first (nat_eq q x) (list_any (nat_eq q) xs) e, none_is xs q (rest (nat_eq q x) (list_any (nat_eq q) xs) e))
  where
    first : (a b : Bool) → (a || b) ≡ false → a ≡ false
    first true b e = e
    first false b e = refl

    rest : (a b : Bool) → (a || b) ≡ false → b ≡ false
    rest true b e = absurd cc
    rest false b e = e

abbrev marked : ℕ → ℕ × Bool
marked x = (x, true)

found_step : (t : ℕ → Bool) (x : ℕ) (xs : List ℕ) (b : Bool) → (list_any t xs ≡ true → IsSome (lookup t (map marked xs))) → (b || list_any t xs) ≡ true → IsSome (cond b (Some true) (lookup t (map marked xs)))
found_step t x xs true rest e = refl
found_step t x xs false rest e = rest e

found_in : (t : ℕ → Bool) (xs : List ℕ) → list_any t xs ≡ true → IsSome (lookup t (map marked xs))
found_in t [] e = absurd cc
found_in t (x ∷ xs) e = found_step t x xs (t x) (found_in t xs) e

longer_distinct : (q : ℕ) (xs : List ℕ) → list_any (nat_eq q) xs ≡ false → IsDistinct nat_eq xs → IsDistinct nat_eq (q ∷ xs)
unfolding IsDistinct
longer_distinct q xs new d = (none_is xs q new, d)

-- distinct queues, all of which are among at most as many others: these are all of them
all_of : (a b : List ℕ) → IsDistinct nat_eq a → length b ≤ length a → ((q : ℕ) → holds a q ≡ true → holds b q ≡ true) → (q : ℕ) → holds b q ≡ true → holds a q ≡ true
all_of a b d few each q has = by (holds a q) refl
  where
    in_b : (k : ℕ) → list_any (nat_eq k) (q ∷ a) ≡ true → IsSome (lookup (nat_eq k) (map marked b))
    in_b k e = found_in (nat_eq k) b (sym (holds_flipped b k) ∙ elim (or_cases (nat_eq k q) (list_any (nat_eq k) a) e) [
      | inl is ↦ ap (holds b) (equal k q is) ∙ has
      | inr later ↦ each k (holds_flipped a k ∙ later)
    ])

    by : (b' : Bool) → holds a q ≡ b' → b' ≡ true
    by true e = refl
    by false e =
        let long = length-le_from_keys nat_eq_equiv (q ∷ a) (map marked b) (longer_distinct q a (sym (holds_flipped a q) ∙ e) d) in_b in
        let many : length (map marked b) ≡ length b = length-map b marked in
        absurd (omega (arith, long, many))

-- ---- ascending

Rising : List ℕ → Type 0
Rising [] = Unit {0}
Rising (x ∷ xs) = AllByRecursion (λ y. x < y) xs × Rising xs

above : (y : ℕ) (ys : List ℕ) (q : ℕ) → AllByRecursion (λ z. y < z) ys → q ≤ y → holds ys q ≡ false
above y [] q all low = refl
above y (z ∷ ys) q all low =
    let less : q < z = let more = all.0 in omega (arith, more) in
    ap (λ b. b || holds ys q) (apart_above q z less) ∙ above y ys q all.1 low

-- two rising lists with the same elements are one
one_rising : (xs ys : List ℕ) → Rising xs → Rising ys → ((q : ℕ) → holds xs q ≡ holds ys q) → xs ≡ ys
unfolding Rising
one_rising [] [] up down same = refl
one_rising [] (y ∷ ys) up down same = absurd (not_both (holds [] y) (same y ∙ ap (λ b. b || holds ys y) (own y)) refl)
one_rising (x ∷ xs) [] up down same = absurd (not_both (holds [] x) (sym (same x) ∙ ap (λ b. b || holds xs x) (own x)) refl)
one_rising (x ∷ xs) (y ∷ ys) up down same = by_order (λ each. one_rising xs ys up.1 down.1 each) (order x y)
  where
    order : (a b : ℕ) → (a ≡ b) ⊎ ((a < b) ⊎ (b < a))
    order a b = grind arith

    tails : x ≡ y → (q : ℕ) → (q ≤ x) ⊎ (x < q) → holds xs q ≡ holds ys q
    tails e q (inl low) =
        let low_y : q ≤ y = omega (arith, low, e) in
        above x xs q up.0 low ∙ sym (above y ys q down.0 low_y)
    tails e q (inr high) =
        let high_y : y < q = omega (arith, high, e) in
        sym (ap (λ b. b || holds xs q) (apart x q high)) ∙ same q ∙ ap (λ b. b || holds ys q) (apart y q high_y)

    split : (a b : ℕ) → (a ≤ b) ⊎ (b < a)
    split a b = grind arith

    by_order : (((q : ℕ) → holds xs q ≡ holds ys q) → xs ≡ ys) → (x ≡ y) ⊎ ((x < y) ⊎ (y < x)) → (x ∷ xs) ≡ (y ∷ ys)
    by_order rest (inl e) = ap (λ (n : ℕ). n ∷ xs) e ∙ ap (λ (l : List ℕ). y ∷ l) (rest (λ q. tails e q (split q x)))
    by_order rest (inr (inl less)) =
        let has : holds (y ∷ ys) x ≡ true = sym (same x) ∙ ap (λ b. b || holds xs x) (own x) in
        let not_there : holds (y ∷ ys) x ≡ false = ap (λ b. b || holds ys x) (apart_above x y less) ∙ above y ys x down.0 (omega (arith, less)) in
        absurd (not_both (holds (y ∷ ys) x) has not_there)
    by_order rest (inr (inr less)) =
        let has : holds (x ∷ xs) y ≡ true = same y ∙ ap (λ b. b || holds ys y) (own y) in
        let not_there : holds (x ∷ xs) y ≡ false = ap (λ b. b || holds xs y) (apart_above y x less) ∙ above x xs y up.0 (omega (arith, less)) in
        absurd (not_both (holds (x ∷ xs) y) has not_there)

-- the first of a list is below all others, where they ascend and are distinct
first_below : (x : ℕ) (ys : List ℕ) → ((j : ℕ) → j < length ys → x ≤ get_or ys j 0) → AllByRecursion (λ y. nat_eq x y ≡ false) ys → AllByRecursion (λ y. x < y) ys
first_below x [] low other = tt
first_below x (y ∷ ys) low other =
    let at : x ≤ y = low 0 (omega arith) in
    (less x y at other.0, first_below x ys (λ j within. low (suc j) (omega (arith, within))) other.1)
  where
    less : (a b : ℕ) → a ≤ b → nat_eq a b ≡ false → a < b
    less a b low e = grind (arith, nat_tests)

rising_from : (xs : List ℕ) → ((i j : ℕ) → i ≤ j → j < length xs → get_or xs i 0 ≤ get_or xs j 0) → IsDistinct nat_eq xs → Rising xs
unfolding Rising IsDistinct
rising_from [] up d = tt
rising_from (x ∷ xs) up d =
    (first_below x xs (λ j within. up 0 (suc j) (omega arith) (omega (arith, within))) d.0, rising_from xs (λ i j low within. up (suc i) (suc j) (omega (arith, low)) (omega (arith, within))) d.1)

ordered_rise : (hand queues : List ℕ) → AreOrdered hand queues → AllPairs (λ card later. card ≢ later) hand → Rising queues
ordered_rise hand queues h d =
    let up = IsNonDecreasingBy-from_sort (λ x. x) queues h.order in
    rising_from queues (λ i j low within. up i j 0 low within) (IsDistinct-IsPermutation nat_eq flips hand queues h.same (IsDistinct-from_AllPairs Decides-eqb hand d))

-- two hands of as many queues: each of the one is in the other exactly if they have the same in ascending order
pub same_queues : (a b aq bs : List ℕ) → AreOrdered a aq → AreOrdered b bs → AllPairs (λ card later. card ≢ later) a → AllPairs (λ card later. card ≢ later) b → length b ≤ length a
    → shares_all a b ≡ bytes_eq aq bs
same_queues a b aq bs h k d e few = by (shares_all a b) (bytes_eq aq bs) refl refl
  where
    forth : shares_all a b ≡ true → aq ≡ bs
    forth all =
        let each : (q : ℕ) → holds a q ≡ true → holds b q ≡ true = λ q has. held_in a b q all has in
        one_rising aq bs (ordered_rise a aq h d) (ordered_rise b bs k e) (λ q. sym (holds_permuted a aq q h.same) ∙ both q (holds a q) (holds b q) refl refl each ∙ holds_permuted b bs q k.same)
      where
        both : (q : ℕ) (p r : Bool) → holds a q ≡ p → holds b q ≡ r → ((q : ℕ) → holds a q ≡ true → holds b q ≡ true) → holds a q ≡ holds b q
        both q true r is other each = is ∙ sym (each q is)
        both q false true is other each = absurd (not_both (holds a q) (all_of a b (IsDistinct-from_AllPairs Decides-eqb a d) few each q other) is)
        both q false false is other each = is ∙ sym other

    back : aq ≡ bs → shares_all a b ≡ true
    back is = shares_if a b (λ q has. sym (holds_permuted a aq q h.same ∙ ap (λ (l : List ℕ). holds l q) is ∙ sym (holds_permuted b bs q k.same)) ∙ has)

    by : (p r : Bool) → shares_all a b ≡ p → bytes_eq aq bs ≡ r → shares_all a b ≡ bytes_eq aq bs
    by true true s t = s ∙ sym t
    by false false s t = s ∙ sym t
    by true false s t = absurd (not_both (bytes_eq aq bs) ((bytes_eq-Decides aq bs).1 (forth s)) t)
    by false true s t = absurd (not_both (shares_all a b) (back ((bytes_eq-Decides aq bs).0 t)) s)

-- a hand has all of its own queues
pub all_own : (a : List ℕ) → shares_all a a ≡ true
all_own a = shares_if a a (λ q has. has)
