-- The tree of the numbers.
use Rattle.std.proofs.Common.{◌≡◌, ◌≢◌, ℕ, zero, suc, ◌+◌, ◌-◌, ◌*◌, ◌/◌, ◌^◌, ◌<◌, ◌≤◌, ◌⊎◌, inl, inr, List, length, get_or, min, refl, sym, ap, ◌∙◌, subst, arith}
use Rattle.std.specs.Prelude.{drop, replicate}
use Rattle.std.specs.Int.{IsPowerOfTwo}
use Rattle.std.proofs.lemmas.List.{get_or-drop, length-drop, length-replicate, get_or-replicate}
use Rattle.std.proofs.Math.Nat.{pow-suc, le-mul_of_pos_right}
use Rattle.std.proofs.lemmas.Bool.{cases_eq, cases_lt}
use Rattle.std.proofs.lemmas.Nat.{pow_pos}
use Rattle.apf_least.specs.Least.{no_number, AreLeast, IsOver, IsFirstUnder, IsFirstRound, IsFirstLeastFrom, IsReachedBy}

-- node i has the least of its two
abbrev pub IsOfTwo : List ℕ → ℕ → Type 0
IsOfTwo least i = get_or least i 0 ≡ min (get_or least (2 * i) 0) (get_or least (2 * i + 1) 0)

-- one level up, a node has twice as many leaves under it
twice : (i h : ℕ) → i * 2 ^ suc h ≡ 2 * (i * 2 ^ h)
twice i h = ap (λ (s : ℕ). i * s) (pow-suc 2 h) ∙ omega arith

-- a leaf stands over itself alone
leaf_over : (leaves h i : ℕ) → leaves ≤ i → IsOver leaves h i → h ≡ 0
leaf_over leaves zero i leaf over = refl
leaf_over leaves (suc h) i leaf over =
    let a = over.within in
    let b = twice (i + 1) h in
    let c = le-mul_of_pos_right (i + 1) (pow_pos h) in
    absurd (omega arith)

-- the two under a node
over_left : (leaves h i : ℕ) → IsOver leaves (suc h) i → IsOver leaves h (2 * i)
over_left leaves h i over =
    let a = over.from in
    let b = over.within in
    let c = twice i h in
    let d = twice (i + 1) h in
    record { from = omega arith; within = omega arith }

over_right : (leaves h i : ℕ) → IsOver leaves (suc h) i → IsOver leaves h (2 * i + 1)
over_right leaves h i over =
    let a = over.from in
    let b = over.within in
    let c = twice i h in
    let d = twice (i + 1) h in
    record { from = omega arith; within = omega arith }

inner_over : (leaves h i : ℕ) → IsOver leaves (suc h) i → i < leaves
inner_over leaves h i over =
    let b = over.within in
    let d = twice (i + 1) h in
    let c = le-mul_of_pos_right (i + 1) (pow_pos h) in
    omega arith

some_leaf : (leaves : ℕ) (least : List ℕ) → AreLeast leaves least → 1 ≤ leaves
some_leaf leaves least tree = let p = pow_pos tree.is_power.0 in let e = tree.is_power.1 in omega arith

module _ (leaves : ℕ) (least : List ℕ) (tree : AreLeast leaves least) where
  -- the root has the least of all
  below_root : (n i : ℕ) → i ≤ n → 1 ≤ i → i < 2 * leaves → get_or least 1 0 ≤ get_or least i 0
  below_root zero i h one within = absurd (omega arith)
  below_root (suc n) i h one within = elim (cases_lt 1 i) [
    | inl more ↦
        let up = below_root n (i / 2) (omega arith) (omega arith) (omega arith) in
        let e = tree.inner (i / 2) (omega arith) (omega arith) in
        elim (cases_eq (2 * (i / 2)) i) [
          | inl even ↦ let s = ap (λ (j : ℕ). get_or least j 0) even in omega arith
          | inr odd ↦ let s = ap (λ (j : ℕ). get_or least j 0) (let o : 2 * (i / 2) + 1 ≡ i = omega arith in o) in omega arith
        ]
    | inr same ↦ let e : i ≡ 1 = omega arith in let s = ap (λ (j : ℕ). get_or least j 0) e in omega arith
  ]

  pub root_least : (i : ℕ) → 1 ≤ i → i < 2 * leaves → get_or least 1 0 ≤ get_or least i 0
  root_least i one within = below_root i i (omega arith) one within

  -- a node that stands over leaves is one of the tree
  over_one : (h i : ℕ) → IsOver leaves h i → 1 ≤ i
  over_one h i over = elim (cases_lt 0 i) [
    | inl l ↦ l
    | inr none ↦
        let e : i ≡ 0 = omega arith in
        let s = ap (λ (j : ℕ). j * 2 ^ h) e in
        let a = over.from in
        let b = some_leaf leaves least tree in
        absurd (omega arith)
  ]

  -- no leaf under a node has less
  pub least_under : (h i : ℕ) → IsOver leaves h i → (x : ℕ) → i * 2 ^ h ≤ x → x < (i + 1) * 2 ^ h → get_or least i 0 ≤ get_or least x 0
  least_under zero i over x from within = let e : i ≡ x = omega arith in let s = ap (λ (j : ℕ). get_or least j 0) e in omega arith
  least_under (suc h) i over x from within =
      let e = tree.inner i (over_one (suc h) i over) (inner_over leaves h i over) in
      let c = twice i h in
      let d = twice (i + 1) h in
      elim (cases_lt x ((2 * i + 1) * 2 ^ h)) [
        | inl l ↦ let s = least_under h (2 * i) (over_left leaves h i over) x (omega arith) (omega arith) in omega arith
        | inr l ↦ let s = least_under h (2 * i + 1) (over_right leaves h i over) x (omega arith) (omega arith) in omega arith
      ]

  -- the first leaf under the left of two, where it has the least, and else the first under the right
  pub first_left : (i x : ℕ) → i < leaves → get_or least (2 * i) 0 ≡ get_or least i 0
      → ((h : ℕ) → IsOver leaves h (2 * i) → IsFirstUnder least h (2 * i) x) → (h : ℕ) → IsOver leaves h i → IsFirstUnder least h i x
  first_left i x inner e first zero over = let a = over.from in absurd (omega arith)
  first_left i x inner e first (suc h) over =
      let f = first h (over_left leaves h i over) in
      let c = twice i h in
      let d = twice (i + 1) h in
      record {
        from = (let a = f.from in omega arith);
        within = (let a = f.within in omega arith);
        has = f.has ∙ e;
        first = λ y from below same. f.first y (omega arith) below (same ∙ sym e);
      }

  pub first_right : (i x : ℕ) → i < leaves → get_or least (2 * i) 0 ≢ get_or least i 0
      → ((h : ℕ) → IsOver leaves h (2 * i + 1) → IsFirstUnder least h (2 * i + 1) x) → (h : ℕ) → IsOver leaves h i → IsFirstUnder least h i x
  first_right i x inner ne first zero over = let a = over.from in absurd (omega arith)
  first_right i x inner ne first (suc h) over =
      let f = first h (over_right leaves h i over) in
      let c = twice i h in
      let d = twice (i + 1) h in
      let two = tree.inner i (over_one (suc h) i over) inner in
      let e : get_or least (2 * i + 1) 0 ≡ get_or least i 0 = omega (arith, ne) in
      record {
        from = (let a = f.from in omega arith);
        within = (let a = f.within in omega arith);
        has = f.has ∙ e;
        first = λ y from below same. elim (cases_lt y ((2 * i + 1) * 2 ^ h)) [
          | inl l ↦ let s = least_under h (2 * i) (over_left leaves h i over) y (omega arith) (omega arith) in absurd (omega (arith, ne))
          | inr l ↦ f.first y l below (same ∙ sym e)
        ];
      }

  pub first_leaf : (i : ℕ) → leaves ≤ i → (h : ℕ) → IsOver leaves h i → IsFirstUnder least h i i
  first_leaf i leaf zero over = record { from = omega arith; within = omega arith; has = refl; first = λ y from below same. absurd (omega arith) }
  first_leaf i leaf (suc h) over = absurd (let e = leaf_over leaves (suc h) i leaf over in omega arith)

-- what is reached no later when counting round from b is so from a, where neither stands from a up to b
reached_back : (a b x y : ℕ) → a ≤ b → (x < a) ⊎ (b ≤ x) → (y < a) ⊎ (b ≤ y) → IsReachedBy b x y → IsReachedBy a x y
reached_back a b x y between p q r = grind arith

-- a node that begins before the last leaf ends there at the latest
next_fits : (k h i : ℕ) → 1 ≤ i → i * 2 ^ h < 2 * 2 ^ k → (i + 1) * 2 ^ h ≤ 2 * 2 ^ k
next_fits k zero i one below = omega arith
next_fits zero (suc h) i one below = let a = twice i h in let c = le-mul_of_pos_right i (pow_pos h) in absurd (omega arith)
next_fits (suc k) (suc h) i one below =
    let a = twice i h in
    let b = twice (i + 1) h in
    let c = pow-suc 2 k in
    let s = next_fits k h i one (omega arith) in
    omega arith

module _ (leaves : ℕ) (least : List ℕ) (tree : AreLeast leaves least) where
  over_next : (h i : ℕ) → 1 ≤ i → leaves ≤ i * 2 ^ h → i * 2 ^ h < 2 * leaves → IsOver leaves h i
  over_next h i one from below =
      let e = tree.is_power.1 in
      record { from = from; within = (let f = next_fits tree.is_power.0 h i one (omega arith) in omega arith) }

  -- no leaf under the node has what the root has
  none_under : (h i : ℕ) → IsOver leaves h i → 1 ≤ i → i < 2 * leaves → get_or least i 0 ≢ get_or least 1 0
      → (y : ℕ) → get_or least y 0 ≡ get_or least 1 0 → (y < i * 2 ^ h) ⊎ ((i + 1) * 2 ^ h ≤ y)
  none_under h i over one within ne y e = elim (cases_lt y (i * 2 ^ h)) [
    | inl l ↦ inl l
    | inr l ↦ elim (cases_lt y ((i + 1) * 2 ^ h)) [
      | inl m ↦
          let a = least_under leaves least tree h i over y l m in
          let b = root_least leaves least tree i one within in
          absurd (ne (omega arith))
      | inr m ↦ inr m
    ]
  ]

  -- the first leaf is one under this node
  pub round_here : (i x : ℕ) → get_or least i 0 ≡ get_or least 1 0
      → ((h : ℕ) → IsOver leaves h i → IsFirstUnder least h i x) → (h : ℕ) → IsOver leaves h i → IsFirstRound least leaves (i * 2 ^ h) x
  round_here i x e first h over =
      let f = first h over in
      let a = over.from in
      let b = over.within in
      let c = f.from in
      let d = f.within in
      record {
        is_leaf = omega arith;
        within = omega arith;
        has = f.has ∙ e;
        first = λ y leaf below same. elim (cases_lt y (i * 2 ^ h)) [
          | inl l ↦ inl (c, inr l)
          | inr l ↦ elim (cases_lt y x) [
            | inl m ↦ absurd (f.first y l m (same ∙ sym e))
            | inr m ↦ inl (c, inl m)
          ]
        ];
      }

  -- it is not, and the count goes on after it
  pub round_next : (i x : ℕ) → 1 ≤ i → i < 2 * leaves → get_or least i 0 ≢ get_or least 1 0
      → ((h : ℕ) → IsOver leaves h ((i + 1) / 2) → IsFirstRound least leaves ((i + 1) / 2 * 2 ^ h) x)
      → (h : ℕ) → IsOver leaves h i → IsFirstRound least leaves (i * 2 ^ h) x
  round_next i x one within ne first h over =
      let k = (i + 1) / 2 in
      let a = over.from in
      let b = over.within in
      let t = twice k h in
      let p = pow_pos h in
      let none = none_under h i over one within ne in
      elim (cases_eq (2 * k) i) [
        | inl even ↦
            let s = ap (λ (j : ℕ). j * 2 ^ h) even in
            let begins : k * 2 ^ suc h ≡ i * 2 ^ h = omega arith in
            subst (λ (n : ℕ). IsFirstRound least leaves n x) begins (first (suc h) (over_next (suc h) k (omega arith) (omega arith) (omega arith)))
        | inr odd ↦
            let s = ap (λ (j : ℕ). j * 2 ^ h) (let o : 2 * k ≡ i + 1 = omega arith in o) in
            elim (cases_lt ((i + 1) * 2 ^ h) (2 * leaves)) [
              | inl more ↦
                  let begins : k * 2 ^ suc h ≡ (i + 1) * 2 ^ h = omega arith in
                  let f = subst (λ (n : ℕ). IsFirstRound least leaves n x) begins (first (suc h) (over_next (suc h) k (omega arith) (omega arith) (omega arith))) in
                  record {
                    is_leaf = f.is_leaf;
                    within = f.within;
                    has = f.has;
                    first = λ y leaf below same. reached_back (i * 2 ^ h) ((i + 1) * 2 ^ h) x y (omega arith) (none x f.has) (none y same) (f.first y leaf below same);
                  }
              | inr last ↦
                  let begins : k * 2 ^ h ≡ leaves = omega arith in
                  let f = subst (λ (n : ℕ). IsFirstRound least leaves n x) begins (first h (over_next h k (omega arith) (omega arith) (omega arith))) in
                  record {
                    is_leaf = f.is_leaf;
                    within = f.within;
                    has = f.has;
                    first = λ y leaf below same. (let r = f.first y leaf below same in let u = none x f.has in let v = none y same in let w = f.within in let z = f.is_leaf in grind arith);
                  }
            ]
      ]

  -- what the tree says of the list of its leaves
  pub number_at : (q : ℕ) → get_or (drop leaves least) q 0 ≡ get_or least (leaves + q) 0
  number_at q = get_or-drop leaves least q 0

  pub number_count : length (drop leaves least) ≡ leaves
  number_count = let a = length-drop leaves least in let b = tree.nodes in omega arith

  pub none_there : no_number ≤ get_or least 1 0 → (q : ℕ) → q < length (drop leaves least) → no_number ≤ get_or (drop leaves least) q 0
  none_there e q in_list =
      let a = number_at q in
      let b = number_count in
      let c = some_leaf leaves least tree in
      let d = root_least leaves least tree (leaves + q) (omega arith) (omega arith) in
      omega arith

  -- the count round from a place is the one from its leaf
  pub round_from : (from x : ℕ) (nodes : List ℕ) → nodes ≡ least → from < length (drop leaves least)
      → ((h : ℕ) → IsOver leaves h (leaves + from) → IsFirstRound nodes leaves ((leaves + from) * 2 ^ h) x) → IsFirstRound least leaves (leaves + from) x
  round_from from x nodes e in_list round =
      let n = number_count in
      let begins : (leaves + from) * 2 ^ 0 ≡ leaves + from = omega arith in
      let over : IsOver leaves 0 (leaves + from) = record { from = omega arith; within = omega arith } in
      subst (λ (xs : List ℕ). IsFirstRound xs leaves (leaves + from) x) e (subst (λ (a : ℕ). IsFirstRound nodes leaves a x) begins (round 0 over))

  pub first_least_is : (from x : ℕ) → from < length (drop leaves least) → get_or least 1 0 < no_number → IsFirstRound least leaves (leaves + from) x
      → IsFirstLeastFrom (drop leaves least) from (x - leaves)
  first_least_is from x in_list waits round =
      let n = number_count in
      let i = round.is_leaf in
      let w = round.within in
      let h = round.has in
      let one = some_leaf leaves least tree in
      let here : get_or (drop leaves least) (x - leaves) 0 ≡ get_or least 1 0 = number_at (x - leaves) ∙ ap (λ j. get_or least j 0) (let e : leaves + (x - leaves) ≡ x = omega arith in e) ∙ h in
      record {
        is_place = omega arith;
        is_number = omega arith;
        least = λ p below. (let a = number_at p in let r = root_least leaves least tree (leaves + p) (omega arith) (omega arith) in omega arith);
        first = λ p below same. (let a = number_at p in let r = round.first (leaves + p) (omega arith) (omega arith) (omega arith) in grind arith);
      }

-- a tree of equal numbers
pub opening_least : (leaves number : ℕ) → IsPowerOfTwo leaves → leaves < 2 ^ 32 → AreLeast leaves (replicate (2 * leaves) number)
opening_least leaves number power few =
    record {
      is_power = power;
      few = few;
      nodes = length-replicate (2 * leaves) number;
      inner = λ i one below. (
          let a = get_or-replicate (2 * leaves) i number 0 (omega arith) in
          let b = get_or-replicate (2 * leaves) (2 * i) number 0 (omega arith) in
          let c = get_or-replicate (2 * leaves) (2 * i + 1) number 0 (omega arith) in
          omega arith);
    }
