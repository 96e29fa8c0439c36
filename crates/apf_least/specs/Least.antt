-- The least of the numbers in places, and the tree that finds it.
use Rattle.std.specs.Prelude.{◌≡◌, ◌≢◌, ℕ, ◌+◌, ◌-◌, ◌*◌, ◌^◌, ◌<◌, ◌≤◌, ◌⊎◌, min, List, length, slice_index}
use Rattle.std.specs.Int.{IsPowerOfTwo}

-- what stands in a place that has no number
abbrev pub no_number : ℕ
no_number = 2 ^ 128 - 1

-- counting round from `from`, q is reached no later than p
abbrev pub IsReachedBy : ℕ → ℕ → ℕ → Type 0
IsReachedBy from q p = ((from ≤ q) × ((q ≤ p) ⊎ (p < from))) ⊎ ((q ≤ p) × (p < from))

-- q has the least number, and is the first of those that have it when counting round from `from`
pub record IsFirstLeastFrom (numbers : List ℕ) (from q : ℕ) : Type 0 where
  pub is_place : q < length numbers
  pub is_number : slice_index numbers q < no_number
  pub least : (p : ℕ) → p < length numbers → slice_index numbers q ≤ slice_index numbers p
  pub first : (p : ℕ) → p < length numbers → slice_index numbers p ≡ slice_index numbers q → IsReachedBy from q p

-- the tree over this many leaves: node 1 is the root, nodes 2i and 2i + 1 stand under node i, and node leaves + q is leaf q
pub record AreLeast (leaves : ℕ) (least : List ℕ) : Type 0 where
  pub is_power : IsPowerOfTwo leaves
  pub few : leaves < 2 ^ 32
  pub nodes : length least ≡ 2 * leaves
  -- each inner node has the least of its two
  pub inner : (i : ℕ) → 1 ≤ i → i < leaves → slice_index least i ≡ min (slice_index least (2 * i)) (slice_index least (2 * i + 1))

-- node i stands h levels over the leaves
pub record IsOver (leaves h i : ℕ) : Type 0 where
  pub from : leaves ≤ i * 2 ^ h
  pub within : (i + 1) * 2 ^ h ≤ 2 * leaves

-- x is the first leaf under node i, which stands h levels over the leaves, that has what node i has
pub record IsFirstUnder (least : List ℕ) (h i x : ℕ) : Type 0 where
  pub from : i * 2 ^ h ≤ x
  pub within : x < (i + 1) * 2 ^ h
  pub has : slice_index least x ≡ slice_index least i
  pub first : (y : ℕ) → i * 2 ^ h ≤ y → y < x → slice_index least y ≢ slice_index least i

-- x is the first leaf that has what the root has, counting round from leaf a
pub record IsFirstRound (least : List ℕ) (leaves a x : ℕ) : Type 0 where
  pub is_leaf : leaves ≤ x
  pub within : x < 2 * leaves
  pub has : slice_index least x ≡ slice_index least 1
  pub first : (y : ℕ) → leaves ≤ y → y < 2 * leaves → slice_index least y ≡ slice_index least 1 → IsReachedBy a x y
