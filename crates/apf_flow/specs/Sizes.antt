-- The sizes of a dealer.
use Rattle.std.specs.Prelude.{ℕ, ◌≤◌, ◌^◌}

-- how many cards the deck has, and how many a hand
pub record Sizes : Type 0 where
  pub deck : ℕ
  pub hand : ℕ

-- the sizes that a dealer may have
pub record IsDealable (deck hand : ℕ) : Type 0 where
  pub some_deck : 1 ≤ deck
  pub some_hand : 1 ≤ hand
  pub hand_in_deck : hand ≤ deck
  pub small_deck : deck ≤ 2 ^ 26
  pub little_entropy : deck ^ hand ≤ 2 ^ 60
