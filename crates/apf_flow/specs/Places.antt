-- Cards taken out of a deck in turn, and the cards that are left.
use Rattle.std.specs.Prelude.{ℕ, ◌≡◌, ◌<◌, List, [], ◌∷◌, length, slice_index, remove}
use Rattle.apf_flow.specs.Deal.{deck_of}

-- the cards left after those at these places were taken out in turn
abbrev pub left_of : List ℕ → List ℕ → List ℕ
left_of cards [] = cards
left_of cards (place ∷ places) = left_of (remove cards place) places

-- each place is one of the cards that are left when its turn comes
abbrev pub ArePlaces : List ℕ → List ℕ → Type 0
ArePlaces cards [] = Unit {0}
ArePlaces cards (place ∷ places) = (place < length cards) × ArePlaces (remove cards place) places

-- in any deck, the card at a place among those left after these places
abbrev pub IsCardAt : List ℕ → ℕ → ℕ → Type 0
IsCardAt places place card = (size : ℕ)
    → ArePlaces (deck_of size) places
    → place < length (left_of (deck_of size) places)
    → slice_index (left_of (deck_of size) places) place ≡ card
