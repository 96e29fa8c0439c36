-- Dealing a hand of cards from a deck by a number.
use Rattle.std.specs.Prelude.{ℕ, zero, suc, ◌%◌, ◌/◌, List, [], ◌∷◌, length, slice_index, remove}
use Rattle.std.specs.List.{range_with_len}
use Rattle.apf_flow.specs.Sizes.{Sizes}

-- the whole deck: 0, 1, .., size - 1
abbrev pub deck_of : ℕ → List ℕ
deck_of size = range_with_len 0 size

-- deals count cards: takes out the card at place h modulo the cards left, and goes on with the quotient
abbrev pub hand_from : List ℕ → ℕ → ℕ → List ℕ
hand_from cards h zero = []
hand_from cards h (suc count) =
    slice_index cards (h % length cards)
    ∷ hand_from (remove cards (h % length cards)) (h / length cards) count

-- the hand that a number deals from the whole deck
unfoldable pub hand_of : Sizes → ℕ → List ℕ
hand_of sizes h = hand_from (deck_of sizes.deck) h sizes.hand
