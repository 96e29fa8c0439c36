-- Where a card that is left stood in the whole list.
use Rattle.std.proofs.Common.{◌≡◌, ℕ, suc, ◌+◌, ◌<◌, ◌≤◌, List, [], ◌∷◌, ◌++◌, length, get_or, ◌∙◌, refl, arith, inl, inr}
use Rattle.std.specs.Prelude.{remove, nat_le, if◌then◌else◌}
use Rattle.std.proofs.lemmas.Bool.Decides.{nat_tests, leb_tells}
use Rattle.std.proofs.lemmas.List.Edits.{length-remove, get_or-remove_below, get_or-remove_above}
use Rattle.apf_flow.specs.Deal.{deck_of}
use Rattle.apf_flow.specs.Places.{left_of, ArePlaces, IsCardAt}
use Rattle.apf_flow.proofs.Decks.{get_or-deck_of}

-- a place before one card was taken out
abbrev pub place_before : ℕ → ℕ → ℕ
place_before taken place = if nat_le taken place then place + 1 else place

-- a place before any of the cards at these places were taken out in turn
abbrev pub first_place : List ℕ → ℕ → ℕ
first_place [] place = place
first_place (taken ∷ places) place = place_before taken (first_place places place)

place_before-le : (taken q p n : ℕ) → q ≤ p + n → place_before taken q ≤ p + suc n
place_before-le taken q p n bound = grind (arith, nat_tests)

-- each card taken out moves a place up by one at most
pub first_place-le : (places : List ℕ) (place : ℕ) → first_place places place ≤ place + length places
first_place-le [] place = omega arith
first_place-le (taken ∷ places) place =
    place_before-le taken (first_place places place) place (length places) (first_place-le places place)

-- the card at a place after one was taken out, and where it stood
one_taken : (cards : List ℕ) (taken place : ℕ) → taken < length cards → place < length (remove cards taken)
    → (place_before taken place < length cards)
    × (get_or (remove cards taken) place 0 ≡ get_or cards (place_before taken place) 0)
one_taken cards taken place taken_in place_in =
    let gone = length-remove cards taken taken_in in
    elim (leb_tells taken place) [
      | inl above ↦ rw above.0 (omega arith, get_or-remove_above cards taken 0 place above.1 taken_in)
      | inr below ↦ rw below.0 (omega arith, get_or-remove_below cards taken 0 place below.1 taken_in)
    ]

-- the card at a place of those left is the one at the first place of the whole list
pub first_place-card : (places cards : List ℕ) (place : ℕ) → ArePlaces cards places → place < length (left_of cards places)
    → (first_place places place < length cards)
    × (get_or (left_of cards places) place 0 ≡ get_or cards (first_place places place) 0)
first_place-card [] cards place ins within = (within, refl)
first_place-card (taken ∷ places) cards place ins within =
    let later = first_place-card places (remove cards taken) place ins.1 within in
    let here = one_taken cards taken (first_place places place) ins.0 later.0 in
    (here.0, later.1 ∙ here.1)

-- so in a deck the first place is the card
pub IsCardAt-first_place : (places : List ℕ) (place : ℕ) → IsCardAt places place (first_place places place)
IsCardAt-first_place places place size ins within =
    let stood = first_place-card places (deck_of size) place ins within in
    stood.1 ∙ get_or-deck_of size (first_place places place) 0 stood.0

-- one more card taken out
pub left_of-more : (places cards : List ℕ) (p : ℕ) → left_of cards (places ++ p ∷ []) ≡ remove (left_of cards places) p
left_of-more [] cards p = refl
left_of-more (taken ∷ places) cards p = left_of-more places (remove cards taken) p

pub ArePlaces-more : (places cards : List ℕ) (p : ℕ) → ArePlaces cards places → p < length (left_of cards places)
    → ArePlaces cards (places ++ p ∷ [])
ArePlaces-more [] cards p ins within = (within, tt)
ArePlaces-more (taken ∷ places) cards p ins within = (ins.0, ArePlaces-more places (remove cards taken) p ins.1 within)

pub length-left_of-more : (places cards : List ℕ) (p n : ℕ) → p < length (left_of cards places)
    → length (left_of cards places) + n ≡ length cards → length (left_of cards (places ++ p ∷ [])) + (n + 1) ≡ length cards
length-left_of-more places cards p n within len =
    rw left_of-more (omega (arith, length-remove (left_of cards places) p within))
