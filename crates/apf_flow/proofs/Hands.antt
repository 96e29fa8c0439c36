-- Laws of the hands that are dealt, by induction on the number of cards.
use Rattle.std.proofs.Common.{◌≡◌, ◌≢◌, ℕ, zero, suc, ◌<◌, ◌≤◌, ◌%◌, ◌/◌, ◌^◌, List, length, arith, inl, inr}
use Rattle.std.specs.Prelude.{remove, slice_index, All, AllPairs}
use Rattle.std.proofs.lemmas.List.Edits.{length-remove}
use Rattle.std.proofs.lemmas.List.Elements.{All-nil, All-cons}
use Rattle.std.proofs.lemmas.List.Kept.{AllPairs-cons}
use Rattle.std.proofs.lemmas.List.Quantifiers.{all_pairs_remove}
use Rattle.std.proofs.lemmas.Bool.Decides.{leb_tells}
use Rattle.std.proofs.Math.Nat.{pow-le-pow_left, pow-le-pow_right}
use Rattle.apf_flow.specs.Sizes.{Sizes, IsDealable}
use Rattle.apf_flow.specs.Deal.{hand_from, hand_of}
use Rattle.apf_flow.proofs.Decks.{length-deck_of, All-deck_of, AllPairs-deck_of, All-remove, taken_apart}

-- a hand has as many cards as were asked for
pub length-hand_from : (count : ℕ) (cards : List ℕ) (h : ℕ) → length (hand_from cards h count) ≡ count
length-hand_from zero cards h = omega arith
length-hand_from (suc count) cards h =
    omega (arith, length-hand_from count (remove cards (h % length cards)) (h / length cards))

-- what holds of each card holds of each card dealt
pub All-hand_from : (P : ℕ → Type 0) (count : ℕ) (cards : List ℕ) (h : ℕ) → count ≤ length cards
    → All P cards → All P (hand_from cards h count)
All-hand_from P zero cards h enough all = All-nil P
All-hand_from P (suc count) cards h enough all =
    let within : h % length cards < length cards = omega arith in
    let gone = length-remove cards (h % length cards) within in
    All-cons P (slice_index cards (h % length cards)) _ (all (h % length cards) 0 within)
    (All-hand_from P count (remove cards (h % length cards)) (h / length cards) (omega (arith, gone))
    (All-remove P cards (h % length cards) within all))

-- cards that all differ are dealt into a hand of cards that all differ
pub AllPairs-hand_from : (count : ℕ) (cards : List ℕ) (h : ℕ) → count ≤ length cards
    → AllPairs (λ card later. card ≢ later) cards → AllPairs (λ card later. card ≢ later) (hand_from cards h count)
AllPairs-hand_from zero cards h enough apart = λ i j d before within. absurd (omega arith)
AllPairs-hand_from (suc count) cards h enough apart =
    let differ : ℕ → ℕ → Type 0 = λ card later. card ≢ later in
    let place : ℕ = h % length cards in
    let within : place < length cards = omega arith in
    let gone = length-remove cards place within in
    let enough_left : count ≤ length (remove cards place) = omega (arith, gone) in
    AllPairs-cons differ (slice_index cards place) (hand_from (remove cards place) (h / length cards) count)
    (All-hand_from (differ (slice_index cards place)) count (remove cards place) (h / length cards) enough_left
    (taken_apart cards place within apart))
    (AllPairs-hand_from count (remove cards place) (h / length cards) enough_left
    (all_pairs_remove differ cards place within apart))

pub length-hand_of : (sizes : Sizes) (h : ℕ) → length (hand_of sizes h) ≡ sizes.hand
unfolding hand_of
length-hand_of sizes h = length-hand_from sizes.hand _ h

-- the cards of a hand are below the deck's size
pub All-hand_of : (sizes : Sizes) (h : ℕ) → sizes.hand ≤ sizes.deck → All (λ card. card < sizes.deck) (hand_of sizes h)
unfolding hand_of
All-hand_of sizes h in_deck =
    All-hand_from (λ card. card < sizes.deck) sizes.hand _ h (omega (arith, length-deck_of sizes.deck)) (All-deck_of sizes.deck)

-- the cards of a hand are distinct
pub AllPairs-hand_of : (sizes : Sizes) (h : ℕ) → sizes.hand ≤ sizes.deck
    → AllPairs (λ card later. card ≢ later) (hand_of sizes h)
unfolding hand_of
AllPairs-hand_of sizes h in_deck =
    AllPairs-hand_from sizes.hand _ h (omega (arith, length-deck_of sizes.deck)) (AllPairs-deck_of sizes.deck)

-- a hand has fifteen cards at most: sixteen from a deck of sixteen are too many already
pub hand-le-15 : (deck hand : ℕ) → IsDealable deck hand → hand ≤ 15
hand-le-15 deck hand sizes =
    elim (leb_tells 16 hand) [
      | inl many ↦
          let sixteen : 16 ≤ deck = omega (arith, many.1) in
          let low : 16 ^ 16 ≤ deck ^ 16 = pow-le-pow_left sixteen 16 in
          let high : deck ^ 16 ≤ deck ^ hand = pow-le-pow_right (omega arith) many.1 in
          absurd (omega (arith, low, high))
      | inr few ↦ omega (arith, few.1)
    ]
