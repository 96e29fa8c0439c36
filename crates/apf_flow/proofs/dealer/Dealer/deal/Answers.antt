use Rattle.std.proofs.Common.{◌≡◌, ◌<◌, ◌%◌, ◌-◌, ◌≤◌, ◌≢◌, ℕ, List, length, refl, sym, ap, ◌∙◌, subst, arith, lit<}
use Rattle.std.specs.Prelude.{All, AllPairs}
use Rattle.std.proofs.lemmas.List.{append-nil}
use Rattle.apf_flow.specs.Sizes.{Sizes}
use Rattle.apf_flow.specs.Deal.{deck_of, hand_of}
use Rattle.apf_flow.specs.Places.{left_of}
use Rattle.apf_flow.proofs.Decks.{length-deck_of}
use Rattle.apf_flow.proofs.FirstPlace.{ArePlaces-more, length-left_of-more}
use Rattle.apf_flow.proofs.Hands.{hand-le-15, All-hand_of, AllPairs-hand_of}
use Rattle.apf_flow.proofs.Dealing.{deal_more}
use Rattle.apf_flow.proofs.dealer.Dealer.deal.Goals as goal

pub loop-i-init : goal.loop-i-init
loop-i-init c =
    let whole = length-deck_of c.self.inside.deck in
    let none_dealt : c.self.inside.hand - 0 ≡ c.self.inside.hand = omega arith in
    rw (c.new-places.ensures, c.new-cards.ensures) (record {
      taken = tt;
      places_len = refl;
      cards_len = refl;
      left = omega (arith, whole);
      dealt = rw none_dealt refl;
    })

pub push-requires : goal.push-requires
push-requires c =
    let small = hand-le-15 c.self.inside.deck c.self.inside.hand c.self.invariant in
    let room : length c.loop-i.cards.items < 15 = omega arith in
    (lit< tt, room)

pub push-requires-in-loop-i : goal.push-requires-in-loop-i
push-requires-in-loop-i c =
    let small = hand-le-15 c.self.inside.deck c.self.inside.hand c.self.invariant in
    let room : length c.loop-i.places.items < 15 = omega arith in
    (lit< tt, room)

pub loop-i-preserved : goal.loop-i-preserved
loop-i-preserved c =
    let deck : List ℕ = deck_of c.self.inside.deck in
    let place : ℕ = c.loop-i.rest % c.from-left.result in
    let whole = length-deck_of c.self.inside.deck in
    let len : length (left_of deck c.loop-i.places.items) ≡ c.from-left.result = omega arith in
    let within : place < length (left_of deck c.loop-i.places.items) = omega (arith, len) in
    let at_places = rw c.as_slice.ensures.value at c.card_at.ensures in
    let card = at_places c.self.inside.deck c.loop-i.invariant.taken within in
    record {
      taken = rw c.push-in-loop-i.ensures.items (ArePlaces-more c.loop-i.places.items deck place c.loop-i.invariant.taken within);
      places_len = omega arith;
      cards_len = omega arith;
      left = rw c.push-in-loop-i.ensures.items
          (length-left_of-more c.loop-i.places.items deck place c.loop-i.i within (c.loop-i.invariant.left ∙ sym whole) ∙ whole);
      dealt = rw (c.push.ensures.items, c.push-in-loop-i.ensures.items)
          (deal_more deck c.loop-i.places.items c.loop-i.cards.items _ c.loop-i.rest c.loop-i.i c.from-left.result
          c.self.inside.hand c.card_at.result len c.loop-i-test.true card c.loop-i.invariant.dealt);
    }

-- the cards dealt when none is left to deal
whole_hand : (c : goal.After-loop-i) → c.loop-i.cards.items ≡ hand_of c.args.self.now c.args.hash
unfolding hand_of
whole_hand c =
    let over : c.self.inside.hand - c.loop-i.i ≡ 0 = omega arith in
    let ended = rw over at c.loop-i.invariant.dealt in
    sym (append-nil c.loop-i.cards.items) ∙ ended ∙ ap (λ s. hand_of s c.args.hash) c.self.view_is

hand_in_deck : (c : goal.After-loop-i) → c.args.self.now.hand ≤ c.args.self.now.deck
hand_in_deck c = subst (λ (s : Sizes). s.hand ≤ s.deck) c.self.view_is c.self.invariant.hand_in_deck

pub returns-clause-dealt : goal.returns-clause-dealt
returns-clause-dealt c = whole_hand c

pub returns-clause-distinct : goal.returns-clause-distinct
returns-clause-distinct c =
    subst (AllPairs (λ card later. card ≢ later)) (sym (whole_hand c)) (AllPairs-hand_of c.args.self.now c.args.hash (hand_in_deck c))

pub returns-clause-in_deck : goal.returns-clause-in_deck
returns-clause-in_deck c =
    subst (All (λ card. card < c.args.self.now.deck)) (sym (whole_hand c)) (All-hand_of c.args.self.now c.args.hash (hand_in_deck c))
