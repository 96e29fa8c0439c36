use Rattle.std.proofs.Common.{◌≡◌, ◌+◌, ◌-◌, ◌++◌, length}
use Rattle.apf_flow.specs.Deal.{deck_of, hand_from}
use Rattle.apf_flow.specs.Places.{left_of, ArePlaces}
use Rattle.apf_flow.proofs.dealer.Dealer.deal.Given as goal

abbrev pub invariant-loop-i : goal.invariant-loop-i
invariant-loop-i l = record {
  taken : ArePlaces (deck_of l.deck) l.places.items;
  places_len : length l.places.items ≡ l.i;
  cards_len : length l.cards.items ≡ l.i;
  left : length (left_of (deck_of l.deck) l.places.items) + l.i ≡ l.deck;
  dealt : l.cards.items ++ hand_from (left_of (deck_of l.deck) l.places.items) l.rest (l.hand - l.i)
      ≡ hand_from (deck_of l.deck) l.hash l.hand;
}
