-- One more card of a hand that is being dealt.
use Rattle.std.proofs.Common.{◌≡◌, ℕ, suc, ◌+◌, ◌-◌, ◌<◌, ◌%◌, ◌/◌, List, [], ◌∷◌, ◌++◌, length, append_assoc, sym, ◌∙◌, ap, arith, refl}
use Rattle.std.specs.Prelude.{remove, slice_index}
use Rattle.apf_flow.specs.Deal.{hand_from}
use Rattle.apf_flow.specs.Places.{left_of}
use Rattle.apf_flow.proofs.FirstPlace.{left_of-more}

-- the cards dealt, and then those that are still to come, are the whole hand
pub deal_more : (deck places cards whole : List ℕ) (rest i left hand card : ℕ) → length (left_of deck places) ≡ left → i < hand
    → slice_index (left_of deck places) (rest % left) ≡ card
    → cards ++ hand_from (left_of deck places) rest (hand - i) ≡ whole
    → (cards ++ card ∷ []) ++ hand_from (left_of deck (places ++ (rest % left) ∷ [])) (rest / left) (hand - (i + 1)) ≡ whole
deal_more deck places cards whole rest i left hand card len more card_is dealt =
    let one_more : hand - i ≡ suc (hand - (i + 1)) = omega arith in
    let unrolled : hand_from (left_of deck places) rest (suc (hand - (i + 1)))
    ≡ card ∷ hand_from (remove (left_of deck places) (rest % left)) (rest / left) (hand - (i + 1))
    = rw len (rw card_is refl) in
    rw left_of-more (append_assoc cards (card ∷ []) _ ∙ ap (λ t. cards ++ t) (sym unrolled)
    ∙ ap (λ m. cards ++ hand_from (left_of deck places) rest m) (sym one_more) ∙ dealt)
