-- The places of the flows that hold a queue, and what is written of the queues of a hand by them.
use Rattle.std.proofs.Common.{◌≡◌, ℕ, suc, ◌+◌, ◌-◌, List, [], ◌∷◌, ◌++◌, Bool, true, false, cond, length, refl, sym, ◌∙◌, ap, ap₂, arith}
use Rattle.std.specs.Prelude.{filter, nat_lt, if◌then◌else◌}
use Rattle.std.specs.List.{flat_map}
use Rattle.std.proofs.lemmas.List.Sums.{length-filter}
use Rattle.apf_hands.specs.Hands.{Flow, all_sharers_text, holds, sharers_line, sharers_text}
use Rattle.apf_hands.specs.Holders.{AreHolders, all_others_text, others_text, places_from}

-- one flow more at a queue, or not
from_more : (place : ℕ) (flows : List Flow) (flow : Flow) (queue : ℕ)
    → places_from place (flows ++ flow ∷ []) queue ≡ places_from place flows queue ++ (if holds flow.hand queue then (place + length flows) ∷ [] else [])
from_more place [] flow queue =
    let same : place ≡ place + 0 = omega arith in
    ap (λ (n : ℕ). if holds flow.hand queue then n ∷ [] else []) same
from_more place (f ∷ flows) flow queue =
    by (holds f.hand queue) (from_more (suc place) flows flow queue)
    ∙ ap (λ (n : ℕ). places_from place (f ∷ flows) queue ++ (if holds flow.hand queue then n ∷ [] else [])) same
  where
    same : suc place + length flows ≡ place + length (f ∷ flows)
    same = omega arith

    by : (b : Bool) → places_from (suc place) (flows ++ flow ∷ []) queue ≡ places_from (suc place) flows queue ++ (if holds flow.hand queue then (suc place + length flows) ∷ [] else [])
        → cond b (place ∷ places_from (suc place) (flows ++ flow ∷ []) queue) (places_from (suc place) (flows ++ flow ∷ []) queue)
        ≡ cond b (place ∷ places_from (suc place) flows queue) (places_from (suc place) flows queue) ++ (if holds flow.hand queue then (suc place + length flows) ∷ [] else [])
    by true rest = ap (λ (ps : List ℕ). place ∷ ps) rest
    by false rest = rest

-- one flow more
pub holders_more : (flows : List Flow) (places new : ℕ → List ℕ) (place : ℕ) (flow : Flow) → AreHolders flows places → place ≡ length flows
    → ((queue : ℕ) → new queue ≡ places queue ++ (if holds flow.hand queue then place ∷ [] else [])) → AreHolders (flows ++ flow ∷ []) new
holders_more flows places new place flow h is more = record {
  each = λ queue.
      more queue
      ∙ ap₂ (λ (ps : List ℕ) (n : ℕ). ps ++ (if holds flow.hand queue then n ∷ [] else [])) (h.each queue) is
      ∙ sym (from_more 0 flows flow queue ∙ ap (λ (n : ℕ). places_from 0 flows queue ++ (if holds flow.hand queue then n ∷ [] else [])) (let same : 0 + length flows ≡ length flows = omega arith in same));
}

-- as many places as flows hold the queue
length_from : (place : ℕ) (flows : List Flow) (queue : ℕ) → length (places_from place flows queue) ≡ length (filter (λ (flow : Flow). holds flow.hand queue) flows)
length_from place [] queue = refl
length_from place (f ∷ flows) queue = by (holds f.hand queue) (length_from (suc place) flows queue)
  where
    by : (b : Bool) → length (places_from (suc place) flows queue) ≡ length (filter (λ (flow : Flow). holds flow.hand queue) flows)
        → length (cond b (place ∷ places_from (suc place) flows queue) (places_from (suc place) flows queue))
        ≡ length (cond b (f ∷ filter (λ (flow : Flow). holds flow.hand queue) flows) (filter (λ (flow : Flow). holds flow.hand queue) flows))
    by true rest = ap suc rest
    by false rest = rest

-- two texts of the elements, which are the same at each
flat_map_same : (f g : ℕ → List ℕ) → ((x : ℕ) → f x ≡ g x) → (xs : List ℕ) → flat_map f xs ≡ flat_map g xs
flat_map_same f g same [] = refl
flat_map_same f g same (x ∷ xs) = ap₂ (λ a b. a ++ b) (same x) (flat_map_same f g same xs)

-- how many others hold a queue
others_same : (flows : List Flow) (places : ℕ → List ℕ) → AreHolders flows places → (queue : ℕ) → others_text places queue ≡ sharers_text flows queue
others_same flows places h queue =
    ap (λ (n : ℕ). if nat_lt 0 (n - 1) then sharers_line queue (n - 1) else []) (ap (λ (ps : List ℕ). length ps) (h.each queue) ∙ length_from 0 flows queue ∙ length-filter (λ (flow : Flow). holds flow.hand queue) flows)

-- what is written of the queues of a hand is what is to be written
pub sharers_same : (flows : List Flow) (places : ℕ → List ℕ) → AreHolders flows places → (hand : List ℕ) → all_others_text places hand ≡ all_sharers_text flows hand
sharers_same flows places h hand = flat_map_same (others_text places) (sharers_text flows) (others_same flows places h) hand
