-- One queue more.
use Rattle.std.proofs.Common.{◌+◌, ℕ, List, ◌∷◌, [], ◌++◌, Bor, length, sym, ◌∙◌, ap, ap₂}
use Rattle.std.proofs.lemmas.List.{length_push, map_more, map_push}
use Rattle.apf_hands.specs.Holders.{lists_of, places_at}
use Rattle.apf_hands.proofs.sharers.rests_of.Goals as goal

pub loop-queue-preserved : goal.loop-queue-preserved
loop-queue-preserved c =
    let rests = c.loop-queue.rests.items in
    let hand = c.args.hand.now in
    let i = c.loop-queue.queue-index in
    let items = c.push.ensures.items in (
      ap (λ (rs : List (Bor (List ℕ))). length rs) items ∙ length_push rests c.holding.result ∙ ap (λ (n : ℕ). n + 1) c.loop-queue.invariant.0,
      ap (λ (rs : List (Bor (List ℕ))). lists_of rs) items ∙ map_push (λ (rest : Bor (List ℕ)). rest.now) rests c.holding.result
          ∙ ap₂ (λ (ps : List (List ℕ)) (p : List ℕ). ps ++ p ∷ []) c.loop-queue.invariant.1 c.holding.ensures
          ∙ sym (map_more (places_at c.args.holders.now) hand i 0 c.loop-queue-test.true),
    )
