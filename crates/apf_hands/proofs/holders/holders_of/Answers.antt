-- One flow more.
use Rattle.std.proofs.Common.{◌≡◌, ◌<◌, ℕ, List, [], ◌∷◌, ◌+◌, ◌++◌, length, take, length-take-le, sym, ◌∙◌, ap, subst, arith}
use Rattle.std.specs.Prelude.{map, if◌then◌else◌}
use Rattle.std.proofs.lemmas.List.{take_more, map-append, length-map}
use Rattle.apf_hands.specs.declared.dealt.Dealt.{Dealt}
use Rattle.apf_hands.specs.Dealt.{flow_of, flows_of}
use Rattle.apf_hands.specs.Hands.{Flow, holds}
use Rattle.apf_hands.specs.Holders.{AreHolders, places_at}
use Rattle.apf_hands.proofs.Held.{holders_more}
use Rattle.apf_hands.proofs.holders.holders_of.Goals as goal

pub loop-place-preserved : goal.loop-place-preserved
loop-place-preserved c =
    let flows = c.args.flows.now in
    let place = c.loop-place.place in
    let flow = c.index-flows-place.result in
    let within : place < length flows = omega arith in
    let so_far : place ≡ length (flows_of (take place flows)) = sym (length-map (take place flows) flow_of ∙ length-take-le place flows (omega (arith, within))) in
    let more : flows_of (take (place + 1) flows) ≡ flows_of (take place flows) ++ flow_of flow ∷ [] =
    ap (λ (ds : List Dealt). map flow_of ds) (take_more flows place flow within ∙ ap (λ (d : Dealt). take place flows ++ d ∷ []) (sym c.index-flows-place.is))
    ∙ map-append flow_of (take place flows) (flow ∷ []) in
    let added = holders_more (flows_of (take place flows)) (places_at c.loop-place.holders) (places_at c.add_hand.new.holders) place (flow_of flow)
    c.loop-place.invariant so_far
    (λ queue. c.in_ok-add_hand.ensures queue
    ∙ ap (λ (hand : List ℕ). places_at c.loop-place.holders queue ++ (if holds hand queue then place ∷ [] else [])) c.as_slice.ensures.value) in
    subst (λ (fs : List Flow). AreHolders fs (places_at c.add_hand.new.holders)) (sym more) added
