-- One flow more.
use Rattle.std.proofs.Common.{◌≡◌, ◌+◌, ℕ, List, [], ◌∷◌, ◌++◌, take, sym, ◌∙◌, ap, subst}
use Rattle.std.specs.Prelude.{bytes_eq, if◌then◌else◌}
use Rattle.std.proofs.lemmas.List.{take_more}
use Rattle.apf_hands.specs.declared.dealt.Dealt.{Dealt}
use Rattle.apf_hands.specs.Alike.{AreAlike, hashes_at}
use Rattle.apf_hands.proofs.Covers.{alike_more}
use Rattle.apf_hands.proofs.alike.alike_of.Goals as goal

pub loop-flow-preserved : goal.loop-flow-preserved
loop-flow-preserved c =
    let flows = c.args.flows.now in
    let i = c.loop-flow.flow-index in
    let flow = c.flow-item.result in
    let more : take (i + 1) flows ≡ take i flows ++ flow ∷ [] = take_more flows i flow c.loop-flow-test.true ∙ ap (λ (d : Dealt). take i flows ++ d ∷ []) (sym c.flow-item.is) in
    let added = alike_more (take i flows) flow (hashes_at c.loop-flow.alike) (hashes_at c.add.new.alike) c.loop-flow.invariant
    (λ others. c.in_ok-add.ensures others ∙ ap (λ (queues : List ℕ). hashes_at c.loop-flow.alike others ++ (if bytes_eq queues others then flow.first.now.hash ∷ [] else [])) c.as_slice.ensures.value) in
    subst (λ (ds : List Dealt). AreAlike ds (hashes_at c.add.new.alike)) (sym more) added
