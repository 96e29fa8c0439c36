-- One flow more.
use Rattle.std.proofs.Common.{◌≡◌, ◌+◌, ℕ, List, [], ◌∷◌, ◌++◌, take, map, sym, ◌∙◌, ap, subst}
use Rattle.std.specs.Io.KnownBytes.{Appends}
use Rattle.std.proofs.lemmas.List.{take_more, map-append}
use Rattle.apf_hands.specs.declared.dealt.Dealt.{Dealt}
use Rattle.apf_hands.specs.Alike.{IsOnce, held_text, hashes_at, hashes_for}
use Rattle.apf_hands.specs.Dealt.{flow_of, flows_of}
use Rattle.apf_hands.specs.Hands.{flow_text}
use Rattle.apf_hands.specs.Holders.{places_at}
use Rattle.apf_hands.proofs.Covers.{held_same, own_once}
use Rattle.apf_hands.proofs.Written.{texts_more}
use Rattle.apf_hands.proofs.hands.write_all.Goals as goal

pub write_flow-requires : goal.write_flow-requires
write_flow-requires g c =
    let flow = c.flow-item.result in
    let hashes = hashes_at c.in_ok-alike.alike in
    let told : hashes_for hashes flow.queues.items ≡ c.alike_to-hashes.result.now = sym (c.alike_to-hashes.ensures ∙ ap (hashes_for hashes) c.as_slice.ensures.value) in
    subst (IsOnce flow.first.now.hash) told
    (own_once c.args.flows.now hashes c.in_ok-alike.ensures c.requires.dealt flow c.loop-flow.flow-index c.loop-flow-test.true c.flow-item.is)

pub loop-flow-preserved : goal.loop-flow-preserved
loop-flow-preserved g c =
    let told = g.W.Write.contents in
    let flows = c.args.flows.now in
    let i = c.loop-flow.flow-index in
    let flow = c.flow-item.result in
    let hashes = hashes_at c.in_ok-alike.alike in
    let places = places_at c.in_ok-holders.holders in
    let more : flows_of (take (i + 1) flows) ≡ flows_of (take i flows) ++ flow_of flow ∷ [] =
    ap (λ (ds : List Dealt). map flow_of ds) (take_more flows i flow c.loop-flow-test.true ∙ ap (λ (d : Dealt). take i flows ++ d ∷ []) (sym c.flow-item.is))
    ∙ map-append flow_of (take i flows) (flow ∷ []) in
    let these : c.alike_to-hashes.result.now ≡ hashes_for hashes flow.queues.items = c.alike_to-hashes.ensures ∙ ap (hashes_for hashes) c.as_slice.ensures.value in
    let same : held_text places c.alike_to-hashes.result.now (flow_of flow) ≡ flow_text (flows_of flows) (flow_of flow) =
    ap (λ (hs : List ℕ). held_text places hs (flow_of flow)) these
    ∙ held_same flows hashes c.in_ok-alike.ensures c.requires.dealt flow i c.loop-flow-test.true c.flow-item.is places c.in_ok-holders.ensures in
    texts_more (flow_text (flows_of flows)) (flows_of (take i flows)) (flow_of flow) (flows_of (take (i + 1) flows)) more
    (told c.args.out.now) (told c.loop-flow.out) (told c.write_flow.new.out) c.loop-flow.invariant
    (subst (λ t. Appends (told c.loop-flow.out) (told c.write_flow.new.out) t) same c.in_ok-write_flow.ensures)
