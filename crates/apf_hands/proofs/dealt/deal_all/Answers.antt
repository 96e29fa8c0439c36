-- One flow more.
use Rattle.std.proofs.Common.{◌≡◌, ◌+◌, List, [], ◌∷◌, ◌++◌, ℕ, All, map, take, sym, ◌∙◌, ap, subst}
use Rattle.std.proofs.lemmas.List.{map_more, map-append}
use Rattle.std.proofs.lemmas.List.Elements.{All-push}
use Rattle.apf_times.specs.declared.window.Arrival.{Arrival}
use Rattle.apf_traces.specs.declared.request.TraceRequest.{TraceRequest}
use Rattle.apf_hands.specs.declared.dealt.Dealt.{Dealt}
use Rattle.apf_hands.specs.Alike.{AreOrdered}
use Rattle.apf_hands.specs.Dealing.{IsDealt}
use Rattle.apf_hands.specs.Dealt.{flow_of}
use Rattle.apf_hands.specs.Hands.{Flow, dealt_by, flows_in}
use Rattle.apf_hands.proofs.dealt.deal_all.Goals as goal

pub loop-first-preserved : goal.loop-first-preserved
loop-first-preserved c =
    let sizes = c.args.dealer.now in
    let firsts = c.args.firsts.now in
    let i = c.loop-first.first-index in
    let first = c.first-item.result in
    let hand = c.hand_of-hand.result.items in
    let more : flows_in sizes (take (i + 1) firsts) ≡ flows_in sizes (take i firsts) ++ dealt_by sizes first.item ∷ [] =
    map_more (λ (x : Arrival TraceRequest). dealt_by sizes x.item) firsts i first c.loop-first-test.true
    ∙ ap (λ (x : Arrival TraceRequest). flows_in sizes (take i firsts) ++ dealt_by sizes x.item ∷ []) (sym c.first-item.is) in
    record {
      flows = ap (λ (ds : List Dealt). map flow_of ds) c.in_ok-push.ensures.items
          ∙ (map-append flow_of c.loop-first.all.items (_ ∷ [])
          ∙ (ap (λ (fs : List Flow). fs ++ record { hash = first.item.hash; names = first.item.names; hand = hand } ∷ []) c.loop-first.invariant.flows
          ∙ (ap (λ (cards : List ℕ). flows_in sizes (take i firsts) ++ record { hash = first.item.hash; names = first.item.names; hand = cards } ∷ []) c.hand_of-hand.ensures.dealt
          ∙ sym more)));
      each = subst (All (IsDealt sizes)) (sym c.in_ok-push.ensures.items)
          (All-push (IsDealt sizes) c.loop-first.all.items _ c.loop-first.invariant.each (record {
            hand = c.hand_of-hand.ensures.dealt;
            size = c.hand_of-hand.ensures.size;
            distinct = c.hand_of-hand.ensures.distinct;
            queues = subst (λ (cards : List ℕ). AreOrdered cards c.in_ok-queues.queues.items) c.as_slice.ensures.value c.in_ok-queues.ensures;
          }));
    }
