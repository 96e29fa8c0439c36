-- One flow more.
use Rattle.std.proofs.Common.{◌≡◌, ◌∙◌, ◌+◌, ◌<◌, ◌++◌, ◌∷◌, List, Option, Some, drop, length, map, sym, ap, subst, arith}
use Rattle.std.specs.Prelude.{option_and_then, slice_get}
use Rattle.std.proofs.lemmas.List.{drop_more}
use Rattle.apf_cluster_tables.specs.Found.{said}
use Rattle.apf_cluster_tables.specs.Pairs.{FlowSaid, flow_view, pairs_from, told_pair}
use Rattle.apf_cluster_tables.specs.declared.flows.Flow.{Flow}
use Rattle.apf_cluster_tables.specs.declared.pairs.FlowPair.{FlowPair}
use Rattle.apf_cluster_tables.proofs.Pairing.{pairs_more}
use Rattle.apf_cluster_tables.proofs.pairs.add_pairs.Goals as goal

pub loop-place-preserved : goal.loop-place-preserved
loop-place-preserved c =
    let flows = c.args.own.flows.now in
    let own : List FlowSaid = said c.args.own in
    let others : List FlowSaid = said c.args.others in
    let i = c.loop-place.place in
    let flow : Flow = c.flow-item.result in
    let old : List FlowPair = c.loop-place.pairs.items in
    let whole : List FlowPair = c.args.pairs.now.items ++ pairs_from own others 0 own in
    let within : i < length flows = omega arith in
    let cut : map flow_view (drop i flows) ≡ flow_view flow ∷ map flow_view (drop (i + 1) flows) = ap (map flow_view) (drop_more flows i flow within ∙ ap (λ (f : Flow). f ∷ drop (i + 1) flows) (sym c.flow-item.is)) in
    pairs_more own others i (flow_view flow) (map flow_view (drop (i + 1) flows)) old c.add_pair.new.pairs.items whole
    (c.in_ok-add_pair.ensures ∙ ap (λ (o : Option FlowSaid). old ++ told_pair (Some (flow_view flow)) o) (c.flow_at-partner.ensures ∙ ap (option_and_then (slice_get others)) c.partner_of.ensures))
    (subst (λ (fs : List FlowSaid). old ++ pairs_from own others i fs ≡ whole) cut c.loop-place.invariant)
