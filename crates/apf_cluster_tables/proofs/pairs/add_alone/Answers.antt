-- One flow more.
use Rattle.std.proofs.Common.{◌≡◌, ◌∙◌, ◌+◌, ◌<◌, ◌++◌, ◌∷◌, ℕ, List, Option, drop, length, map, sym, ap, subst, arith}
use Rattle.std.proofs.lemmas.List.{drop_more}
use Rattle.apf_cluster_tables.specs.Found.{said}
use Rattle.apf_cluster_tables.specs.Pairs.{FlowSaid, alone_by, alone_from, flow_view}
use Rattle.apf_cluster_tables.specs.declared.flows.Flow.{Flow}
use Rattle.apf_cluster_tables.specs.declared.pairs.FlowPair.{FlowPair}
use Rattle.apf_cluster_tables.proofs.Pairing.{alone_more}
use Rattle.apf_cluster_tables.proofs.pairs.add_alone.Goals as goal

pub loop-place-preserved : goal.loop-place-preserved
loop-place-preserved c =
    let flows = c.args.own.flows.now in
    let own : List FlowSaid = said c.args.own in
    let others : List FlowSaid = said c.args.others in
    let i = c.loop-place.place in
    let flow : Flow = c.flow-item.result in
    let old : List FlowPair = c.loop-place.pairs.items in
    let whole : List FlowPair = c.args.pairs.now.items ++ alone_from own others 0 own in
    let within : i < length flows = omega arith in
    let cut : map flow_view (drop i flows) ≡ flow_view flow ∷ map flow_view (drop (i + 1) flows) = ap (map flow_view) (drop_more flows i flow within ∙ ap (λ (f : Flow). f ∷ drop (i + 1) flows) (sym c.flow-item.is)) in
    alone_more own others i (flow_view flow) (map flow_view (drop (i + 1) flows)) old c.add_one.new.pairs.items whole
    (c.in_ok-add_one.ensures ∙ ap (λ (o : Option ℕ). old ++ alone_by o (flow_view flow)) c.partner_of.ensures)
    (subst (λ (fs : List FlowSaid). old ++ alone_from own others i fs ≡ whole) cut c.loop-place.invariant)
