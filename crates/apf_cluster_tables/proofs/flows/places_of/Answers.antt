-- No flow, one more, and all of them.
use Rattle.std.proofs.Common.{◌≡◌, ◌+◌, ◌<◌, ℕ, List, ◌∷◌, Option, drop, length, map, sym, ap, ◌∙◌, subst, arith}
use Rattle.std.specs.Option.{option_or}
use Rattle.std.proofs.lemmas.List.{drop_all, drop_more}
use Rattle.apf_matching.specs.First.{place_from}
use Rattle.apf_cluster_tables.specs.Pairs.{FlowSaid, Key, flow_view, is_same, key_of, place_of}
use Rattle.apf_cluster_tables.specs.Places.{FindsPlace, place_at}
use Rattle.apf_cluster_tables.specs.declared.flows.Flow.{Flow}
use Rattle.apf_cluster_tables.proofs.Keys.{places_all, places_more}
use Rattle.apf_cluster_tables.proofs.flows.places_of.Goals as goal

pub loop-place-preserved : goal.loop-place-preserved
loop-place-preserved c = λ key.
    let flows = c.args.flows.now in
    let i = c.loop-place.place in
    let flow : Flow = c.index-flows-place.result in
    let within : i < length flows = omega arith in
    let rest : List FlowSaid = map flow_view (drop (i + 1) flows) in
    let whole : Option ℕ = place_of key (map flow_view flows) in
    let cut : map flow_view (drop i flows) ≡ flow_view flow ∷ rest = ap (map flow_view) (drop_more flows i flow within ∙ ap (λ (f : Flow). f ∷ drop (i + 1) flows) (sym c.index-flows-place.is)) in
    places_more i (flow_view flow) rest c.loop-place.places c.note.new.places whole key (subst (λ (k : Key). FindsPlace k i c.loop-place.places c.note.new.places) c.key_of.ensures c.in_ok-note.ensures)
    (subst (λ (fs : List FlowSaid). option_or (place_at c.loop-place.places key) (place_from (λ (f : FlowSaid). is_same (key_of f) key) i fs) ≡ whole) cut (c.loop-place.invariant key))

pub returns : goal.returns
returns c =
    let flows = c.args.flows.now in
    let i = c.loop-place.place in
    record { each = λ key. places_all i (map flow_view (drop i flows)) c.loop-place.places (place_of key (map flow_view flows)) key (ap (map flow_view) (drop_all i flows (omega arith))) (c.loop-place.invariant key) }
