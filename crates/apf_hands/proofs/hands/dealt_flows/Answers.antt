-- The flows that were dealt are those of the first requests.
use Rattle.std.proofs.Common.{List, Option, map, ◌∙◌, ap, sym, subst}
use Rattle.std.specs.Prelude.{nat_eq}
use Rattle.std.specs.List.{IsDistinct}
use Rattle.apf_flow.specs.Sizes.{Sizes}
use Rattle.apf_times.specs.declared.window.Arrival.{Arrival}
use Rattle.apf_traces.specs.declared.request.TraceRequest.{TraceRequest}
use Rattle.apf_hands.specs.Firsts.{hash_of}
use Rattle.apf_hands.specs.Hands.{flows_in, sizes_of}
use Rattle.apf_hands.proofs.Deals.{same_hashes}
use Rattle.apf_hands.proofs.hands.dealt_flows.Goals as goal

pub returns-clause-ok : goal.returns-clause-ok
returns-clause-ok c =
    c.in_ok-deal_all.ensures.flows ∙ ap (λ (o : Option Sizes). flows_in o c.as_slice.result.now) c.in-Ok.ensures.ok
    ∙ ap (λ (firsts : List (Arrival TraceRequest)). flows_in (sizes_of c.args.config.now) firsts) c.as_slice.ensures.same

pub returns-clause-hands : goal.returns-clause-hands
returns-clause-hands c = record {
  sizes = c.in-Ok.dealer;
  each = c.in_ok-deal_all.ensures.each;
  distinct =
      subst (IsDistinct nat_eq) (sym (same_hashes c.in-Ok.dealer c.in_ok-deal_all.field-0.items c.as_slice.result.now c.in_ok-deal_all.ensures.flows
      ∙ ap (λ (firsts : List (Arrival TraceRequest)). map hash_of firsts) c.as_slice.ensures.same)) c.as_slice.ensures.distinct.distinct;
}
