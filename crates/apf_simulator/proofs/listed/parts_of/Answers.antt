-- One more, and then all of them.
use Rattle.std.proofs.Common.{◌≡◌, List, [], ◌∷◌, ◌++◌, map, refl, sym, ap, ◌∙◌, subst}
use Rattle.std.proofs.lemmas.Iterator.Adapters.{YieldsList-from_vec}
use Rattle.std.proofs.lemmas.Iterator.Consumers.{YieldsList-end}
use Rattle.apf_traces.specs.declared.request.TraceRequest.{TraceRequest}
use Rattle.apf_stream.specs.declared.ended.Ended.{Ended}
use Rattle.apf_simulator.specs.declared.held.Held.{Held}
use Rattle.apf_simulator.specs.Hearing.{AreParts}
use Rattle.apf_simulator.proofs.Showing.{part_more}
use Rattle.apf_simulator.proofs.listed.parts_of.Goals as goal

map_same : (held : List Held) → map (λ (h : Held). h) held ≡ held
map_same [] = refl
map_same (h ∷ held) = ap (λ (l : List Held). h ∷ l) (map_same held)

pub loop-it-preserved : goal.loop-it-preserved
loop-it-preserved c =
    subst (λ (ends : List Ended). AreParts (c.loop-it.yielded ++ c.in-Some.it ∷ []) c.push.new.requests.items ends) (sym c.in_ok-push.ensures.ends)
    (subst (λ (requests : List TraceRequest). AreParts (c.loop-it.yielded ++ c.in-Some.it ∷ []) requests (c.loop-it.ends.items ++ c.in-Some-ended.ended ∷ [])) (sym c.in_ok-push.ensures.requests)
    (part_more c.loop-it.yielded c.loop-it.requests.items c.loop-it.ends.items c.in-Some.it c.in-Some-ended.ended c.in-Some-ended.is c.loop-it.invariant))

pub returns : goal.returns
returns c =
    let gives = c.into_iter-it-iterator.ensures.into_iter_gives in
    let t = YieldsList-end (YieldsList-from_vec {s = c.into_iter-it-iterator.result} c.args.held.items gives.0 (gives.1 ∙ c.args.held.ok.0)) c.loop-it.yielded c.loop-it.it-iterator c.loop-it.yielded_by c.next.result c.next.new.self c.in-None.is c.next.ensures.steps in
    subst (λ (l : List Held). AreParts l c.loop-it.requests.items c.loop-it.ends.items) (sym (map_same c.loop-it.yielded) ∙ t.0) c.loop-it.invariant
