-- The flows of the first standings are some of all.
use Rattle.std.proofs.Common.{ℕ, ◌<◌, List, take, subst, sym}
use Rattle.std.specs.Prelude.{All}
use Rattle.std.proofs.lemmas.List.Elements.{All-map, All-take}
use Rattle.std.proofs.lemmas.List.Sorted.{All-permutation}
use Rattle.std.proofs.lemmas.Result.{IfOk-weaker}
use Rattle.apf_picture.specs.declared.rank.Standing.{Standing}
use Rattle.apf_picture.proofs.rank.own_flows.Goals as goal

pub returns-clause-flows : goal.returns-clause-flows
returns-clause-flows c =
    let Known : List Standing → Type 0 = λ (ss : List Standing). All (λ (it : Standing). it.flow < c.args.flows) ss in
    let sorted = c.put_in_order.new.standings.items in
    let n = c.min-count.result in
    let known : Known sorted = All-permutation (λ (it : Standing). it.flow < c.args.flows) c.in_ok-standings.standings.items sorted c.put_in_order.ensures.same c.in_ok-standings.ensures.known in
    let first : Known (take n c.deref.result.now) = subst (λ (ss : List Standing). Known (take n ss)) (sym c.deref.ensures.value) (All-take (λ (it : Standing). it.flow < c.args.flows) n sorted known) in
    IfOk-weaker c.first_flows.result _ _ (λ own e. subst (λ (flows : List ℕ). All (λ (flow : ℕ). flow < c.args.flows) flows) (sym e) (All-map (λ (flow : ℕ). flow < c.args.flows) (λ (it : Standing). it.flow) (take n c.deref.result.now) first)) c.first_flows.ensures.own
