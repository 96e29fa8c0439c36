-- What the sort by the six numbers gives.
use Rattle.std.proofs.Common.{◌+◌, ◌∙◌, sym, rules}
use Rattle.std.specs.Prelude.{slice_index_or}
use Rattle.std.proofs.lemmas.List.Sorted.{answers_always}
use Rattle.apf_cluster_tables.specs.Pairs.{flow_in, level_in}
use Rattle.apf_cluster_tables.specs.declared.pairs.FlowPair.{FlowPair}
use Rattle.apf_cluster_tables.proofs.Ordered.{six_order}
use Rattle.apf_cluster_tables.proofs.pairs.put_in_order.Goals as goal

pub returns-clause-in_order : goal.returns-clause-in_order
returns-clause-in_order c = λ k d low high.
    let pairs = c.sort_unstable_by_key.new.self.items in
    let later = slice_index_or pairs (k + 1) d in
    let earlier = slice_index_or pairs k d in
    let sorted = c.sort_unstable_by_key.ensures.sorted (λ (p : FlowPair). (p.haste, p.luck, level_in p.first, flow_in p.first, level_in p.second, flow_in p.second)) (answers_always _ _ _ (λ f a r g h. search rules)) in
    sym (six_order later.haste earlier.haste later.luck earlier.luck (level_in later.first) (level_in earlier.first) (flow_in later.first) (flow_in earlier.first)
    (level_in later.second) (level_in earlier.second) (flow_in later.second) (flow_in earlier.second)) ∙ sorted k d low high
