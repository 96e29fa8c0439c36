-- What the sort by the four numbers gives.
use Rattle.std.proofs.Common.{◌+◌, ◌∙◌, sym, rules}
use Rattle.std.specs.Prelude.{slice_index_or}
use Rattle.std.proofs.lemmas.List.Sorted.{answers_always}
use Rattle.apf_cluster_tables.specs.declared.order.FlowPlace.{FlowPlace}
use Rattle.apf_cluster_tables.proofs.Ordered.{four_order}
use Rattle.apf_cluster_tables.proofs.order.put_in_order.Goals as goal

pub returns-clause-in_order : goal.returns-clause-in_order
returns-clause-in_order c = λ k d low high.
    let places = c.sort_unstable_by_key.new.self.items in
    let later = slice_index_or places (k + 1) d in
    let earlier = slice_index_or places k d in
    let sorted = c.sort_unstable_by_key.ensures.sorted (λ (place : FlowPlace). (place.haste, place.luck, place.level, place.flow)) (answers_always _ _ _ (λ f a r g h. search rules)) in
    sym (four_order later.haste earlier.haste later.luck earlier.luck later.level earlier.level later.flow earlier.flow) ∙ sorted k d low high
