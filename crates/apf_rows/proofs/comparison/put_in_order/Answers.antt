use Rattle.std.proofs.Common.{◌+◌, ◌∙◌, sym, rules}
use Rattle.std.specs.Prelude.{slice_index_or}
use Rattle.std.proofs.lemmas.List.Sorted.{answers_always}
use Rattle.apf_rows.specs.declared.comparison.Place.{Place}
use Rattle.apf_rows.proofs.Ordered.{pair_order}
use Rattle.apf_rows.proofs.comparison.put_in_order.Goals as goal

pub returns-clause-in_order : goal.returns-clause-in_order
returns-clause-in_order c = λ k d low high.
    let places = c.sort_unstable_by_key.new.self.items in
    let later = slice_index_or places (k + 1) d in
    let earlier = slice_index_or places k d in
    let sorted = c.sort_unstable_by_key.ensures.sorted (λ (place : Place). (place.likeness, place.flow)) (answers_always _ _ _ (λ f a r g h. search rules)) in
    sym (pair_order later.likeness earlier.likeness later.flow earlier.flow) ∙ sorted k d low high
