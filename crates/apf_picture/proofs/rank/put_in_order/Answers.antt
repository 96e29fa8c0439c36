-- What the sort by the three numbers gives.
use Rattle.std.proofs.Common.{◌+◌, ◌∙◌, sym, rules}
use Rattle.std.specs.Prelude.{slice_index_or}
use Rattle.std.proofs.lemmas.List.Sorted.{answers_always}
use Rattle.apf_picture.specs.declared.rank.Standing.{Standing}
use Rattle.apf_picture.proofs.Ordered.{three_order}
use Rattle.apf_picture.proofs.rank.put_in_order.Goals as goal

pub returns-clause-in_order : goal.returns-clause-in_order
returns-clause-in_order c = λ k d low high.
    let standings = c.sort_unstable_by_key.new.self.items in
    let later = slice_index_or standings (k + 1) d in
    let earlier = slice_index_or standings k d in
    let sorted = c.sort_unstable_by_key.ensures.sorted (λ (it : Standing). (record { 0 = it.waited }, record { 0 = it.requests }, it.flow)) (answers_always _ _ _ (λ f a r g h. search rules)) in
    sym (three_order earlier.waited later.waited earlier.requests later.requests later.flow earlier.flow) ∙ sorted k d low high
