-- What the sort by the times gives.
use Rattle.std.proofs.Common.{rules}
use Rattle.std.proofs.lemmas.List.Sorted.{IsNonDecreasingBy-from_sort_by_key}
use Rattle.apf_picture.specs.declared.totals.Change.{Change}
use Rattle.apf_picture.proofs.totals.put_in_order.Goals as goal

pub returns-clause-in_order : goal.returns-clause-in_order
returns-clause-in_order c = IsNonDecreasingBy-from_sort_by_key (λ (it : Change). it.time) _ c.sort_unstable_by_key.ensures.sorted (λ a r f h. search rules)
