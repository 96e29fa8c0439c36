-- The queues that were sorted, each once.
use Rattle.std.proofs.Common.{List, ℕ, subst}
use Rattle.std.specs.Prelude.{IsPermutation, nat_eq}
use Rattle.std.proofs.lemmas.List.Filters.{dedup_is}
use Rattle.apf_picture.proofs.columns.used_queues.Goals as goal

pub returns-clause-queues : goal.returns-clause-queues
returns-clause-queues c = record {
  sorted = c.sort.new.self.items;
  permutation = subst (λ (xs : List ℕ). IsPermutation xs c.sort.new.self.items) c.in_ok-queues.ensures.queues c.sort.ensures.permutation;
  order = c.in_ok-sort.ensures.sorted;
  once = dedup_is nat_eq c.sort.new.self.items c.dedup.new.self.items c.dedup.ensures.filtered;
}
