-- The changes until the time are the first ones.
use Rattle.std.proofs.Common.{leb, rules}
use Rattle.std.proofs.lemmas.List.Sorted.{IsPartitionPoint-from_clause, IsPartitionedBy-leb}
use Rattle.apf_picture.specs.declared.totals.Change.{Change}
use Rattle.apf_picture.proofs.Counts.{sum_at_point}
use Rattle.apf_picture.proofs.totals.count_until.Goals as goal

pub returns-clause-count : goal.returns-clause-count
returns-clause-count c =
    let parted = IsPartitionedBy-leb (λ (it : Change). it.time) _ c.args.time c.requires in
    let point = IsPartitionPoint-from_clause (λ (it : Change). leb it.time c.args.time) _ _ c.partition_point.ensures.partitioned parted (λ a r q k. search rules) in
    sum_at_point c.args.changes.now c.partition_point.result c.args.time point.0 point.1 c.partition_point.ensures.bound
