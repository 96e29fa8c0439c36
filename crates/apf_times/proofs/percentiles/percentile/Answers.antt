-- The least wait that enough are not above.
use Rattle.std.proofs.Common.{◌-◌, slice_index_or, arith}
use Rattle.std.proofs.lemmas.List.Sorted.{IsNonDecreasingBy-from_sort}
use Rattle.apf_times.proofs.NearestRank.{sorted_nearest, percentile_moved}
use Rattle.apf_times.proofs.percentiles.percentile.Goals as goal

pub returns-clause-sorted : goal.returns-clause-sorted
returns-clause-sorted c = IsNonDecreasingBy-from_sort (λ w. w) c.sort_unstable.new.self c.sort_unstable.ensures.sorted

pub returns-clause-nearest : goal.returns-clause-nearest
returns-clause-nearest c some =
    let xs = c.sort_unstable.new.self in
    let rank = c.div_ceil-rank.result in
    let len = c.sort_unstable.ensures.len in
    percentile_moved c.args.percent c.args.waits.now xs c.sort_unstable.ensures.permutation (slice_index_or xs (rank - 1) 0)
    (sorted_nearest c.args.percent xs (returns-clause-sorted c) c.requires.some c.requires.at_most_all (omega arith) rank c.div_ceil-rank.ensures)
