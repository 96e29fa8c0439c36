-- All waits were counted, in any order.
use Rattle.std.proofs.Common.{reverse, ap, subst}
use Rattle.std.proofs.lemmas.List.{take_all}
use Rattle.std.proofs.lemmas.List.Sorted.{IsPermutation-reverse, IsPermutation-sym, IsPermutation-trans}
use Rattle.apf_times.specs.Waits.{AreCounted}
use Rattle.apf_times.proofs.Tallies.{counted_moved}
use Rattle.apf_times.proofs.waits.counted.Goals as goal

pub returns-clause-counted : goal.returns-clause-counted
returns-clause-counted g c others moved =
    let ws = c.args.waits.now in
    let all = ap reverse (take_all c.loop-wait.wait-index ws c.loop-wait-test.false) in
    let same = IsPermutation-trans others ws (reverse ws) moved (IsPermutation-reverse ws) in
    counted_moved (reverse ws) others c.loop-wait.counts (IsPermutation-sym others (reverse ws) same) (subst (λ l. AreCounted l c.loop-wait.counts) all c.loop-wait.invariant.counted)
