-- One change more.
use Rattle.std.proofs.Common.{◌≡◌, ◌+◌, arith}
use Rattle.std.proofs.lemmas.List.Sums.{sum_by_more}
use Rattle.std.proofs.lemmas.List.FromFn.{map-range_with_len_more}
use Rattle.apf_picture.specs.Changes.{amount_of, sum_of_first}
use Rattle.apf_picture.proofs.totals.sums.Goals as goal

pub loop-change-preserved : goal.loop-change-preserved
loop-change-preserved c =
    let changes = c.args.changes.now in
    let n = c.loop-change.change-index in
    let total = sum_by_more amount_of changes n (record { time = 0; amount = 0 }) c.loop-change-test.true in
    let more = map-range_with_len_more (sum_of_first changes) 0 (n + 1) (n + 1) (omega arith) in
    let next : c.loop-change.total + c.from-total.result ≡ sum_of_first changes (n + 1) = omega (arith, total, c.loop-change.invariant.total, c.from-total.ensures) in
    record {
      sums = grind (arith, more, next, c.in_ok-push-2.ensures.items, c.loop-change.invariant.sums);
      total = next;
      few = omega (arith, c.loop-change.invariant.few, c.from-total.ensures);
    }
