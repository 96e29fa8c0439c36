-- The numbers are small, as each event adds one width at most.
use Rattle.std.proofs.Common.{◌≡◌, ◌*◌, ◌≤◌, ◌∷◌, length, slice_index, arith}
use Rattle.apf_history.specs.Fair.{numbers}
use Rattle.apf_plain.specs.Histories.{AreNumbers}
use Rattle.apf_plain.proofs.VirtualTime.{numbers_below, items_below}
use Rattle.apf_plain.proofs.virtual_time.+numbers_of.Goals as goal

pub returns-clause-small : goal.returns-clause-small
returns-clause-small t c = λ q.
    let h = c.in-Some.newest.now ∷ c.in-Some.before.now in
    let few : length h ≡ length c.args.history.now = (let n = c.in-Some.ensures.cases.1 in omega arith) in
    let same : AreNumbers c.args.queues (numbers c.args.queues c.args.widths.now h) c.follow.new.numbers =
    c.in_ok-follow.ensures c.args.queues (numbers c.args.queues c.args.widths.now c.in-Some.before.now) c.in_ok-numbers.ensures.numbers in
    let b : slice_index c.follow.new.numbers.next.items q ≤ length h * 4294967295 =
    items_below c.args.queues (length h * 4294967295) (numbers c.args.queues c.args.widths.now h) c.follow.new.numbers same
    (numbers_below c.args.queues c.args.widths.now 4294967295 (λ r. omega (arith, c.type_inv.widths r)) h) q in
    omega (arith, c.requires.short)
