-- One event more, by the laws of the histories before and after it.
use Rattle.std.proofs.Common.{arith}
use Rattle.apf_history.specs.declared.events.Event.TheVariants.{Enter}
use Rattle.apf_book.proofs.Opened.{opened}
use Rattle.apf_book.proofs.Leavings.{seats_leave_at, seats_move_at}
use Rattle.apf_book.proofs.overtaking.follow_seats.Goals as goal

pub seats_after-requires-clause-some : goal.seats_after-requires-clause-some
seats_after-requires-clause-some c =
    let l = c.requires.legal in
    let some = seats_leave_at (opened c.legal_histories_are_in_order.ensures) l.0 l.1.0 c.args.log.now l.1.1 c.args.widths.now c.args.queue c.args.place (Enter 0 0) c.requires.in_log in
    let is = c.requires.counted in
    omega arith

pub seats_after-requires-clause-small : goal.seats_after-requires-clause-small
seats_after-requires-clause-small c = let small = c.requires.small in let low = c.ranges.place in omega arith

pub returns-clause-counted : goal.returns-clause-counted
returns-clause-counted c =
    let l = c.requires.legal in
    seats_move_at (opened c.legal_histories_are_in_order.ensures) l.0 l.1.0 c.args.log.now l.1.1 c.args.widths.now c.args.queue c.args.place (Enter 0 0) c.args.seats c.seats_after.result c.requires.in_log c.requires.counted c.seats_after.ensures.moved
