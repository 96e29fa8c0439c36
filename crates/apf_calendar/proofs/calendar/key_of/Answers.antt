use Rattle.std.proofs.Common.{arith}
use Rattle.apf_times.specs.Dues.{finish}
use Rattle.apf_calendar.proofs.Dues.{due_holds}
use Rattle.apf_calendar.proofs.calendar.key_of.Goals as goal

pub overflow_add-since : goal.overflow_add-since
overflow_add-since c =
    let low = c.requires.low (finish c.args.guest.line c.in-Holds.since c.args.guest.times.runs_for) (due_holds c.args.patience c.args.guest c.in-Holds.since c.in-Holds.is) in
    omega arith

pub number-requires-in-Holds-clause-low : goal.number-requires-in-Holds-clause-low
number-requires-in-Holds-clause-low c = c.requires.low (finish c.args.guest.line c.in-Holds.since c.args.guest.times.runs_for) (due_holds c.args.patience c.args.guest c.in-Holds.since c.in-Holds.is)
