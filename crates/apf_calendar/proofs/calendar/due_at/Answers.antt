use Rattle.std.proofs.Common.{refl, arith}
use Rattle.apf_times.specs.Dues.{finish, giving_up}
use Rattle.apf_calendar.proofs.Dues.{due_holds, due_waits}
use Rattle.apf_calendar.proofs.calendar.due_at.Goals as goal

pub overflow_add-result-in-Holds : goal.overflow_add-result-in-Holds
overflow_add-result-in-Holds c =
    let low = c.requires.low (finish c.args.guest.line c.in-Holds.since c.args.guest.times.runs_for) (due_holds c.args.patience c.args.guest c.in-Holds.since c.in-Holds.is) in
    omega arith

pub returns-in-Waits-2-clause-some : goal.returns-in-Waits-2-clause-some
returns-in-Waits-2-clause-some c = (giving_up c.args.guest.line c.args.guest.times.arrives_at c.args.patience, due_waits c.args.patience c.args.guest c.in-Waits-2.is c.if-patience-eq0.false, refl)

pub returns-in-Holds-clause-some : goal.returns-in-Holds-clause-some
returns-in-Holds-clause-some c = (finish c.args.guest.line c.in-Holds.since c.args.guest.times.runs_for, due_holds c.args.patience c.args.guest c.in-Holds.since c.in-Holds.is, refl)
