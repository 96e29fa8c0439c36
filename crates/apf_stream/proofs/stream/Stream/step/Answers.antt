-- What was due was done, and then what followed of it.
use Rattle.std.proofs.Common.{[], refl, arith}
use Rattle.apf_stream.specs.States.{State, state_of}
use Rattle.apf_stream.proofs.Calling.{call_due, called_run}
use Rattle.apf_stream.proofs.Chains.{ran_then}
use Rattle.apf_stream.proofs.Lefts.{carries_fewer}
use Rattle.apf_stream.proofs.stream.Stream.step.Goals as goal

pub call-requires : goal.call-requires
call-requires c =
    let carried = c.in-Some.carried in
    record { due = call_due (state_of c.args.self.now) c.args.by carried c.next_by.new.self c.requires.tied c.in-Some.ensures.some carried.guest.stay refl }

pub returns-clause-run : goal.returns-clause-run
returns-clause-run c =
    let s : State = state_of c.args.self.now in
    let carried = c.in-Some.carried in
    ran_then [] [] s (state_of c.call.new.self) (state_of c.follow.new.self) c.args.ends.now.items c.call.new.ends.items c.follow.new.ends.items
    (called_run s c.args.by carried c.next_by.new.self c.requires.tied c.in-Some.ensures.some c.in-Some.ensures.forward (state_of c.call.new.self) c.args.ends.now.items c.call.new.ends.items carried.guest.stay refl c.in_ok-call.ensures.calls)
    c.in_ok-follow.ensures.run

pub returns-clause-fewer : goal.returns-clause-fewer
returns-clause-fewer c more =
    let f = carries_fewer c.args.self.now.calendar c.args.by c.in-Some.carried c.next_by.new.self c.in-Some.ensures.some in
    let a = c.in_ok-call.ensures.no_more in
    let b = c.in_ok-follow.ensures.no_more in
    omega arith
