-- A request that came to the lock asked for what it asked for when it was begun.
use Rattle.std.proofs.Common.{rules}
use Rattle.apf_flow.specs.Deal.{hand_of}
use Rattle.apf_line.specs.Tries.{FoundNoSeatsSince}
use Rattle.apf_level.specs.LifeAdmission.{begun_pass}
use Rattle.apf_level.specs.LifeInPlace.{begin_of}
use Rattle.apf_level.proofs.LifeAsks.{asked_more, blocked_more, found_since, keeps, logs_found, logs_more, on_of, on_then}
use Rattle.apf_level.proofs.Knowing.{more_then}
use Rattle.apf_level.proofs.life.level.Level.arrive_late.Goals as goal

pub enqueue-requires-clause-asked : goal.enqueue-requires-clause-asked
enqueue-requires-clause-asked g c = λ κs outlive.
    asked_more c.args.pass.now.pass.knows c.loop.pass.pass.knows c.args.pass.now.pass.number c.loop.pass.pass.number (record { hash = c.args.hash; cost = c.args.cost }) c.loop.invariant.more c.loop.invariant.same.number c.requires.asked

pub returns-in-Queued-clause-logs : goal.returns-in-Queued-clause-logs
returns-in-Queued-clause-logs g c =
    let k = g.K.Naming.level in
    let known = c.args.pass.now.pass.knows.trace in
    let answer = begin_of c.enqueue.result.0 c.enqueue.new.pass in
    let blocked : FoundNoSeatsSince known c.loop.pass.pass.number c.loop.pass.pass.knows.trace = (search rules) in
    let on = keeps c.enqueue.result.0 c.enqueue.new.pass c.loop.pass.pass.knows.trace c.enqueue.ensures.goes_on in
    logs_found k known c.args.pass.now.pass.number (hand_of k.sizes c.args.hash) c.args.cost answer c.enqueue.result.1
    (found_since known c.loop.pass.pass.number c.args.pass.now.pass.number c.loop.pass.pass.knows.trace (begun_pass answer).pass.knows.trace c.loop.invariant.same.number on blocked)
    (logs_more k c.args.pass.now.pass.knows c.loop.pass.pass.knows c.args.pass.now.pass.number c.loop.pass.pass.number (hand_of k.sizes c.args.hash) c.args.cost answer c.enqueue.result.1 c.loop.invariant.more c.loop.invariant.same.number c.enqueue.ensures.logs)

pub loop-preserved : goal.loop-preserved
loop-preserved g c = record {
  next = search rules;
  ends = search rules;
  kept = search rules;
  same = search rules;
  more = more_then c.args.pass.now.pass.knows c.loop.pass.pass.knows c.take-again.new.pass.pass.knows c.loop.invariant.more c.take-again.ensures.more;
  told = search rules;
  outside = search rules;
  never_entered = search rules;
  found = blocked_more c.args.pass.now.pass.knows c.loop.pass.pass.knows c.take-again.result.0 c.take-again.new.pass c.loop.invariant.more c.take-again.ensures.after.found;
}

pub returns-in-Queued-clause-goes_on : goal.returns-in-Queued-clause-goes_on
returns-in-Queued-clause-goes_on g c = on_then c.args.pass.now.pass.knows.trace c.loop.pass.pass.knows.trace c.enqueue.new.pass.pass.knows.trace (on_of c.args.pass.now.pass.knows c.loop.pass.pass.knows c.loop.invariant.more) c.enqueue.ensures.goes_on
