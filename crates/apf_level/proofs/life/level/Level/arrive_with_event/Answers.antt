-- A request that came late asked for what it asked for when it was begun, and its steps go on.
use Rattle.apf_flow.specs.Deal.{hand_of}
use Rattle.apf_level.specs.LifeInPlace.{begin_of}
use Rattle.apf_level.proofs.LifeAsks.{asked_more, logs_before, on_of, on_then}
use Rattle.apf_level.proofs.life.level.Level.arrive_with_event.Goals as goal

pub arrive_late-requires-clause-asked : goal.arrive_late-requires-clause-asked
arrive_late-requires-clause-asked g c = λ κs outlive.
    asked_more c.args.pass.now.pass.knows c.attempt-tried.new.pass.pass.knows c.args.pass.now.pass.number c.attempt-tried.new.pass.pass.number (record { hash = c.args.hash; cost = c.args.cost }) c.attempt-tried.ensures.more c.attempt-tried.ensures.after.same.number c.requires.asked

pub returns-in-Blocked-clause-goes_on : goal.returns-in-Blocked-clause-goes_on
returns-in-Blocked-clause-goes_on g c =
    on_then c.args.pass.now.pass.knows.trace c.attempt-tried.new.pass.pass.knows.trace c.arrive_late.new.pass.pass.knows.trace (on_of c.args.pass.now.pass.knows c.attempt-tried.new.pass.pass.knows c.attempt-tried.ensures.more) c.arrive_late.ensures.goes_on

pub returns-in-Blocked-clause-logs : goal.returns-in-Blocked-clause-logs
returns-in-Blocked-clause-logs g c =
    let k = g.K.Naming.level in
    logs_before k c.args.pass.now.pass.knows c.attempt-tried.new.pass.pass.knows c.args.pass.now.pass.number c.attempt-tried.new.pass.pass.number (hand_of k.sizes c.args.hash) c.args.cost (begin_of c.arrive_late.result.0 c.arrive_late.new.pass) c.arrive_late.result.1
    c.attempt-tried.ensures.more c.attempt-tried.ensures.after.same.number c.arrive_late.ensures.logs
