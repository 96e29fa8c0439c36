-- The periods ended that end by then, and the request came.
use Rattle.std.proofs.Common.{◌*◌, suc, List, length, ap, ◌∙◌, arith}
use Rattle.std.proofs.Math.ListN.{length-set}
use Rattle.apf_audit.specs.AuditEvent.{event}
use Rattle.apf_cluster.specs.Lending.{period}
use Rattle.apf_cluster.specs.Runs.{course_of}
use Rattle.apf_cluster.specs.declared.lanes.LevelLane.{LevelLane}
use Rattle.apf_cluster.proofs.Coming.{one_more}
use Rattle.apf_cluster.proofs.Lived.{later}
use Rattle.apf_cluster.proofs.feeding.take.Goals as goal

pub pass-requires-clause-forward : goal.pass-requires-clause-forward
pass-requires-clause-forward c = later c.args.clock.last c.in_ok-at.at c.args.lanes.now.items c.if-at-clock.false c.requires.in_time

pub pass-requires-clause-next : goal.pass-requires-clause-next
pass-requires-clause-next c = let next = c.requires.next in later c.args.clock.last (period * suc c.args.clock.periods) c.args.lanes.now.items (omega (arith, next)) c.requires.in_time

pub returns-clause-reaches : goal.returns-clause-reaches
returns-clause-reaches c = λ told reaches.
    one_more (course_of c.args.way) told (event c.args.taken.now) c.pass.new.lanes.items c.take_at.new.lanes.items c.in_ok-periods.periods c.in_ok-take_at.ensures.takes (c.in_ok-periods.ensures.reaches told reaches)

pub returns-clause-count : goal.returns-clause-count
returns-clause-count c = (ap (λ (l : List LevelLane). length l) c.in_ok-take_at.ensures.takes.goes.is ∙ length-set _ _ _) ∙ c.in_ok-periods.ensures.count
