-- It came once more.
use Rattle.apf_objects.specs.Cluster.{cluster_view}
use Rattle.apf_audit.specs.AuditEvent.{event}
use Rattle.apf_cluster.specs.Runs.{course_of}
use Rattle.apf_cluster.proofs.Twice.{no_times, once_more, once_more_level}
use Rattle.apf_cluster.proofs.beside.take_often.Goals as goal

pub loop-time-init : goal.loop-time-init
loop-time-init c = record { ready = c.requires.ready; takes = no_times (course_of c.args.way) c.args.going.now; level = tt }

pub loop-time-preserved : goal.loop-time-preserved
loop-time-preserved c =
    let i = c.loop-time.invariant in
    let e = c.in_ok-take_next.ensures in
    let n = c.loop-time.time in
    record {
      ready = e.ready;
      takes = once_more (course_of c.args.way) (event c.args.taken.now) n c.args.going.now c.loop-time.going c.take_next.new.going i.takes e.takes;
      level = once_more_level (cluster_view c.args.way.cluster.now) (event c.args.taken.now) n i.level e.level;
    }
