-- It came so many times.
use Rattle.std.proofs.Common.{replicate, length}
use Rattle.apf_objects.specs.Cluster.{cluster_view}
use Rattle.apf_audit.specs.AuditEvent.{event}
use Rattle.apf_cluster.specs.Beside.{IsReady, TakesMore}
use Rattle.apf_cluster.specs.Runs.{HaveLevels, course_of}
use Rattle.apf_cluster.proofs.beside.take_often.Given as goal

abbrev pub invariant-loop-time : goal.invariant-loop-time
invariant-loop-time l = record {
  ready : IsReady (length l.way.cluster.now.levels.items) l.going;
  takes : TakesMore (course_of l.way) (replicate l.time (event l.taken)) l.initial.going l.going;
  level : HaveLevels (cluster_view l.way.cluster.now) (replicate l.time (event l.taken));
}
