-- The periods so far ended.
use Rattle.std.proofs.Common.{◌≡◌, ◌*◌, suc, List, length}
use Rattle.apf_audit.specs.AuditEvent.{Event}
use Rattle.apf_cluster.specs.Lending.{period}
use Rattle.apf_cluster.specs.Runs.{AreInTime, AreLived, Reaches, course_of}
use Rattle.apf_cluster.proofs.lending.pass_all.Given as goal

abbrev pub invariant-settling : goal.invariant-settling
invariant-settling l = record {
  count : length l.lanes.items ≡ length l.initial.lanes.items;
  next : AreInTime (period * suc l.ended) l.lanes.items;
  lived : AreLived l.lanes.items;
  reaches : (told : List Event) → Reaches (course_of l.way) told l.initial.lanes.items l.periods → Reaches (course_of l.way) told l.lanes.items l.ended;
}
