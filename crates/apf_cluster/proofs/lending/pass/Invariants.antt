-- The periods so far ended.
use Rattle.std.proofs.Common.{◌≡◌, ◌*◌, suc, List, length}
use Rattle.apf_audit.specs.AuditEvent.{Event}
use Rattle.apf_cluster.specs.Lending.{period}
use Rattle.apf_cluster.specs.Runs.{AreInTime, AreLived, Reaches, course_of}
use Rattle.apf_cluster.proofs.lending.pass.Given as goal

abbrev pub invariant-loop-period : goal.invariant-loop-period
invariant-loop-period l = record {
  count : length l.lanes.items ≡ length l.initial.lanes.items;
  ended : l.ended ≡ l.period;
  forward : AreInTime l.by l.lanes.items;
  next : AreInTime (period * suc l.period) l.lanes.items;
  lived : AreLived l.lanes.items;
  reaches : (told : List Event) → Reaches (course_of l.way) told l.initial.lanes.items l.periods → Reaches (course_of l.way) told l.lanes.items l.ended;
}
