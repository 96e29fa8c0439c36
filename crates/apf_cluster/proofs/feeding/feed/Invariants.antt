-- What was handed out so far came to the lanes.
use Rattle.std.proofs.Common.{◌≡◌, ◌<◌, ◌*◌, suc, length}
use Rattle.std.specs.Prelude.{option_map}
use Rattle.apf_audit.specs.AuditEvent.{event}
use Rattle.apf_joined_reader.specs.Reading.{Inputs, IsAlike, inputs}
use Rattle.apf_cluster.specs.Lending.{period}
use Rattle.apf_cluster.specs.Runs.{AreInTime, AreLived, HaveGone, course_of}
use Rattle.apf_cluster.proofs.feeding.feed.Given as goal

abbrev pub invariant-requests : goal.invariant-requests
invariant-requests g l = record {
  count : length l.lanes.items ≡ length l.initial.lanes.items;
  in_time : AreInTime l.clock.last l.lanes.items;
  next : l.clock.last < period * suc l.clock.periods;
  lived : AreLived l.lanes.items;
  gone : (was : Inputs) → HaveGone l.way.choice.now (course_of l.way) was (inputs (g.R.Read.remaining l.initial.input) (g.S.Read.remaining l.initial.lines)) (option_map event l.initial.next) l.initial.reader l.initial.lanes.items 0
      → HaveGone l.way.choice.now (course_of l.way) was (inputs (g.R.Read.remaining l.input) (g.S.Read.remaining l.lines)) (option_map event l.next) l.reader l.lanes.items l.clock.periods;
  alike : IsAlike l.initial.reader l.reader;
}
