-- What was handed out so far came to the lanes of both.
use Rattle.std.proofs.Common.{length}
use Rattle.std.specs.Prelude.{option_map}
use Rattle.apf_audit.specs.AuditEvent.{event}
use Rattle.apf_changes.specs.Scenarios.{scenario_view}
use Rattle.apf_joined_reader.specs.Reading.{Inputs, IsAlike, inputs}
use Rattle.apf_cluster.specs.Beside.{HaveBothGone, IsReady}
use Rattle.apf_cluster.specs.Runs.{course_of}
use Rattle.apf_cluster.proofs.both.feed_both.Given as goal

abbrev pub invariant-requests : goal.invariant-requests
invariant-requests g l = record {
  ready : IsReady (length l.ways.first.cluster.now.levels.items) l.first;
  ready_too : IsReady (length l.ways.second.cluster.now.levels.items) l.second;
  gone : (was : Inputs) → HaveBothGone l.ways.first.choice.now (course_of l.ways.first) (course_of l.ways.second) (scenario_view l.ways.scenario.now) was (inputs (g.R.Read.remaining l.initial.input) (g.S.Read.remaining l.initial.lines)) (option_map event l.initial.next) l.initial.reader l.initial.first l.initial.second
      → HaveBothGone l.ways.first.choice.now (course_of l.ways.first) (course_of l.ways.second) (scenario_view l.ways.scenario.now) was (inputs (g.R.Read.remaining l.input) (g.S.Read.remaining l.lines)) (option_map event l.next) l.reader l.first l.second;
  alike : IsAlike l.initial.reader l.reader;
}
