-- One more came to both, or nobody does any more.
use Rattle.std.proofs.Common.{Option, subst}
use Rattle.std.specs.Prelude.{option_map}
use Rattle.apf_audit.specs.AuditEvent.{event}
use Rattle.apf_audit.specs.declared.event.Taken.{Taken}
use Rattle.apf_changes.specs.Scenarios.{scenario_view}
use Rattle.apf_joined_reader.specs.Reading.{inputs}
use Rattle.apf_cluster.specs.Beside.{HaveBothGone}
use Rattle.apf_cluster.specs.Runs.{course_of}
use Rattle.apf_cluster.proofs.HandedOut.{alike_then}
use Rattle.apf_cluster.proofs.Twice.{both_on}
use Rattle.apf_cluster.proofs.both.feed_both.Goals as goal

pub returns-in-None-clause-gone : goal.returns-in-None-clause-gone
returns-in-None-clause-gone g c = λ was gone.
    let w = c.args.ways in
    subst (λ (n : Option Taken). HaveBothGone w.first.choice.now (course_of w.first) (course_of w.second) (scenario_view w.scenario.now) was (inputs (g.R.Read.remaining c.requests.input) (g.S.Read.remaining c.requests.lines)) (option_map event n) c.requests.reader c.requests.first c.requests.second)
    c.in-None.is (c.requests.invariant.gone was gone)

pub requests-preserved : goal.requests-preserved
requests-preserved g c =
    let w = c.args.ways in
    let e = c.in_ok-next-in-Some.ensures in
    let i = c.requests.invariant in
    record {
      ready = e.ready;
      ready_too = e.ready_too;
      gone = λ was gone.
          both_on w.first.choice.now (course_of w.first) (course_of w.second) (scenario_view w.scenario.now) was (inputs (g.R.Read.remaining c.requests.input) (g.S.Read.remaining c.requests.lines)) (inputs (g.R.Read.remaining c.turn_both.new.input) (g.S.Read.remaining c.turn_both.new.lines)) (event c.in-Some.taken) (option_map event c.in_ok-next-in-Some.next)
          c.requests.reader c.turn_both.new.reader c.requests.first c.turn_both.new.first c.requests.second c.turn_both.new.second (λ told. e.fed was told) e.takes
          (subst (λ (n : Option Taken). HaveBothGone w.first.choice.now (course_of w.first) (course_of w.second) (scenario_view w.scenario.now) was (inputs (g.R.Read.remaining c.requests.input) (g.S.Read.remaining c.requests.lines)) (option_map event n) c.requests.reader c.requests.first c.requests.second) c.in-Some.is (i.gone was gone));
      alike = alike_then _ c.requests.reader c.turn_both.new.reader i.alike e.alike;
    }
