-- One more came, or nobody does any more.
use Rattle.std.proofs.Common.{Option, ◌∙◌, subst}
use Rattle.std.specs.Prelude.{option_map}
use Rattle.apf_audit.specs.AuditEvent.{event}
use Rattle.apf_audit.specs.declared.event.Taken.{Taken}
use Rattle.apf_joined_reader.specs.Reading.{inputs}
use Rattle.apf_cluster.specs.Runs.{HaveGone, course_of}
use Rattle.apf_cluster.proofs.HandedOut.{alike_then, gone_on}
use Rattle.apf_cluster.proofs.feeding.feed.Goals as goal

pub returns-in-None-clause-gone : goal.returns-in-None-clause-gone
returns-in-None-clause-gone g c = λ was gone.
    subst (λ (n : Option Taken). HaveGone c.args.way.choice.now (course_of c.args.way) was (inputs (g.R.Read.remaining c.requests.input) (g.S.Read.remaining c.requests.lines)) (option_map event n) c.requests.reader c.requests.lanes.items c.requests.clock.periods)
    c.in-None.is (c.requests.invariant.gone was gone)

pub requests-preserved : goal.requests-preserved
requests-preserved g c =
    let e = c.in_ok-next-in-Some.ensures in
    let i = c.requests.invariant in
    record {
      count = e.count ∙ i.count;
      in_time = e.in_time;
      next = e.next;
      lived = e.lived;
      gone = λ was gone.
          gone_on c.args.way.choice.now (course_of c.args.way) was (inputs (g.R.Read.remaining c.requests.input) (g.S.Read.remaining c.requests.lines)) (inputs (g.R.Read.remaining c.turn.new.input) (g.S.Read.remaining c.turn.new.lines)) (event c.in-Some.taken) (option_map event c.in_ok-next-in-Some.next) c.requests.reader c.turn.new.reader c.requests.lanes.items c.turn.new.lanes.items c.requests.clock.periods c.turn.new.clock.periods
          (λ told. e.fed was told) (λ told. e.reaches told) e.level
          (subst (λ (n : Option Taken). HaveGone c.args.way.choice.now (course_of c.args.way) was (inputs (g.R.Read.remaining c.requests.input) (g.S.Read.remaining c.requests.lines)) (option_map event n) c.requests.reader c.requests.lanes.items c.requests.clock.periods) c.in-Some.is (i.gone was gone));
      alike = alike_then _ c.requests.reader c.turn.new.reader i.alike e.alike;
    }
