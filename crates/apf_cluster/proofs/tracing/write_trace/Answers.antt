-- The line of one more was written, or the whole log was read.
use Rattle.std.proofs.Common.{[], Option, subst}
use Rattle.std.specs.Prelude.{is_some, option_map}
use Rattle.apf_audit.specs.AuditEvent.{event}
use Rattle.apf_audit.specs.declared.event.Taken.{Taken}
use Rattle.apf_objects.specs.Cluster.{cluster_view}
use Rattle.apf_joined_reader.specs.Reading.{inputs}
use Rattle.apf_cluster.specs.Runs.{choice_by}
use Rattle.apf_cluster.specs.Traces.{HaveWritten}
use Rattle.apf_cluster.proofs.HandedOut.{alike_then, first_fed}
use Rattle.apf_cluster.proofs.Written.{all_written, more_written, none_written}
use Rattle.apf_cluster.proofs.tracing.write_trace.Goals as goal

pub requests-preserved : goal.requests-preserved
requests-preserved g c =
    let e = c.in_ok-next-in-Some.ensures in
    let i = c.requests.invariant in
    let choice = choice_by c.args.cluster in
    let said = cluster_view c.args.cluster.now in
    let before = g.W.Write.contents c.args.out.now in
    let out = g.W.Write.contents c.requests.out in
    record {
      gone = λ was written.
          more_written choice said c.args.place c.start_of.result was (inputs (g.R.Read.remaining c.requests.input) (g.S.Read.remaining c.requests.lines)) (inputs (g.R.Read.remaining c.write_turn.new.input) (g.S.Read.remaining c.write_turn.new.lines)) (event c.in-Some.taken) (option_map event c.in_ok-next-in-Some.next) c.requests.reader c.write_turn.new.reader before out (g.W.Write.contents c.write_turn.new.out)
          (λ told. e.fed was told) e.written
          (subst (λ (n : Option Taken). HaveWritten choice said c.args.place c.start_of.result was (inputs (g.R.Read.remaining c.requests.input) (g.S.Read.remaining c.requests.lines)) (option_map event n) c.requests.reader before out) c.in-Some.is (i.gone was written));
      alike = alike_then _ c.requests.reader c.write_turn.new.reader i.alike e.alike;
    }

pub returns-in-None : goal.returns-in-None
returns-in-None g c =
    let i = c.requests.invariant in
    let choice = choice_by c.args.cluster in
    let said = cluster_view c.args.cluster.now in
    let was = inputs (g.R.Read.remaining c.args.input.now) (g.S.Read.remaining c.args.lines.now) in
    let mid = inputs (g.R.Read.remaining c.next.new.input) (g.S.Read.remaining c.next.new.lines) in
    let left = inputs (g.R.Read.remaining c.requests.input) (g.S.Read.remaining c.requests.lines) in
    let before = g.W.Write.contents c.args.out.now in
    let out = g.W.Write.contents c.requests.out in
    λ fresh.
    let fed = first_fed choice was mid c.in_ok-next.next c.next.new.self (c.in_ok-next.ensures.answers [] [] [] (fresh choice was)) in
    let none = none_written choice said c.args.place c.start_of.result was mid (option_map event c.in_ok-next.next) c.next.new.self before fed c.start_of.ensures in
    let alike = alike_then c.args.reader.now c.next.new.self c.requests.reader c.in_ok-next.ensures.alike i.alike in
    all_written choice said c.args.place c.start_of.result c.args.reader.now.reader.window.size (is_some c.args.reader.now.halves) was left c.requests.reader before out alike.size alike.lines
    (subst (λ (n : Option Taken). HaveWritten choice said c.args.place c.start_of.result was left (option_map event n) c.requests.reader before out) c.in-None.is (i.gone was none))
