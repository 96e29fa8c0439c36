-- The whole log was read once, and each request came to the lanes of both.
use Rattle.std.proofs.Common.{◌≡◌, List, [], map, None, refl, sym, ap, ap₂, subst}
use Rattle.std.specs.Prelude.{is_some, option_map}
use Rattle.apf_objects.specs.Cluster.{cluster_view}
use Rattle.apf_objects.specs.Levels.{level_view}
use Rattle.apf_objects.specs.declared.level.Level.{Level}
use Rattle.apf_audit.specs.AuditEvent.{Event, event}
use Rattle.apf_changes.specs.Scenarios.{AssignedSaid, assigned_view, scenario_view}
use Rattle.apf_changes.specs.declared.scenario.Assigned.{Assigned}
use Rattle.apf_joined_reader.specs.Reading.{inputs}
use Rattle.apf_cluster.specs.Beside.{HaveBothGone, IsNewGoing, choice_of_both, course_beside}
use Rattle.apf_cluster.specs.Runs.{Course, HasRun, Reaches}
use Rattle.apf_cluster.specs.declared.running.ClusterTerms.{ClusterTerms}
use Rattle.apf_cluster.proofs.HandedOut.{alike_then, first_fed}
use Rattle.apf_cluster.proofs.Twice.{both_ok, none_both, ran_both}
use Rattle.apf_cluster.proofs.both.run_both.Goals as goal

pub returns-clause-ran : goal.returns-clause-ran
returns-clause-ran g c =
    let said = cluster_view c.args.first.now in
    let s = scenario_view c.args.second.now in
    let terms = c.args.terms in
    let choice = choice_of_both c.args.first _ in
    let was = inputs (g.R.Read.remaining c.args.input.now) (g.S.Read.remaining c.args.lines.now) in
    let mid = inputs (g.R.Read.remaining c.next.new.input) (g.S.Read.remaining c.next.new.lines) in
    let left = inputs (g.R.Read.remaining c.feed_both.new.input) (g.S.Read.remaining c.feed_both.new.lines) in
    let start = c.start_of-start.result in
    let w : Course = record { cluster = said; terms = terms; fixed = []; start = start } in
    let w2 : Course = record { cluster = s.cluster; terms = c.terms_beside.result; fixed = map assigned_view c.as_slice-2.result.now; start = start } in
    let same : w2 ≡ course_beside terms s start =
    ap₂ (λ (t : ClusterTerms) (f : List AssignedSaid). record { cluster = s.cluster; terms = t; fixed = f; start = start }) c.terms_beside.ensures (ap (λ (l : List Assigned). map assigned_view l) c.as_slice-2.ensures.value) in
    let opened : IsNewGoing terms [] said.levels c.in_ok-going.going = subst (λ (l : List Level). IsNewGoing terms [] (map level_view l) c.in_ok-going.going) c.as_slice.ensures.value c.in_ok-going.ensures.opened in
    let opened_too : IsNewGoing w2.terms w2.fixed w2.cluster.levels c.in_ok-beside.beside = subst (λ (x : Course). IsNewGoing x.terms x.fixed x.cluster.levels c.in_ok-beside.beside) (sym same) c.in_ok-beside.ensures.opened in
    both_ok c.close_both.result _ _ _
    (λ tables closes closes_too. λ fresh.
    let fed = first_fed choice was mid c.in_ok-next.next c.next.new.self (c.in_ok-next.ensures.answers [] [] [] (fresh choice was)) in
    let none = none_both choice w w2 s was mid (option_map event c.in_ok-next.next) c.next.new.self c.in_ok-going.going c.in_ok-beside.beside fed opened opened_too c.start_of-start.ensures in
    let gone = subst (λ (x : Course). HaveBothGone choice w x s was left None c.feed_both.new.reader c.feed_both.new.first c.feed_both.new.second) same (c.in_ok-feed_both.ensures.gone was none) in
    let closes_two = subst (λ (x : Course). (told : List Event) → Reaches x told c.feed_both.new.second.lanes.items c.feed_both.new.second.clock.periods → HasRun x told tables.second.items) same closes_too in
    let alike = alike_then c.args.reader.now c.next.new.self c.feed_both.new.reader c.in_ok-next.ensures.alike c.in_ok-feed_both.ensures.alike in
    record {
      second = _;
      its = refl;
      ran = ran_both choice said terms s start c.args.reader.now.reader.window.size (is_some c.args.reader.now.halves) was left c.feed_both.new.reader c.feed_both.new.first c.feed_both.new.second tables alike.size alike.lines gone closes closes_two;
    })
    c.close_both.ensures.tables c.close_both.ensures.tables_too
