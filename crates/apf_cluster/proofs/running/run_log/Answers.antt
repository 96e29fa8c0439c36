-- The whole log was read, and each request came to the lane of its level.
use Rattle.std.proofs.Common.{◌≡◌, List, [], length, map, ap, ◌∙◌, arith}
use Rattle.std.specs.Prelude.{is_some, option_map}
use Rattle.std.proofs.lemmas.Result.{IfOk-weaker}
use Rattle.apf_objects.specs.Cluster.{cluster_view}
use Rattle.apf_objects.specs.Levels.{level_view}
use Rattle.apf_objects.specs.declared.level.Level.{Level}
use Rattle.apf_matching.specs.Limits.{sum_of_shares}
use Rattle.apf_audit.specs.AuditEvent.{event}
use Rattle.apf_joined_reader.specs.Reading.{inputs}
use Rattle.apf_cluster.specs.Runs.{AreOpened, Course, choice_by}
use Rattle.apf_cluster.proofs.HandedOut.{alike_then, all_opened, as_many, first_fed, new_in_time, new_lived, none_gone, ran_log}
use Rattle.apf_cluster.proofs.running.run_log.Goals as goal

pub feed-requires-clause-count : goal.feed-requires-clause-count
feed-requires-clause-count g c =
    as_many c.args.terms _ c.sum_of_shares.result c.as_slice-levels.result.now c.in_ok-lanes.lanes.items c.in_ok-lanes.ensures ∙ ap (λ (l : List Level). length l) c.as_slice-levels.ensures.value

pub feed-requires-clause-few : goal.feed-requires-clause-few
feed-requires-clause-few g c =
    let many = as_many c.args.terms _ c.sum_of_shares.result c.as_slice-levels.result.now c.in_ok-lanes.lanes.items c.in_ok-lanes.ensures ∙ ap (λ (l : List Level). length l) c.as_slice-levels.ensures.value in
    let few = c.requires.levels in
    omega (arith, many, few)

pub feed-requires-clause-in_time : goal.feed-requires-clause-in_time
feed-requires-clause-in_time g c =
    new_in_time c.args.terms _ c.sum_of_shares.result (map level_view c.as_slice-levels.result.now) c.in_ok-lanes.lanes.items c.in_ok-lanes.ensures

pub feed-requires-clause-lived : goal.feed-requires-clause-lived
feed-requires-clause-lived g c =
    new_lived c.args.terms _ c.sum_of_shares.result (map level_view c.as_slice-levels.result.now) c.in_ok-lanes.lanes.items c.in_ok-lanes.ensures

pub close_after-requires-clause-count : goal.close_after-requires-clause-count
close_after-requires-clause-count g c =
    let many = as_many c.args.terms _ c.sum_of_shares.result c.as_slice-levels.result.now c.in_ok-lanes.lanes.items c.in_ok-lanes.ensures ∙ ap (λ (l : List Level). length l) c.as_slice-levels.ensures.value in
    let few = c.requires.levels in
    let same = c.in_ok-periods.ensures.count in
    omega (arith, many, few, same)

pub returns-clause-each : goal.returns-clause-each
returns-clause-each g c =
    let count = as_many c.args.terms _ c.sum_of_shares.result c.as_slice-levels.result.now c.in_ok-lanes.lanes.items c.in_ok-lanes.ensures ∙ ap (λ (l : List Level). length l) c.as_slice-levels.ensures.value in
    IfOk-weaker c.close_after.result _ (λ tables. length tables.items ≡ length c.args.cluster.now.levels.items)
    (λ tables are. are ∙ (c.in_ok-periods.ensures.count ∙ count)) c.close_after.ensures.count

pub returns-clause-ran : goal.returns-clause-ran
returns-clause-ran g c =
    let terms = c.args.terms in
    let choice = choice_by c.args.cluster in
    let said = cluster_view c.args.cluster.now in
    let was = inputs (g.R.Read.remaining c.args.input.now) (g.S.Read.remaining c.args.lines.now) in
    let mid = inputs (g.R.Read.remaining c.next.new.input) (g.S.Read.remaining c.next.new.lines) in
    let left = inputs (g.R.Read.remaining c.feed.new.input) (g.S.Read.remaining c.feed.new.lines) in
    let lanes = c.in_ok-lanes.lanes.items in
    let start = c.start_of.result in
    let opened : AreOpened terms [] (sum_of_shares (map level_view c.args.cluster.now.levels.items)) (map level_view c.args.cluster.now.levels.items) lanes =
    all_opened terms [] c.sum_of_shares.result c.as_slice-levels.result.now c.args.cluster.now.levels.items lanes c.as_slice-levels.ensures.value c.sum_of_shares.ensures.value c.in_ok-lanes.ensures in
    let w : Course = record { cluster = said; terms = terms; fixed = []; start = start } in
    IfOk-weaker c.close_after.result _ _
    (λ tables closes. λ fresh.
    let fed = first_fed choice was mid c.in_ok-first.first c.next.new.self (c.in_ok-first.ensures.answers [] [] [] (fresh choice was)) in
    let none = none_gone choice w was mid (option_map event c.in_ok-first.first) c.next.new.self lanes fed opened c.start_of.ensures in
    let alike = alike_then c.args.reader.now c.next.new.self c.feed.new.reader c.in_ok-first.ensures.alike c.in_ok-periods.ensures.alike in
    ran_log choice said terms start c.args.reader.now.reader.window.size (is_some c.args.reader.now.halves) was left c.feed.new.reader c.feed.new.lanes.items c.in_ok-periods.periods tables.items alike.size alike.lines
    (c.in_ok-periods.ensures.gone was none) closes)
    c.close_after.ensures.tables
