use Rattle.std.proofs.Common.{◌≡◌, ◌∙◌, List, Some, None, get_or, map, ap}
use Rattle.apf_objects.specs.Levels.{level_view}
use Rattle.apf_matching.specs.First.{place_from}
use Rattle.apf_matching.specs.Limits.{nominal_of as part_of, sum_of_shares}
use Rattle.apf_objects.specs.declared.level.Level.{Level}
use Rattle.apf_changes.specs.Lists.{is_level}
use Rattle.apf_changes.specs.Scenarios.{scenario_view, assigned_view, last_of}
use Rattle.apf_changes.proofs.Nominal.{no_level, fixed, shared}
use Rattle.apf_changes.proofs.Parts.{is_part}
use Rattle.apf_changes.proofs.numbers.nominal_seats.Goals as goal

pub returns-in_default : goal.returns-in_default
returns-in_default c =
    let levels = c.args.scenario.now.cluster.levels.items in
    let nowhere : place_from (is_level c.args.name.now) 0 (map level_view levels) ≡ None = cc (c.level_place.ensures.value, c.as_slice-levels.ensures.value, c.in_default.is) in
    no_level (scenario_view c.args.scenario.now) c.args.name.now levels nowhere

pub share_of-requires-clause-part : goal.share_of-requires-clause-part
share_of-requires-clause-part c = is_part c.as_slice-levels.result.now c.in-Some.place c.index-levels-place.result c.in-Some.ensures.within

pub returns-in-Some-last_of : goal.returns-in-Some-last_of
returns-in-Some-last_of c =
    let levels = c.args.scenario.now.cluster.levels.items in
    let at : place_from (is_level c.args.name.now) 0 (map level_view levels) ≡ Some c.in-Some.place =
    cc (c.level_place.ensures.value, c.as_slice-levels.ensures.value, c.in-Some.is) in
    let set : last_of c.args.name.now (map assigned_view c.args.scenario.now.nominal.items) ≡ Some c.in-Some-last_of.seats =
    cc (c.last_of.ensures, c.as_slice.ensures.value, c.in-Some-last_of.is) in
    fixed (scenario_view c.args.scenario.now) c.args.name.now levels c.in-Some.place c.in-Some-last_of.seats at set

pub returns-in-None : goal.returns-in-None
returns-in-None c =
    let levels = c.args.scenario.now.cluster.levels.items in
    let at : place_from (is_level c.args.name.now) 0 (map level_view levels) ≡ Some c.in-Some.place =
    cc (c.level_place.ensures.value, c.as_slice-levels.ensures.value, c.in-Some.is) in
    let set : last_of c.args.name.now (map assigned_view c.args.scenario.now.nominal.items) ≡ None =
    cc (c.last_of.ensures, c.as_slice.ensures.value, c.in-None.is) in
    let share : c.share_of.result ≡ part_of c.args.scenario.now.seats (get_or levels c.in-Some.place c.index-levels-place.result).settings.shares (sum_of_shares (map level_view levels)) =
    c.share_of.ensures ∙ ap (λ (them : List Level). part_of c.args.scenario.now.seats (get_or them c.in-Some.place c.index-levels-place.result).settings.shares (sum_of_shares (map level_view them))) c.as_slice-levels.ensures.value in
    ap Some share ∙ shared (scenario_view c.args.scenario.now) c.args.name.now levels c.in-Some.place c.index-levels-place.result at set
