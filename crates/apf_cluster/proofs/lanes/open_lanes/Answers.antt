-- One more lane, and no level is left.
use Rattle.std.proofs.Common.{◌≡◌, ◌≤◌, ◌∙◌, List, [], ◌∷◌, ◌++◌, length, map, sym, ap, subst, rules, arith, append_assoc}
use Rattle.std.proofs.lemmas.List.{append-nil}
use Rattle.apf_matching.specs.Limits.{sum_of_shares}
use Rattle.apf_objects.specs.Levels.{level_view}
use Rattle.apf_objects.specs.declared.level.Level.{Level}
use Rattle.apf_changes.specs.Scenarios.{assigned_view}
use Rattle.apf_cluster.specs.Runs.{AreOpened}
use Rattle.apf_cluster.specs.declared.lanes.LevelLane.{LevelLane}
use Rattle.apf_cluster.proofs.Lived.{empty_by}
use Rattle.apf_cluster.proofs.lanes.open_lanes.Goals as goal

pub loop-level-preserved : goal.loop-level-preserved
loop-level-preserved c =
    let t = c.args.terms in
    let all = c.args.all in
    let fixed = map assigned_view c.args.fixed.now in
    let lanes = c.loop-level.lanes.items in
    let lane = c.in_ok-lane.lane in
    let level = c.in-Some.level.now in
    let others = c.in-Some.others.now in
    let split : c.loop-level.rest.now ≡ level ∷ others = search rules in
    let shares : sum_of_shares (map level_view (level ∷ others)) ≤ all = subst (λ (rest : List Level). sum_of_shares (map level_view rest) ≤ all) split c.loop-level.invariant.shares in
    record {
      shares = omega (arith, shares);
      opened = λ more are.
          subst (λ (ls : List LevelLane). AreOpened t fixed all (map level_view c.args.levels.now) ls)
          (sym (ap (λ (ls : List LevelLane). ls ++ more) c.in-Ok.ensures.items ∙ append_assoc lanes (lane ∷ []) more))
          (c.loop-level.invariant.opened (lane ∷ more) (subst (λ (rest : List Level). AreOpened t fixed all (map level_view rest) (lane ∷ more)) (sym split) (c.in_ok-lane.ensures, are)));
    }

pub returns : goal.returns
returns c =
    let t = c.args.terms in
    let all = c.args.all in
    let fixed = map assigned_view c.args.fixed.now in
    let none : length c.loop-level.rest.now ≡ 0 = search rules in
    subst (λ (lanes : List LevelLane). AreOpened t fixed all (map level_view c.args.levels.now) lanes) (append-nil c.loop-level.lanes.items)
    (c.loop-level.invariant.opened [] (subst (λ (rest : List Level). AreOpened t fixed all (map level_view rest) []) (sym (empty_by c.loop-level.rest.now none)) tt))
