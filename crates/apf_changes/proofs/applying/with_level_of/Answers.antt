use Rattle.std.proofs.Common.{codes}
use Rattle.apf_objects.specs.Cluster.{cluster_view}
use Rattle.apf_changes.proofs.Kept.{level_kept}
use Rattle.apf_changes.proofs.applying.with_level_of.Goals as goal

pub invariant_of-scenario : goal.invariant_of-scenario
invariant_of-scenario c =
    let changed = c.in_ok-scenario.ensures.ok in
    record {
      catch_all = level_kept c.args.name.now c.args.level.now (codes "catch-all") (cluster_view c.args.scenario.cluster) (cluster_view c.in_ok-scenario.field-0) changed c.args.scenario.catch_all;
      few_levels = rw c.in_ok-scenario.ensures.few c.args.scenario.few_levels;
      some_seats = c.args.scenario.some_seats;
      few_seats = c.args.scenario.few_seats;
    }
