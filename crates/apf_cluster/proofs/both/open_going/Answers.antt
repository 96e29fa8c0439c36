-- Nobody came yet.
use Rattle.std.proofs.Common.{map, arith}
use Rattle.apf_changes.specs.Scenarios.{assigned_view}
use Rattle.apf_objects.specs.Levels.{level_view}
use Rattle.apf_cluster.proofs.HandedOut.{as_many, new_in_time, new_lived}
use Rattle.apf_cluster.proofs.both.open_going.Goals as goal

pub returns-clause-ready : goal.returns-clause-ready
returns-clause-ready c =
    let terms = c.args.terms in
    let fixed = map assigned_view c.args.fixed.now in
    let all = c.sum_of_shares.result in
    let lanes = c.in_ok-lanes.lanes.items in
    record {
      count = as_many terms fixed all c.args.levels.now lanes c.in_ok-lanes.ensures;
      in_time = new_in_time terms fixed all (map level_view c.args.levels.now) lanes c.in_ok-lanes.ensures;
      next = omega arith;
      lived = new_lived terms fixed all (map level_view c.args.levels.now) lanes c.in_ok-lanes.ensures;
    }
