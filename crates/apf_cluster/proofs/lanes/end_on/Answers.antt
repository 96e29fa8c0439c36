use Rattle.std.proofs.Common.{refl}
use Rattle.apf_cluster.specs.declared.lanes.LevelLane.{LevelLane}
use Rattle.apf_cluster.proofs.GoingOn.{IsSameLane, alive_too, ends_on}
use Rattle.apf_cluster.proofs.lanes.end_on.Goals as goal

pub returns-clause-goes : goal.returns-clause-goes
returns-clause-goes c =
    let mid : LevelLane = c.advance_on.new.level in
    let last : LevelLane = record mid { asking = c.end_period.new.asking } in
    let same : IsSameLane mid last = record { lane = refl; late = refl; drawn = refl; nominal = refl } in
    ends_on c.args.at c.in_ok-claim.claim c.args.level.now mid last c.in_ok-advance_on.ensures.goes same c.in_ok-claim.ensures.claims

pub returns-clause-lived : goal.returns-clause-lived
returns-clause-lived c =
    let mid : LevelLane = c.advance_on.new.level in
    let last : LevelLane = record mid { asking = c.end_period.new.asking } in
    let same : IsSameLane mid last = record { lane = refl; late = refl; drawn = refl; nominal = refl } in
    alive_too mid last same c.in_ok-advance_on.ensures.lived
