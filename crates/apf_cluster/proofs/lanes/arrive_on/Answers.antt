use Rattle.std.proofs.Common.{refl}
use Rattle.apf_cluster.specs.declared.lanes.LevelLane.{LevelLane}
use Rattle.apf_cluster.proofs.GoingOn.{IsSameLane, alive_too, takes_then}
use Rattle.apf_cluster.proofs.lanes.arrive_on.Goals as goal

pub returns-clause-goes : goal.returns-clause-goes
returns-clause-goes c =
    let done : LevelLane = c.come_on.new.level in
    let last : LevelLane = record done { turned_away = c.in_ok-level.field-0 } in
    let same : IsSameLane done last = record { lane = refl; late = refl; drawn = refl; nominal = refl } in
    takes_then c.args.came.now c.args.level.now c.advance_on.new.level done last c.in_ok-advance_on.ensures.goes c.in_ok-come_on.ensures.goes same refl

pub returns-clause-lived : goal.returns-clause-lived
returns-clause-lived c =
    let done : LevelLane = c.come_on.new.level in
    let last : LevelLane = record done { turned_away = c.in_ok-level.field-0 } in
    let same : IsSameLane done last = record { lane = refl; late = refl; drawn = refl; nominal = refl } in
    alive_too done last same c.in_ok-come_on.ensures.lived
