use Rattle.std.proofs.Common.{[], refl}
use Rattle.apf_cluster.specs.Runs.{KeepsOn}
use Rattle.apf_cluster.specs.declared.lanes.LevelLane.{LevelLane}
use Rattle.apf_cluster.proofs.GoingOn.{ahead_of, alive_on, counts_nobody, draws_none, keeps, moves_on, runs_on}
use Rattle.apf_cluster.proofs.closing.finish.Goals as goal

pub hear-requires : goal.hear-requires
hear-requires c =
    let v : LevelLane = c.args.level.now in
    record { ahead = ahead_of [] [] v c.finish.new.self v.late (moves_on [] v.lane c.finish.new.self c.in_ok-finish.ensures.goes) (counts_nobody v.late) c.requires }

pub returns-clause-runs : goal.returns-clause-runs
returns-clause-runs c =
    let v : LevelLane = c.args.level.now in
    let e = c.in_ok-hear.ensures in
    let v' : LevelLane = record v { lane = c.finish.new.self; asking = c.hear.new.asking; late = c.hear.new.late; drawn = c.hear.new.drawn } in
    let goes : KeepsOn [] [] v v' = keeps [] [] v v' v.late v.drawn (moves_on [] v.lane v'.lane c.in_ok-finish.ensures.goes) (counts_nobody v.late) e.counts (draws_none v.drawn) e.draws refl in
    runs_on v v' goes e.over

pub returns-clause-lived : goal.returns-clause-lived
returns-clause-lived c =
    let v : LevelLane = c.args.level.now in
    let e = c.in_ok-hear.ensures in
    let v' : LevelLane = record v { lane = c.finish.new.self; asking = c.hear.new.asking; late = c.hear.new.late; drawn = c.hear.new.drawn } in
    alive_on [] [] v v' (keeps [] [] v v' v.late v.drawn (moves_on [] v.lane v'.lane c.in_ok-finish.ensures.goes) (counts_nobody v.late) e.counts (draws_none v.drawn) e.draws refl) c.requires
