use Rattle.std.proofs.Common.{[], ◌∷◌, refl}
use Rattle.apf_cluster.specs.Runs.{KeepsOn}
use Rattle.apf_cluster.specs.declared.lanes.LevelLane.{LevelLane}
use Rattle.apf_cluster.proofs.GoingOn.{ahead_of, alive_on, draws_none, keeps, moves_on, takes_on}
use Rattle.apf_cluster.proofs.lanes.come_on.Goals as goal

pub hear-requires : goal.hear-requires
hear-requires c =
    let v : LevelLane = c.args.level.now in
    let more = c.args.came.now ∷ [] in
    record { ahead = ahead_of [] more v c.arrive.new.self c.meet.new.self (moves_on more v.lane c.arrive.new.self c.in_ok-arrive.ensures.goes) c.in_ok-meet.ensures.counts c.requires.lived }

pub returns-clause-goes : goal.returns-clause-goes
returns-clause-goes c =
    let v : LevelLane = c.args.level.now in
    let more = c.args.came.now ∷ [] in
    let e = c.in_ok-hear.ensures in
    let v' : LevelLane = record v { lane = c.arrive.new.self; asking = c.hear.new.asking; late = c.hear.new.late; drawn = c.hear.new.drawn } in
    let goes : KeepsOn [] more v v' = keeps [] more v v' c.meet.new.self v.drawn (moves_on more v.lane v'.lane c.in_ok-arrive.ensures.goes) c.in_ok-meet.ensures.counts e.counts (draws_none v.drawn) e.draws refl in
    takes_on c.args.came.now v v' c.come.new.asking c.in_ok-come.ensures goes e.over

pub returns-clause-lived : goal.returns-clause-lived
returns-clause-lived c =
    let v : LevelLane = c.args.level.now in
    let more = c.args.came.now ∷ [] in
    let e = c.in_ok-hear.ensures in
    let v' : LevelLane = record v { lane = c.arrive.new.self; asking = c.hear.new.asking; late = c.hear.new.late; drawn = c.hear.new.drawn } in
    alive_on [] more v v' (keeps [] more v v' c.meet.new.self v.drawn (moves_on more v.lane v'.lane c.in_ok-arrive.ensures.goes) c.in_ok-meet.ensures.counts e.counts (draws_none v.drawn) e.draws refl) c.requires.lived
