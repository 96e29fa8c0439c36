use Rattle.std.proofs.Common.{[], ◌∷◌, ◌∙◌, refl, ap}
use Rattle.apf_cluster.specs.Lending.{greatest_then, least_then}
use Rattle.apf_cluster.specs.Runs.{KeepsOn}
use Rattle.apf_cluster.specs.declared.lanes.LevelLane.{LevelLane}
use Rattle.apf_cluster.proofs.GoingOn.{ahead_of, alive_on, counts_nobody, keeps, moves_under, sets_on}
use Rattle.apf_cluster.proofs.lanes.set_on.Goals as goal

pub hear-requires : goal.hear-requires
hear-requires c =
    let v : LevelLane = c.args.level.now in
    let new = c.args.new in
    record { ahead = ahead_of (new ∷ []) [] v c.set_limit.new.self v.late (moves_under new v.lane c.set_limit.new.self c.in_ok-set_limit.ensures.goes) (counts_nobody v.late) c.requires.lived }

pub returns-clause-set : goal.returns-clause-set
returns-clause-set c =
    let v : LevelLane = c.args.level.now in
    let new = c.args.new in
    let e = c.in_ok-hear.ensures in
    let v' : LevelLane = record v { lane = c.set_limit.new.self; asking = c.hear.new.asking; late = c.hear.new.late; drawn = c.hear.new.drawn; least = c.least_then-level.result; greatest = c.greatest_then-level.result } in
    let goes : KeepsOn (new ∷ []) [] v v' = keeps (new ∷ []) [] v v' v.late c.set.new.self (moves_under new v.lane v'.lane c.in_ok-set_limit.ensures.goes) (counts_nobody v.late) e.counts c.in_ok-set.ensures.draws e.draws refl in
    record {
      goes = sets_on new v v' goes e.over;
      lent = refl;
      since = e.since;
      nominal = refl;
      draws = λ draws has. e.still draws (c.in_ok-set.ensures.still draws has);
      least = c.least_then-level.ensures ∙ ap (λ n. least_then n new.at new.limit v.least) e.since;
      greatest = c.greatest_then-level.ensures ∙ ap (λ n. greatest_then n new.at new.limit v.greatest) e.since;
      turned_away = refl;
    }

pub returns-clause-lived : goal.returns-clause-lived
returns-clause-lived c =
    let v : LevelLane = c.args.level.now in
    let new = c.args.new in
    let e = c.in_ok-hear.ensures in
    let v' : LevelLane = record v { lane = c.set_limit.new.self; asking = c.hear.new.asking; late = c.hear.new.late; drawn = c.hear.new.drawn; least = c.least_then-level.result; greatest = c.greatest_then-level.result } in
    alive_on (new ∷ []) [] v v' (keeps (new ∷ []) [] v v' v.late c.set.new.self (moves_under new v.lane v'.lane c.in_ok-set_limit.ensures.goes) (counts_nobody v.late) e.counts c.in_ok-set.ensures.draws e.draws refl) c.requires.lived
