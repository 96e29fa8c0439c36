-- One turn more.
use Rattle.std.proofs.Common.{List, [], ◌∷◌, ◌++◌, sym, subst}
use Rattle.apf_stream.specs.declared.ended.Ended.{Ended}
use Rattle.apf_simulator.specs.Hearing.{Holds}
use Rattle.apf_simulator.specs.declared.held.TimeWindow.{TimeWindow}
use Rattle.apf_simulator.proofs.Windowed.{holds_more}
use Rattle.apf_simulator.proofs.listed.ListingListener.hear.Goals as goal

pub returns : goal.returns
returns g c = λ before turns holds.
    let room = c.in_ok-make_room.ensures in
    let out = g.W.Write.contents c.args._out.now in
    let ends : List Ended = c.ends.result.now in
    subst (λ (w : TimeWindow). Holds w before out (turns ++ record { came = c.args.came; ends = c.args.lane.now.ends } ∷ []) c.take.new.self) (sym room.window)
    (subst (λ (told : List Ended). Holds c.args.self.now.window before out (turns ++ record { came = c.args.came; ends = told } ∷ []) c.take.new.self) c.ends.ensures
    (holds_more c.args.self.now.window before out turns c.args.came ends c.make_room.new.self.held c.take.new.self c.in_ok-take.ensures (room.held before out turns holds)))
