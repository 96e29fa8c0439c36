-- One turn more, and those in front are told.
use Rattle.std.proofs.Common.{List, ◌++◌, ◌∷◌, [], subst}
use Rattle.apf_stream.specs.declared.ended.Ended.{Ended}
use Rattle.apf_simulator.specs.Hearing.{Tells}
use Rattle.apf_simulator.proofs.Showing.{tells_more}
use Rattle.apf_simulator.proofs.telling.TellingListener.hear.Goals as goal

pub returns : goal.returns
returns g c = λ before turns t.
    let ends : List Ended = c.ends.result.now in
    let more : Tells before (g.W.Write.contents c.args.out.now) (turns ++ record { came = c.args.came; ends = ends } ∷ []) c.args.self.now.has_begun c.take.new.self =
    tells_more before (g.W.Write.contents c.args.out.now) turns c.args.self.now.has_begun c.args.came ends c.args.self.now.held c.take.new.self c.in_ok-take.ensures t in
    c.in_ok-tell.ensures before (turns ++ record { came = c.args.came; ends = c.args.lane.now.ends } ∷ [])
    (subst (λ (told : List Ended). Tells before (g.W.Write.contents c.args.out.now) (turns ++ record { came = c.args.came; ends = told } ∷ []) c.args.self.now.has_begun c.take.new.self) c.ends.ensures more)
