-- The whole trace ran, and each fate is told.
use Rattle.apf_simulator.proofs.running.write_fates.Goals as goal

pub returns : goal.returns
returns g c = λ read.
    let before = g.W.Write.contents c.args.out.now in
    let h = c.in_ok-run_to_end.ensures before read (c.new-telling.ensures before) in
    record { turns = h.been.turns; lane = h.lane; ran = h.been.ran; told = c.in_ok-finish.ensures before h.been.turns h.been.heard_them }
