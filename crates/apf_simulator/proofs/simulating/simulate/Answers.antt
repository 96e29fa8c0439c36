-- The whole trace ran, and what it came to is printed.
use Rattle.std.proofs.KnownBytes.{Keeps-refl}
use Rattle.apf_simulator.proofs.Whole.{simulated}
use Rattle.apf_simulator.proofs.simulating.simulate.Goals as goal

pub returns : goal.returns
returns g c = λ read.
    let before = g.W.Write.contents c.args.out.now in
    simulated c.args.config.now c.args.terms.patience c.args.terms.by c.args.terms.has_bound c.args.reader.now.window.size (g.R.Read.remaining c.args.input.now) (g.R.Read.remaining c.run_one.new.input) before (g.W.Write.contents c.run_one.new.out) (g.W.Write.contents c.print.new.out) c.in_ok-lane.lane
    (c.in_ok-lane.ensures before read (Keeps-refl before)) c.in_ok-print.ensures
