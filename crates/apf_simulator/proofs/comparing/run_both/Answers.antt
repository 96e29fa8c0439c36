-- Both lanes went on.
use Rattle.std.proofs.Common.{Option, None, subst}
use Rattle.std.specs.Io.KnownBytes.{Keeps}
use Rattle.std.proofs.KnownBytes.{Keeps-refl}
use Rattle.apf_simulator.specs.Feeds.{HaveGone}
use Rattle.apf_simulator.specs.Lanes.{LaneView}
use Rattle.apf_simulator.specs.Turns.{Begins}
use Rattle.apf_simulator.proofs.comparing.run_both.Goals as goal

pub returns-in-Some-clause-gone : goal.returns-in-Some-clause-gone
returns-in-Some-clause-gone g c = λ was fed.
    subst (λ (o : Option LaneView). HaveGone was (g.R.Read.remaining c.run.new.input) None c.run.new.reader c.args.lanes.one c.args.lanes.other c.run.new.lanes.one o (λ turns. Keeps (g.W.Write.contents c.args.out.now) (g.W.Write.contents c.run.new.out) × Begins c.args.first turns None))
    c.in-Some.is (c.in_ok-run.ensures.gone was (g.W.Write.contents c.args.out.now) fed (Keeps-refl (g.W.Write.contents c.args.out.now)))
